-- What stands on the ports while files are read.
use Rattle.std.proofs.Common.{◌≡◌, ◌↔◌, sym, ◌∙◌, ap, inl, inr, arith}
use Rattle.std.proofs.lemmas.Bool.{cases_eq}
use Rattle.std.proofs.lemmas.Bool.Decides.{nat_tests}
use Rattle.hrt_base.specs.declared.port.Port.{Port}
use Rattle.hrt_base.specs.declared.host.Begun.{Begun}
use Rattle.hrt_base.specs.declared.host.Begun.TheVariants.{Idle, Reading, Writing}
use Rattle.hrt_base.specs.World.{port_no, put}
use Rattle.hrt_base.proofs.Pieces.{port_no-injective, put_here}

pub idle_not_writing : (b : Begun) → b ≡ Idle → b ≡ Writing → ⊥
idle_not_writing b idle writing = let e : Idle ≡ Writing = sym idle ∙ writing in absurd (cc)

pub reading_not_writing : (b : Begun) → b ≡ Reading → b ≡ Writing → ⊥
reading_not_writing b reading writing = let e : Reading ≡ Writing = sym reading ∙ writing in absurd (cc)

pub put_elsewhere : {A : Type 0} (port : Port) (x : A) (f : Port → A) (p : Port) → (port_no p ≡ port_no port → ⊥) → put port x f p ≡ f p
put_elsewhere port x f p other = grind (arith, nat_tests)

-- a port that is begun for reading was not begun for writing, and is not now
pub reading_writers : (port : Port) (f : Port → Begun) → f port ≡ Idle → (p : Port) → (put port Reading f p ≡ Writing) ↔ (f p ≡ Writing)
reading_writers port f idle p = elim (cases_eq (port_no p) (port_no port)) [
  | inl same ↦
      let e : p ≡ port = port_no-injective p port same in
      let here : put port Reading f p ≡ Reading = ap (put port Reading f) e ∙ put_here port Reading f in
      (λ w. absurd (reading_not_writing _ here w), λ w. absurd (idle_not_writing (f p) (ap f e ∙ idle) w))
  | inr other ↦ let same : put port Reading f p ≡ f p = put_elsewhere port Reading f p other in (λ w. sym same ∙ w, λ w. same ∙ w)
]
