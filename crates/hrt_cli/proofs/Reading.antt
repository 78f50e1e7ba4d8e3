-- What stands while a command reads its inputs.
use Rattle.std.proofs.Common.{◌≡◌, ◌⊎◌, ℕ, List, [], ◌∷◌, ◌++◌, Some, Ok, refl, sym, ◌∙◌, ap, subst, arith, inl, inr}
use Rattle.std.proofs.lemmas.Bool.{cases_eq}
use Rattle.hrt_base.specs.declared.port.Port.{Port}
use Rattle.hrt_base.specs.declared.host.Begun.TheVariants.{Reading}
use Rattle.hrt_base.specs.Calls.{AtStart}
use Rattle.hrt_base.specs.World.{World, Content, port_no, with_rest}
use Rattle.hrt_base.proofs.Pieces.{port_no-injective, put_here}
use Rattle.rank_tables.specs.Instance.{Lists}
use Rattle.hrt_inputs.specs.Inputs.{IsAt, KeepsPorts, OnlyRead, but_for_rest}
use Rattle.hrt_inputs.specs.Loading.{IsLoaded}
use Rattle.hrt_inputs.proofs.KeptPorts.{keeps_all, keeps_fewer, keeps_then, put_at_others}
use Rattle.hrt_inputs.proofs.Ports.{put_elsewhere}
use Rattle.hrt_cli.specs.Plans.{Input, IsInputPort, IsReadPort, ReadsTo, Value, instance_in, lists}
use Rattle.hrt_cli.proofs.BegunPorts.{stands_after}
use Rattle.hrt_cli.proofs.Inputs.{input_of_more, input_port, read_port, read_port_of_more, reads_on}
use Rattle.hrt_cli.proofs.Loads.{TakesInput, takes_instance}
use Rattle.hrt_cli.proofs.Runs.{reads_nothing}

pub then_only_read : (told : Type 0) (w v u : World) → OnlyRead told w v → OnlyRead told v u → OnlyRead told w u
then_only_read told w v u first second = record {
  later = omega (arith, first.later, second.later);
  write_faults = second.write_faults ∙ first.write_faults;
  writers = λ p. (λ x. (first.writers p).0 ((second.writers p).0 x), λ x. (second.writers p).1 ((first.writers p).1 x));
  content = λ t. second.content t ∙ ap (λ (c : Content). but_for_rest c u.content) (first.content t);
}

-- from the start of a run these inputs were read to their ends and are taken, and nothing else was done
pub record HasRead (told : Type 0) (inputs : List Input) (values : List Value) (old new : World) : Type 0 where
  pub start : AtStart told old
  pub only_read : OnlyRead told old new
  pub read_faults : new.read_faults ≡ old.read_faults
  pub readers : (p : Port) → new.begun p ≡ Reading → IsInputPort told [] inputs old.content.file p
  pub rest : told → (p : Port) → new.begun p ≡ Reading → new.content.rest p ≡ []
  pub reads : told → ReadsTo inputs old.content.file [] (Ok values)
  pub others : KeepsPorts told (IsReadPort inputs) old new

pub has_read_none : (told : Type 0) (w : World) → AtStart told w → HasRead told [] [] w w
has_read_none told w start = record {
  start = start;
  only_read = record { later = omega arith; write_faults = refl; writers = λ p. (λ x. x, λ x. x); content = λ t. refl };
  read_faults = refl;
  readers = λ p reading. absurd (reads_nothing told w start p reading);
  rest = λ t p reading. absurd (reads_nothing told w start p reading);
  reads = λ t. refl;
  others = keeps_all told (IsReadPort []) w;
}

-- a file is as it was before the reading
pub file_read : (told : Type 0) (name bytes : List ℕ) (old mid : World) → OnlyRead told old mid → told → mid.content.file name ≡ Some bytes → old.content.file name ≡ Some bytes
file_read told name bytes old mid read t file = sym (ap (λ (c : Content). c.file name) (read.content t)) ∙ file

-- and then one more
pub has_read_next : (told : Type 0) (inputs : List Input) (values : List Value) (i : Input) (value : Value) (old mid new : World) → HasRead told inputs values old mid → TakesInput told i values value mid new
    → HasRead told (inputs ++ i ∷ []) (values ++ value ∷ []) old new
has_read_next told inputs values i value old mid new read next = record {
  start = read.start;
  only_read = then_only_read told old mid new read.only_read next.only_read;
  read_faults = next.read_faults ∙ read.read_faults;
  readers = λ p reading. reader p (stands_after i.port Reading Reading mid new next.begun p reading);
  rest = λ t p reading. elim (cases_eq (port_no p) (port_no i.port)) [
    | inl same ↦
        let here : p ≡ i.port = port_no-injective p i.port same in
        ap (λ (c : Content). c.rest p) (next.content t) ∙ ap (with_rest i.port [] mid.content).rest here ∙ put_here i.port [] mid.content.rest
    | inr other ↦ ap (λ (c : Content). c.rest p) (next.content t) ∙ put_elsewhere i.port [] mid.content.rest p other ∙ read.rest t p (before p other (stands_after i.port Reading Reading mid new next.begun p reading))
  ];
  reads = λ t.
      let text = next.reads t in
      reads_on inputs (i ∷ []) old.content.file [] values (Ok (values ++ value ∷ [])) (read.reads t) (text.0, file_read told i.name text.0 old mid read.only_read t text.1, inr (value, text.2, refl));
  others = keeps_then told (IsReadPort (inputs ++ i ∷ [])) old mid new (keeps_fewer told (IsReadPort inputs) (IsReadPort (inputs ++ i ∷ [])) old mid (read_port_of_more inputs (i ∷ [])) read.others)
      (keeps_fewer told (IsAt i.port) (IsReadPort (inputs ++ i ∷ [])) mid new (λ p here. subst (IsReadPort (inputs ++ i ∷ [])) (sym here) (read_port inputs [] i)) kept);
}
  where
    reader : (p : Port) → (mid.begun p ≡ Reading) ⊎ (p ≡ i.port) → IsInputPort told [] (inputs ++ i ∷ []) old.content.file p
    reader p (inl was) = input_of_more told [] inputs (i ∷ []) old.content.file p (read.readers p was)
    reader p (inr here) = subst (IsInputPort told [] (inputs ++ i ∷ []) old.content.file) (sym here) (input_port told inputs [] i old.content.file (λ t. record { values = values; reads = read.reads t }))

    before : (p : Port) → (port_no p ≡ port_no i.port → ⊥) → (mid.begun p ≡ Reading) ⊎ (p ≡ i.port) → mid.begun p ≡ Reading
    before p other (inl was) = was
    before p other (inr here) = absurd (other (ap port_no here))

    kept : KeepsPorts told (IsAt i.port) mid new
    kept = record {
      name = λ t p other. ap (λ (c : Content). c.name p) (next.content t);
      rest = λ t p other. ap (λ (c : Content). c.rest p) (next.content t) ∙ put_at_others i.port [] mid.content.rest p other;
      sent = λ t p other. ap (λ (c : Content). c.sent p) (next.content t);
    }

-- the instance was read
pub has_read_instance : (told : Type 0) (name : List ℕ) (l : Lists) (old new : World) → AtStart told old → IsLoaded told name l old new → HasRead told (instance_in name ∷ []) (lists l ∷ []) old new
has_read_instance told name l old new start loaded =
    has_read_next told [] [] (instance_in name) (lists l) old old new (has_read_none told old start) (takes_instance told name [] l old new loaded)
