-- Names that are added one after the other, by number.
use Rattle.std.proofs.Common.{◌≡◌, ℕ, zero, suc, ◌+◌, ◌<◌, true, false, not, List, [], ◌∷◌, ◌++◌, length, take, Some, refl, sym, ap, ◌∙◌, add-one, arith}
use Rattle.std.specs.Prelude.{slice_get, bytes_eq}
use Rattle.std.proofs.lemmas.Bool.{and_parts, or_parts, or_from}
use Rattle.std.proofs.lemmas.Option.{slice_get_within, get_or_from_slice_get}
use Rattle.std.proofs.Math.Seq.{take-suc}
use Rattle.rank_tables.specs.Names.{is_among, are_apart}
use Rattle.rank_tables.specs.Instance.{Lists}
use Rattle.rank_tables.specs.WellFormed.{IsWellFormed}
use Rattle.hrt_text.proofs.Among.{not_true, bytes_eq-turned}
use Rattle.hrt_reader.specs.Spelling.{name_at}
use Rattle.hrt_reader.specs.Written.{names_of}
use Rattle.hrt_reader.specs.declared.pieces.Side.{Side}
use Rattle.hrt_reader.specs.declared.pieces.Side.TheVariants.{Residents, Hospitals}

not_at : (n name : List ℕ) (names : List (List ℕ)) (i : ℕ) → is_among n names ≡ false → slice_get names i ≡ Some name → bytes_eq n name ≡ false
not_at n name [] zero h at = absurd cc
not_at n name [] (suc i) h at = absurd cc
not_at n name (m ∷ names) zero h at = let same : m ≡ name = cc in ap (bytes_eq n) (sym same) ∙ (or_parts (bytes_eq n m) (is_among n names) h).0
not_at n name (m ∷ names) (suc i) h at = not_at n name names i (or_parts (bytes_eq n m) (is_among n names) h).1 at

-- a name is none of those before it
pub new_name : (name : List ℕ) (names : List (List ℕ)) (i : ℕ) → are_apart names ≡ true → slice_get names i ≡ Some name → is_among name (take i names) ≡ false
new_name name [] zero h at = absurd cc
new_name name [] (suc i) h at = absurd cc
new_name name (n ∷ names) zero h at = refl
new_name name (n ∷ names) (suc i) h at =
    let t = and_parts (not (is_among n names)) (are_apart names) h in
    or_from (bytes_eq name n) (is_among name (take i names)) (bytes_eq-turned n name (not_at n name names i (not_true _ t.0) at)) (new_name name names i t.1 at)

pub one_name_more : (name : List ℕ) (names : List (List ℕ)) (i : ℕ) → slice_get names i ≡ Some name → take (i + 1) names ≡ take i names ++ name ∷ []
one_name_more name names i at =
    let more : take (i + 1) names ≡ take i names ++ _ ∷ [] = rw add-one (take-suc names i [] (slice_get_within names i name at)) in
    more ∙ ap (λ (n : List ℕ). take i names ++ n ∷ []) (get_or_from_slice_get names i name [] at)

-- ---- the names of a side

pub name_there : (names : List (List ℕ)) (x : ℕ) → x < length names → slice_get names x ≡ Some (name_at names x)
name_there [] x lt = absurd (omega arith)
name_there (n ∷ names) zero lt = refl
name_there (n ∷ names) (suc x) lt = name_there names x (omega arith)

pub side_apart : (side : Side) (lists : Lists) → IsWellFormed lists → are_apart (names_of side lists) ≡ true
side_apart Residents lists wf = wf.residents_apart
side_apart Hospitals lists wf = wf.hospitals_apart
