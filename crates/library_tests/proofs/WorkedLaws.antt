-- Texts that break the law of a written proof, one for each of its sentences.
use Rattle.std.specs.Prelude.{◌≡◌, ◌<◌, ℕ, true, false, List, [], ◌∷◌, ◌++◌, flat_map, codes, Option, Some, None}
use Rattle.std.proofs.Common.{arith, sym}
use Rattle.std.proofs.lemmas.Bool.{true≢false}
use Rattle.std.proofs.lemmas.List.Elements.{All-head}
use Rattle.proof_lines.specs.declared.line.PolStep.TheVariants.{Id}
use Rattle.proof_lines.specs.Spelling.{row_no}
use Rattle.derivation.specs.Traces.{IsKnownStep, IsLawfulText, trace_of}
use Rattle.library_tests.specs.Worked.{tied}

abbrev lined : List (List ℕ) → List ℕ
lined texts = flat_map (λ text. text ++ 10 ∷ []) texts

-- the header, the count, the bound row and its note; then these lines
abbrev behind_bound : List (List ℕ) → List ℕ
behind_bound texts = lined (codes "pseudo-Boolean proof version 2.0" ∷ codes "f 7" ∷ codes "pol 1 2 +" ∷ codes "* note bound 8" ∷ texts)

later : ◌≡◌ {A = Option ℕ} (Some 9) None → ⊥
later e = absurd (cc)

-- ---- behind the bound note

-- another bound note
twice : List ℕ
twice = behind_bound (codes "* note bound 8" ∷ [])

second_bound_note : IsLawfulText tied twice → ⊥
unfolding twice
second_bound_note h = later h.1.1.1.1.0.1.2

-- a `rup` line
implied : List ℕ
implied = behind_bound (codes "rup +1 ~x1 +1 ~x2 +1 ~x3 >= 0 ;" ∷ [])

rup_behind_bound : IsLawfulText tied implied → ⊥
unfolding implied
rup_behind_bound h = later h.1.1.1.1.0.1

-- a `pol` line that names a row from before the mark, which isn't held: that of the first pair
before_mark : List ℕ
before_mark = behind_bound (codes "pol 5" ∷ [])

row_before_mark : IsLawfulText tied before_mark → ⊥
unfolding before_mark
row_before_mark h =
    let unknown : false ≡ true = All-head (IsKnownStep (trace_of tied (behind_bound [])).told.held 9) (Id (row_no 5)) [] h.1.1.1.1.0.1.0 in
    true≢false (sym unknown)

-- ---- before it

-- a unit note of a row of the model
of_model : List ℕ
of_model = lined (codes "pseudo-Boolean proof version 2.0" ∷ codes "f 7" ∷ codes "* note unit 5" ∷ [])

unit_of_model_row : IsLawfulText tied of_model → ⊥
unfolding of_model
unit_of_model_row h = let behind : 7 < 5 = h.1.1.0.1.0 in omega (arith, behind)

-- a row of the model is deleted, and a line stands behind that
deleted : List ℕ
deleted = lined (codes "pseudo-Boolean proof version 2.0" ∷ codes "f 7" ∷ codes "del id 1" ∷ codes "pol 2" ∷ [])

model_row_deleted : IsLawfulText tied deleted → ⊥
unfolding deleted
model_row_deleted h = absurd (cc (h.1.1.1.0.0.model_live 1 (omega arith) (omega arith)))
