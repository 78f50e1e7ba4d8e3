-- Objectives, term by term.
use Rattle.std.proofs.Common.{◌≡◌, ◌∙◌, ℕ, ◌^◌, ◌<◌, Bool, true, false, List, [], ◌∷◌, ◌++◌, Option, Some, None, refl, sym, ap, append_assoc, arith, if◌then◌else◌}
use Rattle.std.specs.Prelude.{option_map, is_some, codes, bytes_eq}
use Rattle.std.proofs.lemmas.Bool.{lt-ltb}
use Rattle.std.proofs.lemmas.List.{append-nil}
use Rattle.hrt_base.specs.declared.literal.Term.{Term}
use Rattle.pb_rows.specs.Normal.{sizes}
use Rattle.row_text.specs.declared.readings.Reading.TheVariants.{Unspelled, TooBig as too_big, Value}
use Rattle.row_text.specs.Numbers.{both}
use Rattle.row_text.specs.Readings.{is_spelled, reading}
use Rattle.row_text.specs.Rows.{is_small_term, read_term}
use Rattle.row_text.proofs.Kept.{big-read, none-read, some-read, spelled-reading, unspelled-read, value-read}
use Rattle.opb_text.specs.declared.refusal.OpbRefusal.TheVariants.{Syntax, TooBig}
use Rattle.opb_text.specs.Refusal.{IsRefusedBy, objective_refusal, statement_refusal}
use Rattle.opb_text.specs.Statements.{minimize, read_objective}
use Rattle.opb_text.proofs.BigNumbers.{big_among}

-- these terms before others
abbrev pub onto : List Term → List Term → List Term
onto ts us = ts ++ us

abbrev with_first : Term → List Term → List Term
with_first t ts = t ∷ ts

pub no_terms : (o : Option (List Term)) → o ≡ option_map (onto []) o
no_terms None = refl
no_terms (Some ts) = refl

pushed : (ts : List Term) (t : Term) (o : Option (List Term)) → option_map (onto ts) (both with_first (Some t) o) ≡ option_map (onto (ts ++ t ∷ [])) o
pushed ts t None = refl
pushed ts t (Some us) = ap Some (sym (append_assoc ts (t ∷ []) us))

-- the loop's step: one more term
pub term_read : (whole : Option (List Term)) (ts : List Term) (t u : List ℕ) (rest : List (List ℕ)) (term : Term)
    → whole ≡ option_map (onto ts) (read_objective (t ∷ u ∷ rest)) → Value term ≡ reading is_small_term (read_term t u)
    → whole ≡ option_map (onto (ts ++ term ∷ [])) (read_objective rest)
term_read whole ts t u rest term is kept =
    let v = value-read is_small_term (read_term t u) term kept in
    is ∙ ap (λ (o : Option Term). option_map (onto ts) (both with_first o (read_objective rest))) v.0 ∙ pushed ts term (read_objective rest)

-- ---- the end

pub ended : (whole : Option (List Term)) (ts : List Term) (t : List ℕ) → whole ≡ option_map (onto ts) (read_objective (t ∷ [])) → bytes_eq t (codes ";") ≡ true → whole ≡ Some ts
ended whole ts t is end = is ∙ (rw end (ap Some (append-nil ts)))

pub not_ended : (whole : Option (List Term)) (ts : List Term) (t : List ℕ) → whole ≡ option_map (onto ts) (read_objective (t ∷ [])) → bytes_eq t (codes ";") ≡ false → whole ≡ None
not_ended whole ts t is other = is ∙ (rw other refl)

-- ---- what is refused

pub unspelled : (k : ℕ) (whole : Option (List Term)) → whole ≡ None → IsRefusedBy (statement_refusal k false 0 (option_map minimize whole)) (Syntax k)
unspelled k whole is = rw is refl

big_objective : (k : ℕ) (ts : List Term) → 2 ^ 119 < sizes ts → objective_refusal k false ts ≡ Some (TooBig k)
big_objective k ts h = rw (lt-ltb (2 ^ 119) (sizes ts) h) refl

pub no_term : (whole : Option (List Term)) (ts : List Term) (t u : List ℕ) (rest : List (List ℕ))
    → whole ≡ option_map (onto ts) (read_objective (t ∷ u ∷ rest)) → Unspelled ≡ reading is_small_term (read_term t u) → whole ≡ None
no_term whole ts t u rest is kept =
    is ∙ ap (λ (o : Option Term). option_map (onto ts) (both with_first o (read_objective rest))) (unspelled-read is_small_term (read_term t u) kept)

no_rest : (ts : List Term) (o : Option Term) (rest : Option (List Term)) → rest ≡ None → option_map (onto ts) (both with_first o rest) ≡ None
no_rest ts None rest is = refl
no_rest ts (Some t) rest is = rw is refl

pub bad_rest : (whole : Option (List Term)) (ts : List Term) (t u : List ℕ) (rest : List (List ℕ))
    → whole ≡ option_map (onto ts) (read_objective (t ∷ u ∷ rest)) → is_some (read_objective rest) ≡ false → whole ≡ None
bad_rest whole ts t u rest is bad = is ∙ no_rest ts (read_term t u) (read_objective rest) (none-read (read_objective rest) bad)

big_whole : (k : ℕ) (whole : Option (List Term)) (ts : List Term) (t : Term) (us : List Term) → is_small_term t ≡ false → whole ≡ Some (ts ++ t ∷ us)
    → IsRefusedBy (statement_refusal k false 0 (option_map minimize whole)) (TooBig k)
big_whole k whole ts t us big is = let much : 2 ^ 119 < sizes (ts ++ t ∷ us) = omega (arith, big_among ts t us big) in rw is (big_objective k (ts ++ t ∷ us) much)

pub big_term : (k : ℕ) (whole : Option (List Term)) (ts : List Term) (t u : List ℕ) (rest : List (List ℕ))
    → whole ≡ option_map (onto ts) (read_objective (t ∷ u ∷ rest)) → too_big ≡ reading is_small_term (read_term t u) → is_some (read_objective rest) ≡ true
    → IsRefusedBy (statement_refusal k false 0 (option_map minimize whole)) (TooBig k)
big_term k whole ts t u rest is kept some =
    let b = big-read is_small_term (read_term t u) kept in
    let r = some-read (read_objective rest) some in
    big_whole k whole ts b.0 r.0 b.2
    (is ∙ ap (λ (o : Option Term). option_map (onto ts) (both with_first o (read_objective rest))) b.1 ∙ ap (λ (o : Option (List Term)). option_map (onto ts) (both with_first (Some b.0) o)) r.1)

-- ---- whether an objective is spelled

some_both : (x : Term) (o : Option (List Term)) → is_some (both with_first (Some x) o) ≡ is_some o
some_both x None = refl
some_both x (Some y) = refl

pub spelled_term : (t u : List ℕ) (rest : List (List ℕ)) → is_spelled (reading is_small_term (read_term t u)) ≡ true → is_some (read_objective (t ∷ u ∷ rest)) ≡ is_some (read_objective rest)
spelled_term t u rest spelled =
    let r = some-read (read_term t u) (sym (spelled-reading is_small_term (read_term t u)) ∙ spelled) in
    ap (λ (o : Option Term). is_some (both with_first o (read_objective rest))) r.1 ∙ some_both r.0 (read_objective rest)

pub unspelled_term : (t u : List ℕ) (rest : List (List ℕ)) → is_spelled (reading is_small_term (read_term t u)) ≡ false → is_some (read_objective (t ∷ u ∷ rest)) ≡ false
unspelled_term t u rest unspelled =
    let r = none-read (read_term t u) (sym (spelled-reading is_small_term (read_term t u)) ∙ unspelled) in
    ap (λ (o : Option Term). is_some (both with_first o (read_objective rest))) r

ended_by : (b : Bool) → is_some {T = List Term} (if b then Some [] else None) ≡ b
ended_by true = refl
ended_by false = refl

pub spelled_end : (t : List ℕ) → is_some (read_objective (t ∷ [])) ≡ bytes_eq t (codes ";")
spelled_end t = ended_by (bytes_eq t (codes ";"))
