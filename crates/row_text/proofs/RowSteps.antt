-- Rows, term by term.
use Rattle.std.proofs.Common.{◌≡◌, ℕ, Bool, true, false, ◌&&◌, List, [], ◌∷◌, ◌++◌, Option, Some, None, ℤ, refl, sym, ap, ◌∙◌, append_assoc, if◌then◌else◌}
use Rattle.std.specs.Prelude.{option_map, is_some, codes, bytes_eq}
use Rattle.std.specs.List.{list_all}
use Rattle.std.proofs.lemmas.List.{append-nil}
use Rattle.std.proofs.lemmas.List.Folds.{list_all-append}
use Rattle.hrt_base.specs.declared.literal.Term.{Term}
use Rattle.pb_rows.specs.Terms.{Written}
use Rattle.row_text.specs.declared.readings.Reading.{Reading}
use Rattle.row_text.specs.declared.readings.Reading.TheVariants.{Unspelled, TooBig, Value}
use Rattle.row_text.specs.Numbers.{both, is_small}
use Rattle.row_text.specs.Readings.{is_spelled, reading}
use Rattle.row_text.specs.Rows.{is_small_row, is_small_term, read_right, read_row, read_term, row_end, with_term}
use Rattle.row_text.proofs.Kept.{value-read, big-read, unspelled-read, spelled-reading, some-read, none-read}

-- the row with these terms before its own
abbrev pub with_terms : List Term → Written → Written
with_terms ts row = record { terms = ts ++ row.terms; at_least = row.at_least }

pub no_terms : (o : Option Written) → o ≡ option_map (with_terms []) o
no_terms None = refl
no_terms (Some row) = refl

term_pushed : (ts : List Term) (t : Term) (o : Option Written) → option_map (with_terms ts) (both with_term (Some t) o) ≡ option_map (with_terms (ts ++ t ∷ [])) o
term_pushed ts t None = refl
term_pushed ts t (Some row) = ap (λ (us : List Term). Some (record { terms = us; at_least = row.at_least })) (sym (append_assoc ts (t ∷ []) row.terms))

-- a row that begins with no `>=`
at_term : (t u : List ℕ) (ts : List (List ℕ)) → bytes_eq t (codes ">=") ≡ false → read_row (t ∷ u ∷ ts) ≡ both with_term (read_term t u) (read_row ts)
at_term t u ts h = rw h refl

at_end : (t u : List ℕ) (ts : List (List ℕ)) → bytes_eq t (codes ">=") ≡ true → read_row (t ∷ u ∷ ts) ≡ row_end u ts
at_end t u ts h = rw h refl

-- the loop's step: one more term
pub term_read : (whole : Option Written) (ts : List Term) (t u : List ℕ) (rest : List (List ℕ)) (term : Term)
    → whole ≡ option_map (with_terms ts) (read_row (t ∷ u ∷ rest)) → bytes_eq t (codes ">=") ≡ false → Value term ≡ reading is_small_term (read_term t u)
    → whole ≡ option_map (with_terms (ts ++ term ∷ [])) (read_row rest)
term_read whole ts t u rest term is other kept =
    let v = value-read is_small_term (read_term t u) term kept in
    is ∙ ap (option_map (with_terms ts)) (at_term t u rest other ∙ ap (λ (o : Option Term). both with_term o (read_row rest)) v.0) ∙ term_pushed ts term (read_row rest)

pub term_small : (ts : List Term) (t u : List ℕ) (term : Term) → list_all is_small_term ts ≡ true → Value term ≡ reading is_small_term (read_term t u) → list_all is_small_term (ts ++ term ∷ []) ≡ true
term_small ts t u term small kept =
    let v = value-read is_small_term (read_term t u) term kept in
    let here : list_all is_small_term (term ∷ []) ≡ true = rw v.1 refl in
    list_all-append is_small_term ts (term ∷ []) ∙ rw (small, here) refl

-- no term stands where one is due
pub no_term : (whole : Option Written) (ts : List Term) (t u : List ℕ) (rest : List (List ℕ))
    → whole ≡ option_map (with_terms ts) (read_row (t ∷ u ∷ rest)) → bytes_eq t (codes ">=") ≡ false → Unspelled ≡ reading is_small_term (read_term t u) → whole ≡ None
no_term whole ts t u rest is other kept =
    is ∙ ap (option_map (with_terms ts)) (at_term t u rest other ∙ ap (λ (o : Option Term). both with_term o (read_row rest)) (unspelled-read is_small_term (read_term t u) kept))

-- a term that is too big
left_false : (p q : Bool) → p ≡ false → p && q ≡ false
left_false true q e = absurd cc
left_false false q e = refl

big_among : (ts : List Term) (t : Term) (us : List Term) → is_small_term t ≡ false → list_all is_small_term (ts ++ t ∷ us) ≡ false
big_among [] t us big = left_false (is_small_term t) (list_all is_small_term us) big
big_among (s ∷ ts) t us big = elim (is_small_term s) as (λ b. b && list_all is_small_term (ts ++ t ∷ us) ≡ false) [ true ↦ big_among ts t us big | false ↦ refl ]

big_row : (ts : List Term) (t : Term) (o : Option Written) → is_small_term t ≡ false
    → reading is_small_row (option_map (with_terms ts) (both with_term (Some t) o)) ≡ (if is_some o then TooBig else Unspelled)
big_row ts t None big = refl
big_row ts t (Some row) big = rw (left_false (list_all is_small_term (ts ++ t ∷ row.terms)) (is_small row.at_least) (big_among ts t row.terms big)) refl

pub big_term : (whole : Option Written) (ts : List Term) (t u : List ℕ) (rest : List (List ℕ))
    → whole ≡ option_map (with_terms ts) (read_row (t ∷ u ∷ rest)) → bytes_eq t (codes ">=") ≡ false → TooBig ≡ reading is_small_term (read_term t u)
    → reading is_small_row whole ≡ (if is_some (read_row rest) then TooBig else Unspelled)
big_term whole ts t u rest is other kept =
    let b = big-read is_small_term (read_term t u) kept in
    ap (reading is_small_row) (is ∙ ap (option_map (with_terms ts)) (at_term t u rest other ∙ ap (λ (o : Option Term). both with_term o (read_row rest)) b.1)) ∙ big_row ts b.0 (read_row rest) b.2

-- the end of a row
abbrev pub row_of : List Term → ℤ → Written
row_of ts n = record { terms = ts; at_least = n }

abbrev pub closed : List Term → Reading ℤ → Reading Written
closed ts (Value n) = Value (row_of ts n)
closed ts TooBig = TooBig
closed ts Unspelled = Unspelled

closed_by : (ts : List Term) (small : Bool) (n : ℤ) → is_small n ≡ small → list_all is_small_term ts ≡ true → closed ts (if small then Value n else TooBig) ≡ (if list_all is_small_term ts && is_small n then Value (row_of ts n) else TooBig)
closed_by ts true n s all = rw (all, s) refl
closed_by ts false n s all = rw (all, s) refl

closed_end : (ts : List Term) (o : Option ℤ) → list_all is_small_term ts ≡ true → closed ts (reading is_small o) ≡ reading is_small_row (option_map (with_terms ts) (option_map (row_of []) o))
closed_end ts None all = refl
closed_end ts (Some n) all = rw (append-nil ts) (closed_by ts (is_small n) n refl all)

pub row_closed : (whole : Option Written) (ts : List Term) (t u : List ℕ) (rest : List (List ℕ))
    → whole ≡ option_map (with_terms ts) (read_row (t ∷ u ∷ rest)) → bytes_eq t (codes ">=") ≡ true → list_all is_small_term ts ≡ true
    → closed ts (reading is_small (read_right u rest)) ≡ reading is_small_row whole
row_closed whole ts t u rest is end all =
    closed_end ts (read_right u rest) all ∙ ap (reading is_small_row) (sym (is ∙ ap (option_map (with_terms ts)) (at_end t u rest end)))

-- ---- whether a row is spelled

some_map : {A B : Type 0} (f : A → B) (o : Option A) → is_some (option_map f o) ≡ is_some o
some_map f None = refl
some_map f (Some x) = refl

some_both : {A B C : Type 0} (join : A → B → C) (x : A) (o : Option B) → is_some (both join (Some x) o) ≡ is_some o
some_both join x None = refl
some_both join x (Some y) = refl

pub spelled_term : (t u : List ℕ) (rest : List (List ℕ)) → bytes_eq t (codes ">=") ≡ false → is_spelled (reading is_small_term (read_term t u)) ≡ true
    → is_some (read_row (t ∷ u ∷ rest)) ≡ is_some (read_row rest)
spelled_term t u rest other spelled =
    let r = some-read (read_term t u) (sym (spelled-reading is_small_term (read_term t u)) ∙ spelled) in
    ap is_some (at_term t u rest other ∙ ap (λ (o : Option Term). both with_term o (read_row rest)) r.1) ∙ some_both with_term r.0 (read_row rest)

pub unspelled_term : (t u : List ℕ) (rest : List (List ℕ)) → bytes_eq t (codes ">=") ≡ false → is_spelled (reading is_small_term (read_term t u)) ≡ false
    → is_some (read_row (t ∷ u ∷ rest)) ≡ false
unspelled_term t u rest other unspelled =
    let r = none-read (read_term t u) (sym (spelled-reading is_small_term (read_term t u)) ∙ unspelled) in
    ap is_some (at_term t u rest other ∙ ap (λ (o : Option Term). both with_term o (read_row rest)) r)

pub spelled_end : (t u : List ℕ) (rest : List (List ℕ)) → bytes_eq t (codes ">=") ≡ true → is_some (read_row (t ∷ u ∷ rest)) ≡ is_spelled (reading is_small (read_right u rest))
spelled_end t u rest end = ap is_some (at_end t u rest end) ∙ some_map (row_of []) (read_right u rest) ∙ sym (spelled-reading is_small (read_right u rest))
