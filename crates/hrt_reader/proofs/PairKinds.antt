-- The kinds of a line of a text of pairs, and the least line that has one.
use Rattle.std.proofs.Common.{◌≡◌, ℕ, suc, ◌+◌, ◌<◌, Bool, true, false, not, ◌&&◌, ◌||◌, cond, eqb, All, List, [], ◌∷◌, ◌++◌, length, take, drop, Option, Some, None, refl, sym, ap, subst, ◌∙◌, arith}
use Rattle.std.specs.Prelude.{IfNone}
use Rattle.std.proofs.lemmas.Bool.{and_parts, and_from, or_from, or_parts, not_from_false}
use Rattle.std.proofs.lemmas.Bool.Decides.{Decides-eqb, same_from_decides}
use Rattle.std.proofs.lemmas.List.{map-append}
use Rattle.std.proofs.lemmas.List.Elements.{filter_map-append, All-push}
use Rattle.std.proofs.lemmas.List.Folds.{list_any-append}
use Rattle.hrt_base.specs.declared.numbered.PairNo.{PairNo}
use Rattle.rank_tables.specs.Instance.{Lists}
use Rattle.rank_tables.specs.Numbers.{is_in, is_distinct}
use Rattle.rank_tables.specs.Tables.{IsPairNo, numbers_of}
use Rattle.hrt_text.specs.Text.{Row}
use Rattle.hrt_text.proofs.Among.{not_true}
use Rattle.hrt_reader.specs.PairsText.{blank, pair, other, pair_form, pair_named, pair_by, pairs_of_rows, unknown_in_pair, pair_kind_in, pairs_refusal}
use Rattle.hrt_reader.specs.PairsAnswer.{pair_kind_there}
use Rattle.hrt_reader.proofs.Places.{at, no_line_before, no_line_at_all, get_at, take_next, within_at}

-- ---- the kinds of a form

pub kind_blank : (lists : Lists) (before : List Row) → pair_kind_there lists before blank ≡ None
unfolding pair_kind_there
kind_blank lists before = refl

pub kind_other : (lists : Lists) (before : List Row) → pair_kind_there lists before other ≡ Some 1
unfolding pair_kind_there
kind_other lists before = refl

pub kind_unknown : (lists : Lists) (before : List Row) (r h : List ℕ) → unknown_in_pair lists (pair r h) ≡ true → pair_kind_there lists before (pair r h) ≡ Some 2
unfolding pair_kind_there
kind_unknown lists before r h unknown = rw unknown refl

pub kind_unacceptable : (lists : Lists) (before : List Row) (r h : List ℕ) → unknown_in_pair lists (pair r h) ≡ false → pair_named lists r h ≡ None → pair_kind_there lists before (pair r h) ≡ Some 3
unfolding pair_kind_there
kind_unacceptable lists before r h known none = rw (known, none) refl

pub kind_pair : (lists : Lists) (before : List Row) (r h : List ℕ) (p : ℕ) (b : Bool) → unknown_in_pair lists (pair r h) ≡ false → pair_named lists r h ≡ Some p
    → is_in p (pairs_of_rows lists before) ≡ b → pair_kind_there lists before (pair r h) ≡ cond b (Some 4) None
unfolding pair_kind_there
kind_pair lists before r h p b known named is = rw (known, named, is) refl

-- ---- lines at their places

pub pair_in_place : (lists : Lists) (all : List Row) (i : ℕ) (row : Row) (after : List Row) → drop i all ≡ row ∷ after → pair_kind_in lists all (suc i) ≡ pair_kind_there lists (take i all) (pair_form row)
unfolding pair_kind_there
pair_in_place lists all i row after e = rw (get_at all i row after e) refl

abbrev pub AreFine : Lists → List Row → ℕ → Type 0
AreFine lists all n = (k : ℕ) → k < n → pair_kind_in lists all (suc k) ≡ None

fine_from_one : (lists : Lists) (all : List Row) (k : ℕ) → pair_kind_in lists all (suc k) ≡ None → pair_kind_in lists all (1 + k) ≡ None
fine_from_one lists all k h = let s : 1 + k ≡ suc k = omega arith in subst (λ (j : ℕ). pair_kind_in lists all j ≡ None) (sym s) h

pub pairs_refused : (lists : Lists) (all : List Row) (i n : ℕ) (row : Row) (after : List Row) → drop i all ≡ row ∷ after → AreFine lists all i → pair_kind_there lists (take i all) (pair_form row) ≡ Some n → pairs_refusal lists all ≡ at (i + 1) n
pairs_refused lists all i n row after e fine here =
    let s : 1 + i ≡ suc i = omega arith in
    let found : pair_kind_in lists all (1 + i) ≡ Some n = subst (λ (j : ℕ). pair_kind_in lists all j ≡ Some n) (sym s) (pair_in_place lists all i row after e ∙ here) in
    let t : 1 + i ≡ i + 1 = omega arith in
    no_line_before (pair_kind_in lists all) 1 i (length all) n (omega (arith, within_at all i row after e)) (λ (k : ℕ) (b : k < i). fine_from_one lists all k (fine k b)) found
    ∙ ap (λ (k : ℕ). at k n) t

pub pairs_accepted : (lists : Lists) (all : List Row) → AreFine lists all (length all) → pairs_refusal lists all ≡ None
pairs_accepted lists all fine = no_line_at_all (pair_kind_in lists all) 1 (length all) (λ (k : ℕ) (b : k < length all). fine_from_one lists all k (fine k b))

pub pairs_more : (lists : Lists) (all : List Row) (i : ℕ) (row : Row) (after : List Row) → drop i all ≡ row ∷ after → pairs_of_rows lists (take (i + 1) all) ≡ pairs_of_rows lists (take i all) ++ pairs_of_rows lists (row ∷ [])
pairs_more lists all i row after e =
    ap (pairs_of_rows lists) (take_next all i row after e) ∙ filter_map-append (λ (r : Row). pair_by lists (pair_form r)) (take i all) (row ∷ [])

-- ---- pairs, one more

pub eqb-turned : (x y : ℕ) → eqb x y ≡ eqb y x
eqb-turned x y = same_from_decides (eqb x y) (eqb y x) ((λ (e : eqb x y ≡ true). sym ((Decides-eqb x y).0 e)), (λ (e : y ≡ x). (Decides-eqb x y).1 (sym e))) (Decides-eqb y x)

pub distinct_more : (xs : List ℕ) (p : ℕ) → is_distinct xs ≡ true → is_in p xs ≡ false → is_distinct (xs ++ p ∷ []) ≡ true
distinct_more [] p h new = refl
distinct_more (x ∷ xs) p h new =
    let t = and_parts (not (is_in x xs)) (is_distinct xs) h in
    let o = or_parts (eqb x p) (is_in p xs) new in
    let apart : is_in x (xs ++ p ∷ []) ≡ false = list_any-append (λ (y : ℕ). eqb y x) xs (p ∷ []) ∙ or_from (is_in x xs) (eqb p x || false) (not_true _ t.0) (or_from (eqb p x) false (eqb-turned p x ∙ o.0) refl) in
    and_from (not (is_in x (xs ++ p ∷ []))) (is_distinct (xs ++ p ∷ [])) (not_from_false _ apart) (distinct_more xs p t.1 o.1)

pub numbers_more : (ps : List PairNo) (p : PairNo) → numbers_of (ps ++ p ∷ []) ≡ numbers_of ps ++ p.0 ∷ []
numbers_more ps p = map-append (λ (q : PairNo). q.0) ps (p ∷ [])

pub range_more : (lists : Lists) (ps : List PairNo) (p : PairNo) → All (λ q. IsPairNo lists q.0) ps → IsPairNo lists p.0 → All (λ q. IsPairNo lists q.0) (ps ++ p ∷ [])
range_more lists ps p all one = All-push (λ (q : PairNo). IsPairNo lists q.0) ps p all one

-- ---- tests

pub first_lost : (a b : Bool) → a ≡ false → not (a && b) ≡ true
first_lost a b h = rw h refl

pub second_lost : (a b : Bool) → b ≡ false → not (a && b) ≡ true
second_lost true b h = rw h refl
second_lost false b h = refl

pub both_found : (a b : Bool) → a ≡ true → b ≡ true → not (a && b) ≡ false
both_found a b h k = rw (h, k) refl

pub not_false : (b : Bool) → not b ≡ false → b ≡ true
not_false true h = refl
not_false false h = absurd cc

pub for_none : {A : Type 0} {P : Type 0} (o : Option A) → IfNone o P → o ≡ None → P
for_none None h e = h
for_none (Some x) h e = absurd cc
