-- The first number that passes a test.
use Rattle.std.proofs.Common.{◌≡◌, ℕ, zero, suc, ◌+◌, ◌-◌, ◌<◌, ◌≤◌, min, Bool, true, false, cond, not, ◌&&◌, ◌||◌, ◌==◌, List, [], ◌∷◌, ◌++◌, length, get_or, take, Option, Some, None, inl, inr, refl, sym, ap, ◌∙◌, subst, arith}
use Rattle.std.specs.List.{find, list_any, list_all}
use Rattle.std.specs.Option.{option_or}
use Rattle.std.proofs.lemmas.List.Folds.{find-append, list_any-append}
use Rattle.std.proofs.lemmas.Bool.{true≢false, cases_lt, cases_Bool, cond-true, cond-false, not_from_false, not-true, and_parts, and_from, or_cases, or_left, or_right, eqb-true, eq-eqb}
use Rattle.rank_tables.specs.Numbers.{below, numbers_to, is_in}
use Rattle.hrt_base.specs.declared.numbered.PairNo.{PairNo}
use Rattle.rank_tables.specs.Tables.{numbers_of}
use Rattle.stability_audit.specs.Tallies.{lesser}
use Rattle.stability_audit.proofs.Pairs.{numbers_more}

-- ---- none

pub none_passes : (t : ℕ → Bool) (xs : List ℕ) → find t xs ≡ None → list_all (λ x. not (t x)) xs ≡ true
none_passes t [] h = refl
none_passes t (x ∷ xs) h = elim (cases_Bool (t x)) [
  | inl passes ↦ let e = sym (cond-true (t x) (Some x) (find t xs) passes) ∙ h in absurd (cc)
  | inr fails ↦ and_from (not (t x)) _ (not_from_false (t x) fails) (none_passes t xs (sym (cond-false (t x) (Some x) (find t xs) fails) ∙ h))
]

pub none_found : (t : ℕ → Bool) (xs : List ℕ) → list_all (λ x. not (t x)) xs ≡ true → find t xs ≡ None
none_found t [] h = refl
none_found t (x ∷ xs) h =
    let both = and_parts (not (t x)) (list_all (λ x. not (t x)) xs) h in
    cond-false (t x) (Some x) (find t xs) (not-true (t x) both.0) ∙ none_found t xs both.1

pub find_same : (t u : ℕ → Bool) (xs : List ℕ) → ((x : ℕ) → is_in x xs ≡ true → t x ≡ u x) → find t xs ≡ find u xs
find_same t u [] s = refl
find_same t u (x ∷ xs) s =
    ap (λ b. cond b (Some x) (find t xs)) (s x (or_left (x == x) _ (eq-eqb x x refl)))
    ∙ ap (λ o. cond (u x) (Some x) o) (find_same t u xs (λ y i. s y (or_right (x == y) _ i)))

-- ---- one more number

found_more : (t : ℕ → Bool) (xs : List ℕ) (x y : ℕ) → find t xs ≡ Some y → find t (xs ++ x ∷ []) ≡ Some y
found_more t xs x y h = find-append t xs (x ∷ []) ∙ ap (λ o. option_or o (find t (x ∷ []))) h

found_last : (t : ℕ → Bool) (xs : List ℕ) (x : ℕ) → find t xs ≡ None → t x ≡ true → find t (xs ++ x ∷ []) ≡ Some x
found_last t xs x h p = find-append t xs (x ∷ []) ∙ ap (λ o. option_or o (find t (x ∷ []))) h ∙ cond-true (t x) (Some x) None p

none_more : (t : ℕ → Bool) (xs : List ℕ) (x : ℕ) → find t xs ≡ None → t x ≡ false → find t (xs ++ x ∷ []) ≡ None
none_more t xs x h p = find-append t xs (x ∷ []) ∙ ap (λ o. option_or o (find t (x ∷ []))) h ∙ cond-false (t x) (Some x) None p

-- ---- from 1 to n

pub none_to_next : (t : ℕ → Bool) (p : ℕ) → 1 ≤ p → find t (numbers_to (p - 1)) ≡ None → t p ≡ false → find t (numbers_to (p + 1 - 1)) ≡ None
none_to_next t zero l h f = absurd (omega arith)
none_to_next t (suc p) l h f =
    let last : suc p - 1 ≡ p = omega arith in
    let next : suc p ≡ suc p + 1 - 1 = omega arith in
    let before : find t (numbers_to p) ≡ None = subst (λ (k : ℕ). find t (numbers_to k) ≡ None) last h in
    subst (λ (k : ℕ). find t (numbers_to k) ≡ None) next (none_more t (numbers_to p) (suc p) before f)

pub first_to : (t : ℕ → Bool) (n p : ℕ) → 1 ≤ p → p ≤ n → find t (numbers_to (p - 1)) ≡ None → t p ≡ true → find t (numbers_to n) ≡ Some p
first_to t zero p l m h e = absurd (omega arith)
first_to t (suc n) p l m h e = elim (cases_lt n p) [
  | inl last ↦
      let same : p ≡ suc n = omega arith in
      let earlier : p - 1 ≡ n = omega arith in
      let before : find t (numbers_to n) ≡ None = subst (λ (k : ℕ). find t (numbers_to k) ≡ None) earlier h in
      found_last t (numbers_to n) (suc n) before (ap t (sym same) ∙ e) ∙ ap Some (sym same)
  | inr more ↦ found_more t (numbers_to n) (suc n) p (first_to t n p l more h e)
]

-- ---- from 0 to n - 1

none_below : (t : ℕ → Bool) (n : ℕ) → ((k : ℕ) → k < n → t k ≡ false) → find t (below n) ≡ None
none_below t zero h = refl
none_below t (suc n) h = none_more t (below n) n (none_below t n (λ k l. h k (omega arith))) (h n (omega arith))

first_below : (t : ℕ → Bool) (n k : ℕ) → k < n → ((j : ℕ) → j < k → t j ≡ false) → t k ≡ true → find t (below n) ≡ Some k
first_below t zero k l h e = absurd (omega arith)
first_below t (suc n) k l h e = elim (cases_lt k n) [
  | inl less ↦ found_more t (below n) n k (first_below t n k less h e)
  | inr last ↦
      let same : k ≡ n = omega arith in
      found_last t (below n) n (none_below t n (λ j m. h j (omega arith))) (ap t (sym same) ∙ e) ∙ ap Some (sym same)
]

-- ---- the least number that passes, if there is one

abbrev pub IsLeast : (ℕ → Bool) → Option ℕ → Type 0
IsLeast t None = (k : ℕ) → t k ≡ false
IsLeast t (Some least) = (t least ≡ true) × ((k : ℕ) → t k ≡ true → least ≤ k)

false_below : (t : ℕ → Bool) (least : ℕ) → ((k : ℕ) → t k ≡ true → least ≤ k) → (k : ℕ) → k < least → t k ≡ false
false_below t least h k l = elim (cases_Bool (t k)) [
  | inl passes ↦ let m : least ≤ k = h k passes in absurd (omega arith)
  | inr fails ↦ fails
]

pub least_found : (t : ℕ → Bool) (n : ℕ) (o : Option ℕ) → IsLeast t o → ((k : ℕ) → t k ≡ true → k < n) → find t (below n) ≡ o
least_found t n None h within = none_below t n (λ k l. h k)
least_found t n (Some least) h within = first_below t n least (within least h.0) (false_below t least h.1) h.0

least_same : (t u : ℕ → Bool) (o : Option ℕ) → IsLeast t o → ((k : ℕ) → t k ≡ u k) → IsLeast u o
least_same t u None h s = λ k. sym (s k) ∙ h k
least_same t u (Some least) h s = (sym (s least) ∙ h.0, λ k e. h.1 k (s k ∙ e))

least_or : (t u : ℕ → Bool) (o : Option ℕ) (x : ℕ) → IsLeast t o → ((k : ℕ) → u k ≡ (t k || x == k)) → IsLeast u (Some (lesser o x))
least_or t u None x h s = (
  s x ∙ or_right (t x) (x == x) (eq-eqb x x refl),
  λ k e. elim (or_cases (t k) (x == k) (sym (s k) ∙ e)) [
    | inl old ↦ let no : t k ≡ false = h k in absurd (true≢false (sym old ∙ no))
    | inr new ↦ let is : x ≡ k = eqb-true x k new in omega arith
  ],
)
least_or t u (Some least) x h s = (
  elim (cases_lt least x) [
    | inl old ↦ let is : min least x ≡ least = omega arith in ap u is ∙ s least ∙ or_left (t least) (x == least) h.0
    | inr new ↦ let is : min least x ≡ x = omega arith in ap u is ∙ s x ∙ or_right (t x) (x == x) (eq-eqb x x refl)
  ],
  λ k e. elim (or_cases (t k) (x == k) (sym (s k) ∙ e)) [
    | inl old ↦ let l : least ≤ k = h.1 k old in omega arith
    | inr new ↦ let is : x ≡ k = eqb-true x k new in omega arith
  ],
)

-- ---- the least owner that passes, among the owners of listed pairs

abbrev pub owns : (ℕ → Bool) → (ℕ → ℕ) → List ℕ → ℕ → Bool
owns t owner m k = t k && list_any (λ q. owner q == k) m

with_new : (t any is : Bool) → (is ≡ true → t ≡ true) → (t && (any || (is || false))) ≡ ((t && any) || is)
with_new true any true h = or_right any true refl ∙ sym (or_right any true refl)
with_new true true false h = refl
with_new true false false h = refl
with_new false any true h = h refl
with_new false any false h = refl

without_new : (t any is : Bool) → (is ≡ true → t ≡ false) → (t && any) ≡ (t && (any || (is || false)))
without_new true any true h = absurd (true≢false (h refl))
without_new true true false h = refl
without_new true false false h = refl
without_new false any is h = refl

pub owns_more : (t : ℕ → Bool) (owner : ℕ → ℕ) (m : List ℕ) (q : ℕ) (o : Option ℕ) → IsLeast (owns t owner m) o → t (owner q) ≡ true →
    IsLeast (owns t owner (m ++ q ∷ [])) (Some (lesser o (owner q)))
owns_more t owner m q o h e =
    least_or (owns t owner m) (owns t owner (m ++ q ∷ [])) o (owner q) h (λ k.
    ap (λ b. t k && b) (list_any-append (λ p. owner p == k) m (q ∷ []))
    ∙ with_new (t k) (list_any (λ p. owner p == k) m) (owner q == k) (λ is. subst (λ (j : ℕ). t j ≡ true) (eqb-true (owner q) k is) e))

pub owns_no_more : (t : ℕ → Bool) (owner : ℕ → ℕ) (m : List ℕ) (q : ℕ) (o : Option ℕ) → IsLeast (owns t owner m) o → t (owner q) ≡ false →
    IsLeast (owns t owner (m ++ q ∷ [])) o
owns_no_more t owner m q o h e =
    least_same (owns t owner m) (owns t owner (m ++ q ∷ [])) o h (λ k.
    without_new (t k) (list_any (λ p. owner p == k) m) (owner q == k) (λ is. subst (λ (j : ℕ). t j ≡ false) (eqb-true (owner q) k is) e)
    ∙ sym (ap (λ b. t k && b) (list_any-append (λ p. owner p == k) m (q ∷ []))))

-- with the pair at place i, whose owner is k
pub least_next : (t : ℕ → Bool) (owner : ℕ → ℕ) (pairs : List PairNo) (i : ℕ) (d : PairNo) (k : ℕ) (o next : Option ℕ) →
    IsLeast (owns t owner (numbers_of (take i pairs))) o → i < length pairs → k ≡ owner (get_or pairs i d).0 →
    t k ≡ true → next ≡ Some (lesser o k) → IsLeast (owns t owner (numbers_of (take (i + 1) pairs))) next
least_next t owner pairs i d k o next h l e passes is =
    subst (IsLeast (owns t owner (numbers_of (take (i + 1) pairs)))) (sym (is ∙ ap (λ j. Some (lesser o j)) e))
    (subst (λ (m : List ℕ). IsLeast (owns t owner m) (Some (lesser o (owner (get_or pairs i d).0)))) (sym (numbers_more pairs i d l))
    (owns_more t owner (numbers_of (take i pairs)) (get_or pairs i d).0 o h (ap t (sym e) ∙ passes)))

pub least_still : (t : ℕ → Bool) (owner : ℕ → ℕ) (pairs : List PairNo) (i : ℕ) (d : PairNo) (k : ℕ) (o next : Option ℕ) →
    IsLeast (owns t owner (numbers_of (take i pairs))) o → i < length pairs → k ≡ owner (get_or pairs i d).0 →
    t k ≡ false → next ≡ o → IsLeast (owns t owner (numbers_of (take (i + 1) pairs))) next
least_still t owner pairs i d k o next h l e fails is =
    subst (IsLeast (owns t owner (numbers_of (take (i + 1) pairs)))) (sym is)
    (subst (λ (m : List ℕ). IsLeast (owns t owner m) o) (sym (numbers_more pairs i d l))
    (owns_no_more t owner (numbers_of (take i pairs)) (get_or pairs i d).0 o h (ap t (sym e) ∙ fails)))
