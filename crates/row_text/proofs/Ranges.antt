-- What a text that reads as something says of it: variables are in their range.
use Rattle.std.proofs.Common.{◌≡◌, ℕ, ◌+◌, ◌*◌, ◌^◌, ◌<◌, ◌≤◌, min, Bool, true, false, eqb, List, [], ◌∷◌, length, map, Option, Some, None, refl, subst, arith, if◌then◌else◌, ℤ}
use Rattle.std.specs.Prelude.{bytes_eq, codes, option_map}
use Rattle.std.specs.Char.{digit_value}
use Rattle.std.specs.Str.{all_ascii_digits}
use Rattle.std.specs.Str.Parse.{digits_value}
use Rattle.std.proofs.lemmas.Bool.{eqb-false}
use Rattle.std.proofs.lemmas.Int.Digits.{digits_value-lt, digits_value_is, number_after_ge}
use Rattle.std.proofs.lemmas.Str.{digit_value_digit}
use Rattle.std.proofs.lemmas.Str.Parse.{IsNumeralModel, digit_from_value, numerals_by_value, tells_all_ascii_digits}
use Rattle.hrt_base.specs.declared.literal.Lit.{Lit}
use Rattle.hrt_base.specs.declared.literal.Term.{Term}
use Rattle.pb_rows.specs.Terms.{Written}
use Rattle.row_text.specs.Numbers.{both, read_digits, read_literal, read_number, read_positive, read_variable}
use Rattle.row_text.specs.Rows.{read_right, read_row, read_term, row_end, with_term}
use Rattle.row_text.proofs.RowBack.{AllMade, IsMadeTerm}

-- ---- options

pub map_some : {A B : Type 0} (f : A → B) (o : Option A) (y : B) → option_map f o ≡ Some y → (x : A) × (o ≡ Some x) × (f x ≡ y)
map_some f None y e = absurd cc
map_some f (Some x) y e = (x, refl, cc)

pub record Both (A B C : Type 0) (join : A → B → C) (a : Option A) (b : Option B) (c : C) : Type 0 where
  pub first : A
  pub second : B
  pub first_is : a ≡ Some first
  pub second_is : b ≡ Some second
  pub joined_is : join first second ≡ c

pub both_some : {A B C : Type 0} (join : A → B → C) (a : Option A) (b : Option B) (c : C) → both join a b ≡ Some c → Both A B C join a b c
both_some join None b c e = absurd cc
both_some join (Some x) None c e = absurd cc
both_some join (Some x) (Some y) c e = record { first = x; second = y; first_is = refl; second_is = refl; joined_is = cc }

pub if_some : {A : Type 0} (b : Bool) (o : Option A) (x : A) → (if b then o else None) ≡ Some x → (b ≡ true) × (o ≡ Some x)
if_some true o x e = (refl, e)
if_some false o x e = absurd cc

pub unless_some : {A : Type 0} (b : Bool) (o : Option A) (x : A) → (if b then None else o) ≡ Some x → (b ≡ false) × (o ≡ Some x)
unless_some true o x e = absurd cc
unless_some false o x e = (refl, e)

-- ---- digits without a leading zero

own : IsNumeralModel (λ ds. all_ascii_digits ds ≡ true) (digits_value 10)
own = numerals_by_value _ tells_all_ascii_digits

first_digit : (b : ℕ) (ds : List ℕ) → all_ascii_digits (b ∷ ds) ≡ true → eqb b 48 ≡ false → 1 ≤ digit_value b
first_digit b ds h other =
    let value : digit_value b + 48 ≡ b = digit_value_digit b (digit_from_value b (own.to (b ∷ ds) h).0) in
    let no_zero : b ≡ 48 → ⊥ = eqb-false b 48 other in
    omega (arith, digit_from_value b (own.to (b ∷ ds) h).0)

at_least_first : (b : ℕ) (ds : List ℕ) → digit_value b ≤ digits_value 10 (b ∷ ds)
at_least_first b ds = omega (arith, digits_value_is 10 (b ∷ ds), number_after_ge 10 (0 * 10 + digit_value b) (map digit_value ds) (omega arith))

pub positive_range : (t : List ℕ) (n : ℕ) → read_positive t ≡ Some n → (1 ≤ n) × (n < 10 ^ length t)
positive_range [] n e = absurd cc
positive_range (b ∷ ds) n e =
    let u = unless_some (eqb b 48) (read_digits (b ∷ ds)) n e in
    let i = if_some (all_ascii_digits (b ∷ ds)) (Some (digits_value 10 (b ∷ ds))) n u.1 in
    let is : digits_value 10 (b ∷ ds) ≡ n = cc (i.1) in
    let low : 1 ≤ digit_value b = first_digit b ds i.0 u.0 in
    let front : digit_value b ≤ digits_value 10 (b ∷ ds) = at_least_first b ds in
    let high : digits_value 10 (b ∷ ds) < 10 ^ length (b ∷ ds) = digits_value-lt 10 (b ∷ ds) (own.to (b ∷ ds) i.0) in
    subst (λ (m : ℕ). (1 ≤ m) × (m < 10 ^ length (b ∷ ds))) is (omega arith, high)

-- ---- variables and literals

abbrev pub IsVariable : ℕ → Type 0
IsVariable v = (1 ≤ v) × (v ≤ 4294967295)

capped_range : (n v : ℕ) → 1 ≤ n → min n 4294967295 ≡ v → IsVariable v
capped_range n v low e = (omega arith, omega arith)

pub variable_range : (t : List ℕ) (v : ℕ) → read_variable t ≡ Some v → IsVariable v
variable_range [] v e = absurd cc
variable_range (b ∷ ds) v e =
    let i = if_some (eqb b 120) (option_map (λ n. min n 4294967295) (read_positive ds)) v e in
    let m = map_some (λ (n : ℕ). min n 4294967295) (read_positive ds) v i.1 in
    capped_range m.0 v (positive_range ds m.0 m.1).0 m.2

literal_by : (negated : Bool) (t : List ℕ) (l : Lit) → option_map (λ v. let k : Lit = record { var = v; neg = negated } in k) (read_variable t) ≡ Some l → IsVariable l.var
literal_by negated t l e =
    let m = map_some (λ (v : ℕ). let k : Lit = record { var = v; neg = negated } in k) (read_variable t) l e in
    subst (λ (k : Lit). IsVariable k.var) m.2 (variable_range t m.0 m.1)

pub literal_range : (t : List ℕ) (l : Lit) → read_literal t ≡ Some l → IsVariable l.var
literal_range [] l e = absurd cc
literal_range (b ∷ ds) l e = elim (eqb b 126) as (λ c. (if c then option_map (λ v. let k : Lit = record { var = v; neg = true } in k) (read_variable ds) else option_map (λ v. let k : Lit = record { var = v; neg = false } in k) (read_variable (b ∷ ds))) ≡ Some l → IsVariable l.var) [
  | true ↦ λ h. literal_by true ds l h
  | false ↦ λ h. literal_by false (b ∷ ds) l h
] e

-- ---- terms and rows

pub term_made : (number literal : List ℕ) (t : Term) → read_term number literal ≡ Some t → IsMadeTerm t
term_made number literal t e =
    let b = both_some (λ (c : ℤ) (l : Lit). let u : Term = record { coef = c; lit = l } in u) (read_number number) (read_literal literal) t e in
    let range : IsVariable b.second.var = literal_range literal b.second b.second_is in
    subst IsMadeTerm b.joined_is (record { low = range.0; high = range.1 })

row_by : (end : Bool) (t u : List ℕ) (ts : List (List ℕ)) (row : Written) → ((later : Written) → read_row ts ≡ Some later → AllMade later.terms)
    → (if end then row_end u ts else both with_term (read_term t u) (read_row ts)) ≡ Some row → AllMade row.terms
row_by true t u ts row h e =
    let m = map_some (λ (n : ℤ). let r : Written = record { terms = []; at_least = n } in r) (read_right u ts) row e in
    subst (λ (r : Written). AllMade r.terms) m.2 tt
row_by false t u ts row h e =
    let b = both_some with_term (read_term t u) (read_row ts) row e in
    subst (λ (r : Written). AllMade r.terms) b.joined_is (term_made t u b.first b.first_is, h b.second b.second_is)

pub row_made : (ts : List (List ℕ)) (row : Written) → read_row ts ≡ Some row → AllMade row.terms
row_made [] row e = absurd cc
row_made (t ∷ []) row e = absurd cc
row_made (t ∷ u ∷ ts) row e = row_by (bytes_eq t (codes ">=")) t u ts row (row_made ts) e
