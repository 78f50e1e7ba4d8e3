-- What the steps that add rows leave on the stack.
use Rattle.std.proofs.Common.{◌≡◌, ℕ, ◌+◌, ◌*◌, ◌≤◌, ◌^◌, ◌<◌, Bool, true, ◌&&◌, List, [], ◌∷◌, ◌++◌, if◌then◌else◌, length, sum_by, refl, sym, ap, ◌∙◌, subst, arith, append_assoc}
use Rattle.std.specs.Prelude.{flat_map, Result, Ok, Err}
use Rattle.std.specs.List.{list_all}
use Rattle.std.proofs.lemmas.Bool.{and_from, and_parts}
use Rattle.std.proofs.lemmas.List.{append-nil, length-append}
use Rattle.std.proofs.lemmas.List.Concat.{flat_map-append}
use Rattle.std.proofs.lemmas.List.Folds.{list_all-append}
use Rattle.std.proofs.lemmas.List.Sums.{sum_by-cons}
use Rattle.pb_rows.specs.Terms.{PlainRow}
use Rattle.pb_rows.specs.Rows.{Fits, add}
use Rattle.pb_rows.specs.Formula.{NumberedRow}
use Rattle.row_text.specs.Tokens.{spaced}
use Rattle.row_text.proofs.RowWords.{spaced_append}
use Rattle.proof_lines.specs.declared.line.PolStep.{PolStep}
use Rattle.proof_lines.specs.declared.line.PolStep.TheVariants.{Add}
use Rattle.proof_lines.specs.Spelling.{is_small_step}
use Rattle.proof_lines.specs.Texts.{is_spellable_step, is_nonempty_and_all, step_words}
use Rattle.proof_rules.specs.Refusals.{Refusal, TooBig, and_then}
use Rattle.proof_rules.specs.Pol.{run_step, run_steps}
use Rattle.proof_rules.proofs.Fits.{fits_true}
use Rattle.capacity_bound.specs.Steps.{Sum, Row, Both, operands_of, steps_of}
use Rattle.capacity_bound.proofs.Covers.{Covers, covers_add, covers_normal}

-- A step that names a row of opposites of the variables of these pairs, one or more: whatever stands on the stack, the row
-- goes on top.
pub record Operand (vars : ℕ) (live : List NumberedRow) (step : PolStep) (ps : List ℕ) (d : ℕ) : Type 0 where
  pub row : PlainRow
  pub pushes : (stack : List PlainRow) → run_step vars live step stack ≡ Ok (row ∷ stack)
  pub covers : Covers row ps d
  pub some : 1 ≤ length ps
  pub within : d ≤ length ps
  pub made : is_spellable_step step ≡ true
  pub small : is_small_step step ≡ true
  pub short : length (spaced (step_words step)) ≤ 19

-- the pairs and the degree are those of a first operand and of the others together
pub record Parted (vars : ℕ) (live : List NumberedRow) (step : PolStep) (Others : List ℕ → ℕ → Type 0) (ps : List ℕ) (d : ℕ) : Type 0 where
  pub front : List ℕ
  pub behind : List ℕ
  pub here : ℕ
  pub after : ℕ
  pub first : Operand vars live step front here
  pub others : Others behind after
  pub pairs_are : ps ≡ front ++ behind
  pub degree_is : d ≡ here + after

-- operands whose pairs, one after another, are these, and whose degrees sum to this
abbrev pub Amounts : ℕ → List NumberedRow → List PolStep → List ℕ → ℕ → Type 0
Amounts vars live [] ps d = (ps ≡ []) × (d ≡ 0)
Amounts vars live (step ∷ steps) ps d = Parted vars live step (Amounts vars live steps) ps d

module _ (vars : ℕ) (live : List NumberedRow) where
  pub amounts_append : (xs ys : List PolStep) (ps qs : List ℕ) (d e : ℕ) → Amounts vars live xs ps d → Amounts vars live ys qs e → Amounts vars live (xs ++ ys) (ps ++ qs) (d + e)
  amounts_append [] ys ps qs d e a b =
      subst (λ (n : ℕ). Amounts vars live ys (ps ++ qs) n) (omega (arith, a.1)) (subst (λ (rs : List ℕ). Amounts vars live ys rs e) (ap (λ (rs : List ℕ). rs ++ qs) (sym a.0)) b)
  amounts_append (x ∷ xs) ys ps qs d e a b =
      record {
        front = a.front;
        behind = a.behind ++ qs;
        here = a.here;
        after = a.after + e;
        first = a.first;
        others = amounts_append xs ys a.behind qs a.after e a.others b;
        pairs_are = ap (λ (rs : List ℕ). rs ++ qs) a.pairs_are ∙ append_assoc a.front a.behind qs;
        degree_is = omega (arith, a.degree_is);
      }

  pub amounts_parts : (part : ℕ → List PolStep) (kind : ℕ → List ℕ) (degree : ℕ → ℕ) → ((k : ℕ) → Amounts vars live (part k) (kind k) (degree k)) → (ks : List ℕ) →
      Amounts vars live (flat_map part ks) (flat_map kind ks) (sum_by degree ks)
  amounts_parts part kind degree h [] = (refl, refl)
  amounts_parts part kind degree h (k ∷ ks) =
      subst (Amounts vars live (flat_map part (k ∷ ks)) (flat_map kind (k ∷ ks))) (sym (sum_by-cons degree k ks))
      (amounts_append (part k) (flat_map part ks) (kind k) (flat_map kind ks) (degree k) (sum_by degree ks) (h k) (amounts_parts part kind degree h ks))

  pub amounts_one : (step : PolStep) (ps : List ℕ) (d : ℕ) → Operand vars live step ps d → Amounts vars live (step ∷ []) ps d
  amounts_one step ps d first = record { front = ps; behind = []; here = d; after = 0; first = first; others = (refl, refl); pairs_are = sym (append-nil ps); degree_is = omega arith }

  amounts_within : (steps : List PolStep) (ps : List ℕ) (d : ℕ) → Amounts vars live steps ps d → d ≤ length ps
  amounts_within [] ps d a = omega (arith, a.1)
  amounts_within (step ∷ steps) ps d a = omega (arith, amounts_within steps a.behind a.after a.others, a.first.within, a.degree_is, ap length a.pairs_are, length-append a.front a.behind)

  -- operands in two parts
  record Halves (xs ys : List PolStep) (ps : List ℕ) (d : ℕ) : Type 0 where
    pub front : List ℕ
    pub behind : List ℕ
    pub here : ℕ
    pub after : ℕ
    pub first : Amounts vars live xs front here
    pub second : Amounts vars live ys behind after
    pub pairs_are : ps ≡ front ++ behind
    pub degree_is : d ≡ here + after

  halves : (xs ys : List PolStep) (ps : List ℕ) (d : ℕ) → Amounts vars live (xs ++ ys) ps d → Halves xs ys ps d
  halves [] ys ps d a = record { front = []; behind = ps; here = 0; after = d; first = (refl, refl); second = a; pairs_are = refl; degree_is = omega arith }
  halves (x ∷ xs) ys ps d a =
      let rest = halves xs ys a.behind a.after a.others in
      record {
        front = a.front ++ rest.front;
        behind = rest.behind;
        here = a.here + rest.here;
        after = rest.after;
        first = record { front = a.front; behind = rest.front; here = a.here; after = rest.here; first = a.first; others = rest.first; pairs_are = refl; degree_is = refl };
        second = rest.second;
        pairs_are = a.pairs_are ∙ ap (λ (rs : List ℕ). a.front ++ rs) rest.pairs_are ∙ sym (append_assoc a.front rest.front rest.behind);
        degree_is = omega (arith, a.degree_is, rest.degree_is);
      }

  -- ---- the stack

  run_append : (xs ys : List PolStep) (stack : List PlainRow) → run_steps vars live (xs ++ ys) stack ≡ and_then (run_steps vars live xs stack) (λ next. run_steps vars live ys next)
  run_append [] ys stack = refl
  run_append (x ∷ xs) ys stack = onward (run_step vars live x stack) (run_append xs ys)
    where
      onward : (r : Result (List PlainRow) Refusal) → ((next : List PlainRow) → run_steps vars live (xs ++ ys) next ≡ and_then (run_steps vars live xs next) (λ last. run_steps vars live ys last)) →
          and_then r (λ next. run_steps vars live (xs ++ ys) next) ≡ and_then (and_then r (λ next. run_steps vars live xs next)) (λ last. run_steps vars live ys last)
      onward (Ok next) h = h next
      onward (Err why) h = refl

  -- the steps of a sum put one row on the stack
  pub record MakesRow (sum : Sum) (ps : List ℕ) (d : ℕ) : Type 0 where
    pub row : PlainRow
    pub runs : (stack : List PlainRow) → run_steps vars live (steps_of sum) stack ≡ Ok (row ∷ stack)
    pub covers : Covers row ps d

  pub makes_row : (sum : Sum) (ps : List ℕ) (d : ℕ) → Amounts vars live (operands_of sum) ps d → length ps ≤ 2 ^ 120 → MakesRow sum ps d
  makes_row (Row operand) ps d a h = record {
    row = a.first.row;
    runs = λ stack. ap (λ (r : Result (List PlainRow) Refusal). and_then r (λ next. run_steps vars live [] next)) (a.first.pushes stack);
    covers = subst (λ (n : ℕ). Covers a.first.row ps n) (omega (arith, a.degree_is, a.others.1))
        (subst (λ (rs : List ℕ). Covers a.first.row rs a.here) (sym (a.pairs_are ∙ ap (λ (rs : List ℕ). a.front ++ rs) a.others.0 ∙ append-nil a.front)) a.first.covers);
  }
  makes_row (Both one two) ps d a h =
      let parts = halves (operands_of one) (operands_of two) ps d a in
      let whole : length ps ≡ length parts.front + length parts.behind = ap length parts.pairs_are ∙ length-append parts.front parts.behind in
      let first = makes_row one parts.front parts.here parts.first (omega arith) in
      let second = makes_row two parts.behind parts.after parts.second (omega arith) in
      let most_here : parts.here ≤ length parts.front = amounts_within (operands_of one) parts.front parts.here parts.first in
      let most_after : parts.after ≤ length parts.behind = amounts_within (operands_of two) parts.behind parts.after parts.second in
      let row : PlainRow = add first.row second.row in
      let covers : Covers row (parts.front ++ parts.behind) (parts.here + parts.after) = covers_add first.row second.row parts.front parts.behind parts.here parts.after first.covers second.covers (omega arith) (omega arith) in
      let both : length (parts.front ++ parts.behind) ≡ length parts.front + length parts.behind = length-append parts.front parts.behind in
      let fit : Fits row = (covers_normal row (parts.front ++ parts.behind) (parts.here + parts.after) covers (omega arith) (omega arith)).fits in
      record {
        row = row;
        runs = λ stack.
            run_append (steps_of one) (steps_of two ++ Add ∷ []) stack
            ∙ ap (λ (r : Result (List PlainRow) Refusal). and_then r (λ next. run_steps vars live (steps_of two ++ Add ∷ []) next)) (first.runs stack)
            ∙ run_append (steps_of two) (Add ∷ []) (first.row ∷ stack)
            ∙ ap (λ (r : Result (List PlainRow) Refusal). and_then r (λ next. run_steps vars live (Add ∷ []) next)) (second.runs (first.row ∷ stack))
            ∙ ap (λ (b : Bool). and_then (if b then Ok (row ∷ stack) else Err TooBig) (λ next. run_steps vars live [] next)) (fits_true row fit);
        covers = subst (λ (n : ℕ). Covers row ps n) (omega (arith, parts.degree_is)) (subst (λ (rs : List ℕ). Covers row rs (parts.here + parts.after)) (sym parts.pairs_are) covers);
      }

  -- ---- the line

  pub each_small : (steps : List PolStep) (ps : List ℕ) (d : ℕ) → Amounts vars live steps ps d → list_all is_small_step steps ≡ true
  each_small [] ps d a = refl
  each_small (step ∷ steps) ps d a = and_from (is_small_step step) (list_all is_small_step steps) a.first.small (each_small steps a.behind a.after a.others)

  pub each_made : (steps : List PolStep) (ps : List ℕ) (d : ℕ) → Amounts vars live steps ps d → list_all is_spellable_step steps ≡ true
  each_made [] ps d a = refl
  each_made (step ∷ steps) ps d a = and_from (is_spellable_step step) (list_all is_spellable_step steps) a.first.made (each_made steps a.behind a.after a.others)

  words_behind : (xs ys : List PolStep) → length (spaced (flat_map step_words (xs ++ ys))) ≡ length (spaced (flat_map step_words xs)) + length (spaced (flat_map step_words ys))
  words_behind xs ys =
      ap (λ (ws : List (List ℕ)). length (spaced ws)) (flat_map-append step_words xs ys) ∙ ap length (spaced_append (flat_map step_words xs) (flat_map step_words ys))
      ∙ length-append (spaced (flat_map step_words xs)) (spaced (flat_map step_words ys))

  -- the words of a sum, each with a space before it
  pub sum_short : (sum : Sum) (ps : List ℕ) (d : ℕ) → Amounts vars live (operands_of sum) ps d → length (spaced (flat_map step_words (steps_of sum))) + 2 ≤ 21 * length ps
  sum_short (Row operand) ps d a =
      omega (arith, ap (λ (ws : List (List ℕ)). length (spaced ws)) (append-nil (step_words operand)), a.first.short, a.first.some, ap length a.pairs_are, length-append a.front a.behind)
  sum_short (Both one two) ps d a =
      let parts = halves (operands_of one) (operands_of two) ps d a in
      omega (
        arith,
        words_behind (steps_of one) (steps_of two ++ Add ∷ []),
        words_behind (steps_of two) (Add ∷ []),
        sum_short one parts.front parts.here parts.first,
        sum_short two parts.behind parts.after parts.second,
        ap length parts.pairs_are,
        length-append parts.front parts.behind,
      )

-- what holds of the operands and of an addition holds of all steps
pub all_steps : (t : PolStep → Bool) → t Add ≡ true → (sum : Sum) → list_all t (operands_of sum) ≡ true → list_all t (steps_of sum) ≡ true
all_steps t e (Row operand) h = h
all_steps t e (Both one two) h =
    let parts = and_parts (list_all t (operands_of one)) (list_all t (operands_of two)) (sym (list_all-append t (operands_of one) (operands_of two)) ∙ h) in
    list_all-append t (steps_of one) (steps_of two ++ Add ∷ [])
    ∙ and_from (list_all t (steps_of one)) (list_all t (steps_of two ++ Add ∷ [])) (all_steps t e one parts.0)
    (list_all-append t (steps_of two) (Add ∷ []) ∙ and_from (list_all t (steps_of two)) (t Add && true) (all_steps t e two parts.1) (and_from (t Add) true e refl))

some_steps : (sum : Sum) → 0 < length (steps_of sum)
some_steps (Row operand) = omega arith
some_steps (Both one two) = omega (arith, some_steps one, length-append (steps_of one) (steps_of two ++ Add ∷ []))

some_all : (t : PolStep → Bool) (steps : List PolStep) → 0 < length steps → list_all t steps ≡ true → is_nonempty_and_all t steps ≡ true
some_all t [] h e = absurd (omega arith)
some_all t (step ∷ steps) h e = e

pub sum_made : (sum : Sum) → list_all is_spellable_step (operands_of sum) ≡ true → is_nonempty_and_all is_spellable_step (steps_of sum) ≡ true
sum_made sum h = some_all is_spellable_step (steps_of sum) (some_steps sum) (all_steps is_spellable_step refl sum h)
