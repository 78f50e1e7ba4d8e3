-- A canonical spelling is a spelling of its formula.
use Rattle.std.proofs.Common.{◌≡◌, ◌∙◌, ℕ, ◌+◌, ◌^◌, ◌<◌, ◌≤◌, nat_le, nat_lt, Bool, true, false, List, [], ◌∷◌, ◌++◌, length, map, Option, Some, None, refl, ap, ap₂, arith, length-append}
use Rattle.std.specs.Prelude.{flat_map}
use Rattle.std.specs.List.{AllByRecursion, cons_option, list_all}
use Rattle.std.specs.Option.{option_or}
use Rattle.std.proofs.lemmas.Bool.{and_from, le-leb}
use Rattle.std.proofs.lemmas.Bool.Decides.{nat_tests}
use Rattle.std.proofs.lemmas.List.{append-nil}
use Rattle.std.proofs.lemmas.List.Concat.{flat_map-append}
use Rattle.hrt_base.specs.declared.literal.Term.{Term}
use Rattle.pb_rows.specs.Terms.{PlainRow, Written}
use Rattle.pb_rows.specs.Normal.{all_sizes, sizes}
use Rattle.pb_rows.specs.Rows.{in_normal_form}
use Rattle.pb_rows.specs.Formula.{Formula}
use Rattle.row_text.specs.Numbers.{is_small}
use Rattle.row_text.specs.Rows.{is_small_term, row_words}
use Rattle.row_text.proofs.RowBack.{AllMade}
use Rattle.opb_text.specs.declared.refusal.OpbRefusal.{OpbRefusal}
use Rattle.opb_text.specs.Limits.{most_rows, most_variables}
use Rattle.opb_text.specs.Refusal.{Spells, first_refusal, objective_refusal, row_refusal, statement_refusal}
use Rattle.opb_text.specs.Statements.{Line, Statement, constraint, formula_said, greatest_variable, minimize, nothing, objective_in, read_statement, rows_in, statements, terms_in}
use Rattle.opb_text.proofs.Drafting.{said_more}
use Rattle.opb_text.proofs.SpelledLines.{ArePlainTerms, IsPlainRow, header_words, objective_says, objective_words, row_says, rows_say, spelled_lines, spelling_of, words_of}

-- ---- what is within the limits

pub record IsFineRow (row : Written) : Type 0 where
  pub made : AllMade row.terms
  pub light : all_sizes row.terms row.at_least ≤ 2 ^ 120
  pub few : greatest_variable row.terms ≤ most_variables

pub record IsFineObjective (terms : List Term) : Type 0 where
  pub made : AllMade terms
  pub light : sizes terms ≤ 2 ^ 119
  pub few : greatest_variable terms ≤ most_variables

small_terms : (ts : List Term) → sizes ts ≤ 2 ^ 120 → list_all is_small_term ts ≡ true
small_terms [] h = refl
small_terms (t ∷ ts) h = and_from (is_small_term t) (list_all is_small_term ts) (le-leb _ (2 ^ 120) (omega arith)) (small_terms ts (omega arith))

plain_row : (row : Written) → IsFineRow row → IsPlainRow row
plain_row row h = record {
  small = let l = h.light in and_from (list_all is_small_term row.terms) (is_small row.at_least) (small_terms row.terms (omega arith)) (le-leb _ (2 ^ 120) (omega arith));
  made = h.made;
}

plain_rows : (rows : List Written) → AllByRecursion IsFineRow rows → AllByRecursion IsPlainRow rows
plain_rows [] h = tt
plain_rows (row ∷ rows) h = (plain_row row h.0, plain_rows rows h.1)

plain_objective : (terms : List Term) → IsFineObjective terms → ArePlainTerms terms
plain_objective terms h = let l = h.light in record { small = small_terms terms (omega arith); made = h.made }

-- ---- none of the lines is refused

not_more : (n m : ℕ) → n ≤ m → nat_lt m n ≡ false
not_more n m h = grind (arith, nat_tests)

still_room : (n m : ℕ) → n < m → nat_le m n ≡ false
still_room n m h = grind (arith, nat_tests)

row_fine : (k count : ℕ) (row : Written) → IsFineRow row → count < most_rows → row_refusal k count row ≡ None
row_fine k count row h room =
    rw (not_more (all_sizes row.terms row.at_least) (2 ^ 120) h.light, not_more (greatest_variable row.terms) most_variables h.few, still_room count most_rows room) refl

objective_fine : (k : ℕ) (terms : List Term) → IsFineObjective terms → objective_refusal k false terms ≡ None
objective_fine k terms h = rw (not_more (sizes terms) (2 ^ 119) h.light, not_more (greatest_variable terms) most_variables h.few) refl

said_refusal : (k : ℕ) (begun : Bool) (count : ℕ) (o : Option Statement) (s : Statement) → o ≡ Some s → statement_refusal k begun count (Some s) ≡ None → statement_refusal k begun count o ≡ None
said_refusal k begun count o s is h = rw is h

passes : (o later : Option OpbRefusal) → o ≡ None → option_or o later ≡ later
passes o later h = rw h refl

count_in : List Line → ℕ
count_in lines = length (flat_map rows_in (statements lines))

one_row_more : (before : List Line) (line : Line) (row : Written) → read_statement line ≡ Some (constraint row) → count_in (before ++ line ∷ []) ≡ count_in before + 1
unfolding count_in
one_row_more before line row says =
    ap (λ (ss : List Statement). length (flat_map rows_in ss)) (said_more before line ∙ ap (λ (o : Option Statement). statements before ++ cons_option o []) says)
    ∙ ap length (flat_map-append rows_in (statements before) (constraint row ∷ [])) ∙ length-append (flat_map rows_in (statements before)) (row ∷ [])

rows_accepted : (before : List Line) (rows : List Written) → AllByRecursion IsFineRow rows → count_in before + length rows ≤ most_rows → first_refusal before (map row_words rows) ≡ None
unfolding count_in
rows_accepted before [] h room = refl
rows_accepted before (row ∷ rows) h room =
    let says = row_says row (plain_row row h.0) in
    let more = one_row_more before (row_words row) row says in
    passes _ _ (said_refusal _ _ (count_in before) (read_statement (row_words row)) (constraint row) says (row_fine _ (count_in before) row h.0 (omega arith)))
    ∙ rows_accepted (before ++ row_words row ∷ []) rows h.1 (omega arith)

accepted : (vars count : ℕ) (terms : List Term) (rows : List Written) → IsFineObjective terms → AllByRecursion IsFineRow rows → length rows ≤ most_rows → first_refusal [] (words_of vars count terms rows) ≡ None
unfolding count_in
accepted vars count terms rows h all few =
    let first : List Line = header_words vars count ∷ [] in
    let says = objective_says terms (plain_objective terms h) in
    let none : count_in (first ++ objective_words terms ∷ []) ≡ 0 =
    ap (λ (ss : List Statement). length (flat_map rows_in ss)) (said_more first (objective_words terms) ∙ ap (λ (o : Option Statement). statements first ++ cons_option o []) says) in
    passes _ _ (said_refusal 2 false 0 (read_statement (objective_words terms)) (minimize terms) says (objective_fine 2 terms h))
    ∙ rows_accepted (first ++ objective_words terms ∷ []) rows all (omega arith)

-- ---- the formula

terms_of : (rows : List Written) → flat_map terms_in (map constraint rows) ≡ flat_map (λ (row : Written). row.terms) rows
terms_of [] = refl
terms_of (row ∷ rows) = ap (λ (ts : List Term). row.terms ++ ts) (terms_of rows)

no_objective : (rows : List Written) → flat_map objective_in (map constraint rows) ≡ []
no_objective [] = refl
no_objective (row ∷ rows) = no_objective rows

same_rows : (rows : List Written) → flat_map rows_in (map constraint rows) ≡ rows
same_rows [] = refl
same_rows (row ∷ rows) = ap (λ (rs : List Written). row ∷ rs) (same_rows rows)

made : ℕ → List Term → List PlainRow → Formula
made vars terms rows = record { vars = vars; objective = terms; rows = rows }

same_formula : (v w : ℕ) (o p : List Term) (r s : List PlainRow) → v ≡ w → o ≡ p → r ≡ s → made v o r ≡ made w p s
same_formula v w o p r s e f g = λ i. made (e i) (f i) (g i)

abbrev pub all_terms : List Term → List Written → List Term
all_terms terms rows = terms ++ flat_map (λ (row : Written). row.terms) rows

says_formula : (vars count : ℕ) (terms : List Term) (rows : List Written) → IsFineObjective terms → AllByRecursion IsFineRow rows
    → formula_said (statements (words_of vars count terms rows)) ≡ record { vars = greatest_variable (all_terms terms rows); objective = terms; rows = map in_normal_form rows }
unfolding made
says_formula vars count terms rows h all =
    let said : statements (words_of vars count terms rows) ≡ nothing ∷ minimize terms ∷ map constraint rows =
    ap (λ (ss : List Statement). nothing ∷ ss) (ap₂ cons_option (objective_says terms (plain_objective terms h)) (rows_say rows (plain_rows rows all))) in
    ap formula_said said
    ∙ same_formula _ _ _ _ _ _
    (ap (λ (ts : List Term). greatest_variable (terms ++ ts)) (terms_of rows))
    (ap (λ (ts : List Term). terms ++ ts) (no_objective rows) ∙ append-nil terms)
    (ap (map in_normal_form) (same_rows rows))

pub spells : (vars count : ℕ) (terms : List Term) (rows : List Written) → vars < 10 ^ 64 → count < 10 ^ 64 → IsFineObjective terms → AllByRecursion IsFineRow rows → length rows ≤ most_rows
    → Spells (spelling_of vars count terms rows) (record { vars = greatest_variable (all_terms terms rows); objective = terms; rows = map in_normal_form rows })
spells vars count terms rows low high h all few =
    let lines = spelled_lines vars count terms rows low high (plain_objective terms h) (plain_rows rows all) in
    record {
      accepted = ap (first_refusal []) lines ∙ accepted vars count terms rows h all few;
      says = ap (λ (ls : List Line). formula_said (statements ls)) lines ∙ says_formula vars count terms rows h all;
    }
