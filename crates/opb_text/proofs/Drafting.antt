-- A draft that takes one more line.
use Rattle.std.proofs.Common.{◌≡◌, ◌∙◌, ℕ, ◌+◌, max, Bool, true, false, ◌||◌, List, [], ◌∷◌, ◌++◌, length, map, Option, Some, None, refl, ap, arith, if◌then◌else◌}
use Rattle.std.specs.Prelude.{flat_map}
use Rattle.std.specs.List.{cons_option}
use Rattle.std.proofs.lemmas.List.{append-nil, length-map, map-append}
use Rattle.std.proofs.lemmas.List.Concat.{flat_map-append}
use Rattle.std.proofs.lemmas.List.Elements.{filter_map-append}
use Rattle.std.proofs.lemmas.List.Folds.{list_any-append}
use Rattle.hrt_base.specs.declared.literal.Term.{Term}
use Rattle.pb_rows.specs.Terms.{PlainRow, Written}
use Rattle.pb_rows.specs.Rows.{in_normal_form}
use Rattle.opb_text.specs.declared.refusal.OpbRefusal.{OpbRefusal}
use Rattle.opb_text.specs.Drafts.{Drafted, drafted, refusal_behind, with_statement}
use Rattle.opb_text.specs.Refusal.{has_begun, line_refusal, statement_refusal}
use Rattle.opb_text.specs.Statements.{Line, Statement, constraint, greatest_variable, minimize, nothing, objective_in, read_statement, rows_in, speaks, statements, terms_in}
use Rattle.opb_text.proofs.Variables.{greatest-append}

made : ℕ → List Term → List PlainRow → Bool → Drafted
made v o r b = record { formula = record { vars = v; objective = o; rows = r }; begun = b }

same_draft : (v w : ℕ) (o p : List Term) (r s : List PlainRow) (b c : Bool) → v ≡ w → o ≡ p → r ≡ s → b ≡ c → made v o r b ≡ made w p s c
same_draft v w o p r s b c e f g h = λ i. made (e i) (f i) (g i) (h i)

-- ---- the parts

vars_more : (said : List Statement) (s : Statement) (n : ℕ) → greatest_variable (terms_in s ++ []) ≡ n
    → greatest_variable (flat_map terms_in (said ++ s ∷ [])) ≡ max (greatest_variable (flat_map terms_in said)) n
vars_more said s n e =
    let parts : greatest_variable (flat_map terms_in (said ++ s ∷ [])) ≡ max (greatest_variable (flat_map terms_in said)) (greatest_variable (terms_in s ++ [])) =
    ap greatest_variable (flat_map-append terms_in said (s ∷ [])) ∙ greatest-append (flat_map terms_in said) (terms_in s ++ []) in
    parts ∙ ap (max (greatest_variable (flat_map terms_in said))) e

objective_more : (said : List Statement) (s : Statement) → flat_map objective_in (said ++ s ∷ []) ≡ flat_map objective_in said ++ objective_in s
objective_more said s = flat_map-append objective_in said (s ∷ []) ∙ ap (λ (ts : List Term). flat_map objective_in said ++ ts) (append-nil (objective_in s))

rows_more : (said : List Statement) (s : Statement) → map in_normal_form (flat_map rows_in (said ++ s ∷ [])) ≡ map in_normal_form (flat_map rows_in said) ++ map in_normal_form (rows_in s)
rows_more said s =
    ap (map in_normal_form) (flat_map-append rows_in said (s ∷ []) ∙ ap (λ (rs : List Written). flat_map rows_in said ++ rs) (append-nil (rows_in s)))
    ∙ map-append in_normal_form (flat_map rows_in said) (rows_in s)

or_false : (b : Bool) → b || false ≡ b
or_false true = refl
or_false false = refl

or_true : (b : Bool) → b || true ≡ true
or_true true = refl
or_true false = refl

-- before anything is said there is no objective
none_yet : (said : List Statement) → has_begun said ≡ false → flat_map objective_in said ≡ []
none_yet [] h = refl
none_yet (nothing ∷ said) h = none_yet said h
none_yet (minimize terms ∷ said) h = absurd cc
none_yet (constraint row ∷ said) h = absurd cc

not_begun : (k : ℕ) (begun : Bool) (rest : Option OpbRefusal) → (if begun then Some (Rattle.opb_text.specs.declared.refusal.OpbRefusal.TheVariants.Syntax k) else rest) ≡ None → begun ≡ false
not_begun k true rest h = absurd cc
not_begun k false rest h = refl

-- ---- one more statement

pub drafted_more : (k rows : ℕ) (said : List Statement) (o : Option Statement) → statement_refusal k (has_begun said) rows o ≡ None
    → drafted (said ++ cons_option o []) ≡ with_statement (drafted said) o
unfolding made
drafted_more k rows said None fine = absurd cc
drafted_more k rows said (Some nothing) fine =
    same_draft _ _ _ _ _ _ _ _
    (vars_more said nothing 0 refl ∙ omega arith)
    (objective_more said nothing ∙ append-nil (flat_map objective_in said))
    (rows_more said nothing ∙ append-nil (map in_normal_form (flat_map rows_in said)))
    (list_any-append speaks said (nothing ∷ []) ∙ or_false (has_begun said))
drafted_more k rows said (Some (minimize terms)) fine =
    same_draft _ _ _ _ _ _ _ _
    (vars_more said (minimize terms) (greatest_variable terms) (ap greatest_variable (append-nil terms)))
    (objective_more said (minimize terms) ∙ ap (λ (ts : List Term). ts ++ terms) (none_yet said (not_begun k (has_begun said) _ fine)))
    (rows_more said (minimize terms) ∙ append-nil (map in_normal_form (flat_map rows_in said)))
    (list_any-append speaks said (minimize terms ∷ []) ∙ or_true (has_begun said))
drafted_more k rows said (Some (constraint row)) fine =
    same_draft _ _ _ _ _ _ _ _
    (vars_more said (constraint row) (greatest_variable row.terms) (ap greatest_variable (append-nil row.terms)))
    (objective_more said (constraint row) ∙ append-nil (flat_map objective_in said))
    (rows_more said (constraint row))
    (list_any-append speaks said (constraint row ∷ []) ∙ or_true (has_begun said))

-- ---- one more line

pub said_more : (before : List Line) (line : Line) → statements (before ++ line ∷ []) ≡ statements before ++ cons_option (read_statement line) []
said_more before line = filter_map-append read_statement before (line ∷ [])

pub refusal_there : (k : ℕ) (before : List Line) (line : Line) → k ≡ length before + 1
    → refusal_behind k (drafted (statements before)) (read_statement line) ≡ line_refusal before line
refusal_there k before line e =
    let said : List Statement = statements before in
    ap (λ (n : ℕ). statement_refusal n (has_begun said) (length (map in_normal_form (flat_map rows_in said))) (read_statement line)) e
    ∙ ap (λ (n : ℕ). statement_refusal (length before + 1) (has_begun said) n (read_statement line)) (length-map (flat_map rows_in said) in_normal_form)
