use Rattle.std.proofs.Common.{◌≡◌, ◌∙◌, ◌<◌, ℕ, Bool, List, ap, sym, subst}
use Rattle.std.specs.List.Sorted.{IsNonDecreasing}
use Rattle.hrt_base.specs.declared.literal.Term.{Term}
use Rattle.pb_rows.specs.Rows.{weaken_all}
use Rattle.conflict_rows.specs.Weakening.{vars_where}
use Rattle.conflict_rows.specs.ClauseRows.{is_nonfalse}
use Rattle.conflict_rows.specs.Marks.{set_now}
use Rattle.conflict_rows.proofs.Weakened.{vars_where-rise}
use Rattle.conflict_rows.proofs.ClauseStep.{conflict_left}
use Rattle.conflict_rows.proofs.clauses.conflict_clause.Goals as goal

pub clause_without-requires-clause-rising : goal.clause_without-requires-clause-rising
clause_without-requires-clause-rising c =
    let goes : Term → Bool = is_nonfalse (set_now c.args.marks.now) in
    let rising : IsNonDecreasing (vars_where goes c.terms.result.now) = rw c.terms.ensures.terms (vars_where-rise goes c.args.row.terms c.terms.ensures.normal.rising) in
    subst IsNonDecreasing (sym c.in_ok-vars.ensures) rising

pub clause_without-requires-clause-some : goal.clause_without-requires-clause-some
clause_without-requires-clause-some c =
    let goes : Term → Bool = is_nonfalse (set_now c.args.marks.now) in
    let same : c.in_ok-vars.vars.items ≡ vars_where goes c.args.row.terms = c.in_ok-vars.ensures ∙ ap (vars_where goes) c.terms.ensures.terms in
    subst (λ (names : List ℕ). 0 < (weaken_all names c.args.row).degree) (sym same) (conflict_left (set_now c.args.marks.now) c.args.row c.terms.ensures.normal.rising c.requires.falsified)
