use Rattle.std.proofs.Common.{◌≡◌, ◌∙◌, ◌<◌, ℕ, Bool, List, ap, sym, subst}
use Rattle.std.specs.List.Sorted.{IsNonDecreasing}
use Rattle.hrt_base.specs.declared.literal.Term.{Term}
use Rattle.pb_rows.specs.Rows.{weaken_all}
use Rattle.conflict_rows.specs.Weakening.{vars_where}
use Rattle.conflict_rows.specs.ClauseRows.{is_other}
use Rattle.conflict_rows.specs.Marks.{set_before}
use Rattle.conflict_rows.proofs.Weakened.{vars_where-rise}
use Rattle.conflict_rows.proofs.ClauseStep.{reason_left}
use Rattle.conflict_rows.proofs.clauses.reason_clause.Goals as goal

pub clause_without-requires-clause-rising : goal.clause_without-requires-clause-rising
clause_without-requires-clause-rising c =
    let goes : Term → Bool = is_other (set_before c.args.marks.now c.args.k) c.args.t in
    let rising : IsNonDecreasing (vars_where goes c.terms.result.now) = rw c.terms.ensures.terms (vars_where-rise goes c.args.reason.terms c.terms.ensures.normal.rising) in
    subst IsNonDecreasing (sym c.in_ok-vars.ensures) rising

pub clause_without-requires-clause-some : goal.clause_without-requires-clause-some
clause_without-requires-clause-some c =
    let goes : Term → Bool = is_other (set_before c.args.marks.now c.args.k) c.args.t in
    let same : c.in_ok-vars.vars.items ≡ vars_where goes c.args.reason.terms = c.in_ok-vars.ensures ∙ ap (vars_where goes) c.terms.ensures.terms in
    subst (λ (names : List ℕ). 0 < (weaken_all names c.args.reason).degree) (sym same) (reason_left (set_before c.args.marks.now c.args.k) c.args.t c.args.reason c.terms.ensures.normal.rising c.requires.propagates)
