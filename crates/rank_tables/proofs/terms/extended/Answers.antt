use Rattle.std.proofs.Common.{if◌then◌else◌, ap, sym, ◌∙◌, eq-eqb}
use Rattle.std.proofs.lemmas.Bool.{ne_eqb}
use Rattle.rank_tables.proofs.RowCounts.{run-extended}
use Rattle.rank_tables.proofs.terms.extended.Goals as goal
use Rattle.rank_tables.proofs.terms.extended.Goals.{then-next-run, else-next-run, then-next, else-next}

pub returns-clause-run : goal.returns-clause-run
returns-clause-run c = λ xs h.
    run-extended xs c.args.run c.args.next c.if-next-run.tied c.if-next.before.1 c.if-next.before.0 h c.requires.rising
    (elim c.if-next-run.branch [
      | then-next-run w ↦ w.tied-is ∙ sym (ap (λ b. if b then c.args.run.tied else 0) (eq-eqb c.args.next.rank c.args.run.rank w.if-next-run.true))
      | else-next-run w ↦ w.tied-is ∙ sym (ap (λ b. if b then c.args.run.tied else 0) (ne_eqb c.args.next.rank c.args.run.rank w.if-next-run.false))
    ])
    (elim c.if-next.branch [
      | then-next w ↦ ap (λ t. t.1) w.before-is ∙ sym (ap (λ b. if b then 1 else 0) w.if-next.true)
      | else-next w ↦ ap (λ t. t.1) w.before-is ∙ sym (ap (λ b. if b then 1 else 0) w.if-next.false)
    ])
    (elim c.if-next.branch [
      | then-next w ↦ ap (λ t. t.0) w.before-is ∙ sym (ap (λ b. if b then c.args.run.listed else 0) w.if-next.true)
      | else-next w ↦ ap (λ t. t.0) w.before-is ∙ sym (ap (λ b. if b then c.args.run.listed else 0) w.if-next.false)
    ])
