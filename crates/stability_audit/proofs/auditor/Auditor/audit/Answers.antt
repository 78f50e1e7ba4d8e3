use Rattle.std.proofs.Common.{sym, ◌∙◌}
use Rattle.rank_tables.specs.Tables.{numbers_of}
use Rattle.stability_audit.proofs.Verdicts.{stable_iff}
use Rattle.stability_audit.proofs.auditor.Auditor.audit.Goals as goal

pub returns-clause-stable : goal.returns-clause-stable
returns-clause-stable c =
    let iff = stable_iff c.args.inst.now (numbers_of c.args.pairs.now) c.requires.pairs in
    (λ e. iff.0 (sym c.verdict-verdict.ensures ∙ e), λ s. c.verdict-verdict.ensures ∙ iff.1 s)
