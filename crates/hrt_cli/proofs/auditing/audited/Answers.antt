use Rattle.std.proofs.Common.{subst, sym, arith}
use Rattle.std.proofs.lemmas.List.{length-map}
use Rattle.hrt_base.specs.declared.numbered.PairNo.{PairNo}
use Rattle.rank_tables.specs.Tables.{numbers_of}
use Rattle.rank_tables.proofs.StablePairs.{pairs_length}
use Rattle.stability_audit.specs.Verdict.{ArePairs}
use Rattle.hrt_cli.specs.Reports.{NamesDeclared}
use Rattle.hrt_cli.proofs.AuditedPairs.{are_pairs_of, named}
use Rattle.hrt_cli.proofs.auditing.audited.Goals as goal

pub audit-verdict-requires-clause-pairs : goal.audit-verdict-requires-clause-pairs
audit-verdict-requires-clause-pairs c = are_pairs_of c.args.inst.now c.args.pairs.now c.requires.in_range c.requires.distinct

pub audit_report-requires-clause-few : goal.audit_report-requires-clause-few
audit_report-requires-clause-few c =
    let pairs : ArePairs c.args.inst.now (numbers_of c.args.pairs.now) = are_pairs_of c.args.inst.now c.args.pairs.now c.requires.in_range c.requires.distinct in
    omega (arith, c.requires.few, length-map c.args.pairs.now (λ (p : PairNo). p.0), pairs_length c.args.inst.now (numbers_of c.args.pairs.now) pairs.distinct pairs.in_range)

pub audit_report-requires-clause-named : goal.audit_report-requires-clause-named
audit_report-requires-clause-named c = subst (NamesDeclared c.args.inst.now) (sym c.audit-verdict.ensures.verdict) (named c.args.inst.now (numbers_of c.args.pairs.now))
