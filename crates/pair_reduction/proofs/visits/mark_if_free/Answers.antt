use Rattle.std.proofs.Common.{sym, ◌∙◌}
use Rattle.pair_reduction.proofs.Visiting.{tries_mark}
use Rattle.pair_reduction.proofs.visits.mark_if_free.Goals as goal

pub returns : goal.returns
returns c = tries_mark c.args.side c.args.inst.now c.args.known.now c.mark.new.self c.args.p.0 c.requires.kept c.requires.p (sym c.is_marked.ensures ∙ c.if-is_marked.false) (sym c.is_free.ensures ∙ c.if-not-is_free.false) c.in_ok-mark.ensures
