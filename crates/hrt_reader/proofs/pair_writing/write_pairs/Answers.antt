use Rattle.std.proofs.Common.{◌≡◌, ◌∙◌, take, ap, arith, rules}
use Rattle.std.specs.Prelude.{flat_map}
use Rattle.std.proofs.lemmas.List.{take_all}
use Rattle.rank_tables.specs.Instance.{Lists}
use Rattle.hrt_reader.proofs.Flat.{part_sent, part_failed, sent_as, failed_as}
use Rattle.hrt_reader.proofs.PairsBack.{line_of, lines_of, spelled_back}
use Rattle.hrt_reader.proofs.pair_writing.write_pairs.Goals as goal

pub write_pair-requires-clause-number : goal.write_pair-requires-clause-number
write_pair-requires-clause-number g c = c.requires.in_range c.loop-pair.pair-index (record { 0 = 0 }) (omega arith)

pub loop-pair-preserved : goal.loop-pair-preserved
loop-pair-preserved g c =
    part_sent (line_of c.args.inst.now) c.args.pairs.now c.loop-pair.pair-index _ _ _ _ _ _ (omega arith) c.loop-pair.invariant c.in_ok-write_pair.ensures.sent

pub returns-in_err-write_pair-clause-failed : goal.returns-in_err-write_pair-clause-failed
returns-in_err-write_pair-clause-failed g c =
    let lists : Lists = c.args.inst.now in
    let part = failed_as _ _ _ _ _ _ (lines_of lists c.args.pairs.now) (part_failed (line_of lists) c.args.pairs.now c.loop-pair.pair-index (record { 0 = 0 }) _ _ _ _ _ (omega arith) c.loop-pair.invariant c.in_err-write_pair.ensures.failed) in
    search rules

pub returns-in_err-write_pair-clause-read_back : goal.returns-in_err-write_pair-clause-read_back
returns-in_err-write_pair-clause-read_back g c = spelled_back c.args.inst.now c.args.pairs.now c.requires.in_range c.requires.distinct c.residents-count.ensures.well_formed

pub returns-clause-sent : goal.returns-clause-sent
returns-clause-sent g c =
    let lists : Lists = c.args.inst.now in
    let all : take c.loop-pair.pair-index c.args.pairs.now ≡ c.args.pairs.now = take_all c.loop-pair.pair-index c.args.pairs.now (omega arith) in
    sent_as _ _ _ _ _ _ (ap (flat_map (line_of lists)) all ∙ lines_of lists c.args.pairs.now) c.loop-pair.invariant

pub returns-clause-read_back : goal.returns-clause-read_back
returns-clause-read_back g c = spelled_back c.args.inst.now c.args.pairs.now c.requires.in_range c.requires.distinct c.residents-count.ensures.well_formed
