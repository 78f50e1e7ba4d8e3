use Rattle.std.proofs.Common.{sym, ◌∙◌, arith}
use Rattle.std.proofs.lemmas.List.{length-set}
use Rattle.rank_tables.specs.Instance.{pair_count}
use Rattle.rank_tables.specs.Stability.{blocks}
use Rattle.lazy_stability.specs.Candidates.{point_of_trail}
use Rattle.stability_model.specs.Model.{pairs_of_point}
use Rattle.lazy_stability.proofs.Written.{fails, full_count, full_written, rest_next, room_next, written_next}
use Rattle.lazy_stability.proofs.table.Table.write.Goals as goal

pub returns-then-count-out-clause-count : goal.returns-then-count-out-clause-count
returns-then-count-out-clause-count c =
    let lists = c.args.inst.now in
    let test = blocks lists (pairs_of_point lists (point_of_trail c.args.engine.now.trail)) in
    full_count test c.loop-p.p (pair_count lists) c.loop-p.count c.loop-p.out c.args.out.now c.loop-p.invariant.room c.loop-p.invariant.size c.loop-p.invariant.written (omega (arith, c.loop-p.auto.p))
    (omega (arith, c.loop-p-test.true, c.pairs-p-end.ensures.count)) (sym c.blocks-in-loop-p.ensures ∙ c.if-not-blocks.false) c.if-count-out.true (length-set c.loop-p.out c.loop-p.count (record { 0 = c.loop-p.p }))

pub returns-then-count-out-clause-pairs : goal.returns-then-count-out-clause-pairs
returns-then-count-out-clause-pairs c =
    let lists = c.args.inst.now in
    let test = blocks lists (pairs_of_point lists (point_of_trail c.args.engine.now.trail)) in
    full_written test c.loop-p.p (pair_count lists) c.loop-p.count c.loop-p.out c.args.out.now c.loop-p.invariant.room c.loop-p.invariant.size c.loop-p.invariant.written (omega (arith, c.loop-p.auto.p))
    (omega (arith, c.loop-p-test.true, c.pairs-p-end.ensures.count)) (sym c.blocks-in-loop-p.ensures ∙ c.if-not-blocks.false) c.if-count-out.true (length-set c.loop-p.out c.loop-p.count (record { 0 = c.loop-p.p }))

pub loop-p-preserved : goal.loop-p-preserved
loop-p-preserved c =
    let lists = c.args.inst.now in
    let test = blocks lists (pairs_of_point lists (point_of_trail c.args.engine.now.trail)) in
    record {
      room = room_next c.loop-p.out c.loop-p.count (record { 0 = c.loop-p.p }) c.loop-p.invariant.room c.if-count-out.false;
      size = length-set c.loop-p.out c.loop-p.count (record { 0 = c.loop-p.p }) ∙ c.loop-p.invariant.size;
      written = written_next test c.loop-p.p c.loop-p.count c.loop-p.out c.loop-p.invariant.room c.loop-p.invariant.written (omega (arith, c.loop-p.auto.p)) (sym c.blocks-in-loop-p.ensures ∙ c.if-not-blocks.false);
      rest = rest_next c.loop-p.out c.args.out.now c.loop-p.count (record { 0 = c.loop-p.p }) c.loop-p.invariant.room c.loop-p.invariant.size c.loop-p.invariant.rest;
    }

pub loop-p-preserved-then-not-blocks : goal.loop-p-preserved-then-not-blocks
loop-p-preserved-then-not-blocks c =
    let lists = c.args.inst.now in
    let test = blocks lists (pairs_of_point lists (point_of_trail c.args.engine.now.trail)) in
    record {
      room = c.loop-p.invariant.room;
      size = c.loop-p.invariant.size;
      written = c.loop-p.invariant.written ∙ sym (fails test c.loop-p.p (omega (arith, c.loop-p.auto.p)) (sym c.blocks-in-loop-p.ensures ∙ c.if-not-blocks.true));
      rest = c.loop-p.invariant.rest;
    }
