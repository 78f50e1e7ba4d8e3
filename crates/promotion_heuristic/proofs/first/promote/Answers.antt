use Rattle.std.proofs.Common.{◌≡◌, length, arith}
use Rattle.promotion_heuristic.proofs.Promoted.{AllSettled, if_ok-steps, if_ok-ended, if_ok-stable, if_ok-rising, if_ok-numbers}
use Rattle.promotion_heuristic.proofs.first.promote.Goals as goal

pub returns-clause-steps : goal.returns-clause-steps
returns-clause-steps c =
    let lists = c.args.inst.now in
    let all : c.loop-r.r ≡ length lists.residents = omega (arith, c.loop-r-test.false, c.loop-r.auto.r-end, c.residents-r-end.ensures.count) in
    let settled : AllSettled lists c.loop-r.rounds.standings.items c.loop-r.r =
    record { well_formed = c.residents-r-end.ensures.well_formed; reached = c.loop-r.invariant.reached; settled = c.loop-r.invariant.settled; all = all } in
    if_ok-steps lists c.loop-r.rounds.standings.items c.deref.result.now c.loop-r.r c.held_pairs.result settled c.deref.ensures.value c.held_pairs.ensures

pub returns-clause-stable : goal.returns-clause-stable
returns-clause-stable c =
    let lists = c.args.inst.now in
    let all : c.loop-r.r ≡ length lists.residents = omega (arith, c.loop-r-test.false, c.loop-r.auto.r-end, c.residents-r-end.ensures.count) in
    let settled : AllSettled lists c.loop-r.rounds.standings.items c.loop-r.r =
    record { well_formed = c.residents-r-end.ensures.well_formed; reached = c.loop-r.invariant.reached; settled = c.loop-r.invariant.settled; all = all } in
    if_ok-stable lists c.loop-r.rounds.standings.items c.deref.result.now c.loop-r.r c.held_pairs.result settled c.deref.ensures.value c.held_pairs.ensures

pub returns-clause-numbers : goal.returns-clause-numbers
returns-clause-numbers c =
    let lists = c.args.inst.now in
    let all : c.loop-r.r ≡ length lists.residents = omega (arith, c.loop-r-test.false, c.loop-r.auto.r-end, c.residents-r-end.ensures.count) in
    let settled : AllSettled lists c.loop-r.rounds.standings.items c.loop-r.r =
    record { well_formed = c.residents-r-end.ensures.well_formed; reached = c.loop-r.invariant.reached; settled = c.loop-r.invariant.settled; all = all } in
    if_ok-numbers lists c.loop-r.rounds.standings.items c.deref.result.now c.loop-r.r c.held_pairs.result settled c.deref.ensures.value c.held_pairs.ensures

pub returns-clause-ended : goal.returns-clause-ended
returns-clause-ended c = if_ok-ended c.args.inst.now c.held_pairs.result _ c.held_pairs.ensures

pub returns-clause-rising : goal.returns-clause-rising
returns-clause-rising c = if_ok-rising c.args.inst.now c.deref.result.now c.held_pairs.result c.held_pairs.ensures
