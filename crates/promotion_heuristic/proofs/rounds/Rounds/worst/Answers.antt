use Rattle.std.proofs.Common.{sym, arith}
use Rattle.promotion_heuristic.proofs.KeptWorst.{first-declared, empty-none}
use Rattle.promotion_heuristic.proofs.MadeOf.{worst-read, worst-number}
use Rattle.promotion_heuristic.proofs.rounds.Rounds.worst.Goals as goal

pub index-requires : goal.index-requires
index-requires c =
    let l = first-declared c.args.inst.now c.args.self.now.standings.items c.args.self.now.queues c.args.h c.in-Some.worst c.requires.kept c.in-Some.ensures in
    omega (arith, c.args.self.now.standings.ok.0)

pub returns-in-Some : goal.returns-in-Some
returns-in-Some c =
    let lists = c.args.inst.now in
    let s = c.args.self.now.standings.items in
    let rows = c.args.self.now.queues in
    let l = first-declared lists s rows c.args.h c.in-Some.worst c.requires.kept c.in-Some.ensures in
    let pair = worst-read lists s rows c.args.h c.in-Some.worst c.index.result.now c.requires.kept c.in-Some.ensures l c.index.ensures in
    record { pair = pair; number = worst-number lists s c.args.h c.index.result.now.last pair }

pub returns-in-None : goal.returns-in-None
returns-in-None c =
    record { pair = sym (empty-none c.args.inst.now c.args.self.now.standings.items c.args.self.now.queues c.args.h c.requires.kept c.in-None.ensures); number = tt }
