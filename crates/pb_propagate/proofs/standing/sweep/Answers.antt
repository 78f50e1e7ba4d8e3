use Rattle.std.proofs.Common.{List, arith, subst, sym}
use Rattle.hrt_base.specs.declared.literal.Term.{Term}
use Rattle.level_sweep.specs.declared.sweeping.Standing.{Standing}
use Rattle.level_sweep.specs.Rows.{StandFor}
use Rattle.level_sweep.proofs.Rows.{weights-are}
use Rattle.row_arena.specs.Held.{row_at}
use Rattle.pb_propagate.specs.Entries.{set_of, up_to}
use Rattle.pb_propagate.proofs.Stands.{lowest-from}
use Rattle.pb_propagate.proofs.standing.sweep.Goals as goal

pub lowest_open-requires-clause-sum : goal.lowest_open-requires-clause-sum
lowest_open-requires-clause-sum c =
    let ts : List Term = (row_at c.args.place.0 c.args.arena.now.held).terms in
    let stand = subst (λ (xs : List Standing). StandFor (λ k. set_of (up_to k c.args.trail.now.entries)) ts xs) (sym c.deref_mut.ensures.value) c.list_stands.ensures.stand in
    omega (arith, weights-are _ ts c.deref_mut.result.now stand, c.list_stands.ensures.short.sum)

pub lowest_open-requires-clause-degree : goal.lowest_open-requires-clause-degree
lowest_open-requires-clause-degree c = omega (arith, c.degree_of-degree.ensures, c.list_stands.ensures.short.degree)

pub returns : goal.returns
returns c =
    let r = row_at c.args.place.0 c.args.arena.now.held in
    let stand = subst (λ (xs : List Standing). StandFor (λ k. set_of (up_to k c.args.trail.now.entries)) r.terms xs) (sym c.deref_mut.ensures.value) c.list_stands.ensures.stand in
    lowest-from c.args.trail.now.entries r c.lowest_open.result (c.lowest_open.ensures.rows (λ k. set_of (up_to k c.args.trail.now.entries)) r c.degree_of-degree.ensures stand)
