use Rattle.std.proofs.Common.{◌≡◌, ◌∙◌, ap, arith, length, not, rules, List}
use Rattle.std.proofs.lemmas.Fn.{filter_same}
use Rattle.hrt_base.specs.declared.literal.Lit.{Lit}
use Rattle.pb_rows.specs.Closure.{is_same_lit}
use Rattle.pb_propagate.specs.Engines.{without_lit}
use Rattle.pb_propagate.specs.Tables.{TrailState, entries_of}
use Rattle.pb_propagate.proofs.Backs.{tables-settled}
use Rattle.pb_propagate.proofs.Tabled.{trail-facts, trail_of}
use Rattle.pb_propagate.specs.Rooms.{AreTables}
use Rattle.pb_propagate.proofs.trail.Trail.settle.Goals as goal
use Rattle.pb_propagate.proofs.trail.Trail.settle.Goals.{After-retain}

kept : (c : After-retain) → c.retain.new.self.items ≡ without_lit c.args.lit c.self.inside.due.items
kept c = filter_same _ (λ a. not (is_same_lit c.args.lit a)) _ (λ x b f' k. search rules) _ _ c.retain.ensures.filtered

tables : (c : After-retain) → AreTables c.self.inside.values.items c.self.inside.marks.items c.self.inside.literals c.self.inside.starts c.retain.new.self
tables c = tables-settled _ _ _ _ _ c.self.invariant c.retain.new.self c.args.lit (kept c)
    (omega (arith, c.retain.ensures.bound, c.retain.new.self.ok.0, c.self.inside.due.ok.0)) (omega (arith, c.retain.ensures.capacity))

pub invariant_of-self : goal.invariant_of-self
invariant_of-self c = tables c

pub returns-clause-is : goal.returns-clause-is
returns-clause-is c =
    let vars = length c.self.inside.values.items in
    let entries = entries_of c.self.inside.marks.items c.self.inside.literals.items in
    ap (λ (ds : List Lit). trail_of vars entries ds) (kept c)
    ∙ ap (λ (t : TrailState). trail_of t.vars t.entries (without_lit c.args.lit t.due)) c.self.view_is

pub returns-clause-order : goal.returns-clause-order
returns-clause-order c = trail-facts _ _ _ _ _ (tables c)
