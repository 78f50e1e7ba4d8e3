use Rattle.std.proofs.Common.{◌∙◌, ◌++◌, ◌∷◌, [], List, ap}
use Rattle.row_arena.specs.declared.arena.Place.{Place}
use Rattle.pb_propagate.proofs.Assembled.{engine-added}
use Rattle.pb_propagate.proofs.engine.Engine.add_row.Goals as goal

pub invariant_of-self-2 : goal.invariant_of-self-2
invariant_of-self-2 c =
    engine-added c.self.inside.arena c.push.new.self c.self.inside.trail c.self.inside.places.items c.push_reserved.new.self.items c.self.inside.due_rows.items c.push_reserved-2.new.self.items c.in_ok-place.place c.args.row.now c.args.tag.0
    c.self.invariant c.in_ok-place.ensures.ok c.in_ok-place.ensures.fresh c.in_ok-place.ensures.kept
    (c.push_reserved.ensures.items ∙ ap (λ (ps : List Place). ps ++ c.in_ok-place.place ∷ []) c.in_ok-reserve.ensures.items)
    (c.push_reserved-2.ensures.items ∙ ap (λ (ps : List Place). ps ++ c.in_ok-place.place ∷ []) c.in_ok-reserve-2.ensures.items)
