use Rattle.std.proofs.Common.{◌≡◌, ◌∙◌, ◌==◌, ◌+◌, ◌-◌, ℕ, List, ap, arith, get_or, length, not, rules, sym}
use Rattle.std.proofs.lemmas.Bool.{eqb-true}
use Rattle.std.proofs.lemmas.Fn.{filter_same}
use Rattle.row_arena.specs.declared.arena.Place.{Place}
use Rattle.pb_propagate.proofs.DueRows.{off-last}
use Rattle.pb_propagate.proofs.engine.take_off.Goals as goal

pub returns-then-stands_at : goal.returns-then-stands_at
returns-then-stands_at c =
    let places : List Place = c.args.places.now.items in
    let front : ℕ = c.len-count.result - 1 in
    let count : front + 1 ≡ length places = omega (arith, c.if-count-gt0.true, c.len-count.ensures) in
    let last : (get_or places front c.args.place).0 ≡ c.args.place.0 =
    eqb-true _ _ (ap (λ (ps : List Place). (get_or ps front c.args.place).0 == c.args.place.0) (sym c.deref.ensures.value) ∙ sym c.stands_at.ensures ∙ c.if-stands_at.true) in
    c.truncate.ensures.items ∙ off-last places c.args.place front c.requires count last

pub returns : goal.returns
returns c = filter_same _ (λ (q : Place). not (c.args.place.0 == q.0)) _ (λ x b f' k. search rules) _ _ c.retain.ensures.filtered
