use Rattle.std.proofs.Common.{ℕ, refl, subst, sym}
use Rattle.propagation.specs.Following.{IsOver}
use Rattle.pb_search.proofs.Openings.{one_more}
use Rattle.pb_search.proofs.opening.hold.Goals as goal

pub add_row-requires-clause-covered : goal.add_row-requires-clause-covered
add_row-requires-clause-covered c = subst (λ (n : ℕ). IsOver n c.in_ok-row.row) (sym c.requires.vars) (c.requires.can.short c.in_ok-row.row c.in_ok-row.ensures).over

pub add_row-requires-clause-short : goal.add_row-requires-clause-short
add_row-requires-clause-short c = (c.requires.can.short c.in_ok-row.row c.in_ok-row.ensures).short

pub returns-clause-held : goal.returns-clause-held
returns-clause-held c = one_more c.args.deriv.now c.args.engine.now c.add_row.new.self c.args.id.0 c.in_ok-add_row.field-0.0 c.args.id.0 c.in_ok-row.row _ c.requires.can c.in_ok-row.ensures c.in_ok-add_row.ensures.ok refl
