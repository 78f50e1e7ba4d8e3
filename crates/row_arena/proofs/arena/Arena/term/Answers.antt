use Rattle.std.proofs.Common.{◌≡◌, ◌∙◌, ◌<◌, List, ap, arith, get_or, length, subst, sym}
use Rattle.hrt_base.specs.declared.literal.Term.{Term}
use Rattle.pb_rows.specs.Terms.{PlainRow}
use Rattle.row_arena.specs.Held.{row_at}
use Rattle.row_arena.proofs.Placed.{place-in, row-in}
use Rattle.row_arena.proofs.arena.Arena.term.Goals as goal

pub index-requires : goal.index-requires
index-requires c = omega (arith, place-in _ _ _ c.args.place.0 c.self.view_is c.requires.held, c.self.inside.rows.ok.0)

same : (c : goal.After-index) → c.index.result.now.terms.items ≡ (row_at c.args.place.0 c.args.self.now.held).terms
same c = ap (λ (r : PlainRow). r.terms) (row-in _ _ _ c.args.place.0 c.index.result.now c.self.view_is c.requires.held c.index.ensures)

within : (c : goal.After-index) → c.args.k < length c.index.result.now.terms.items
within c = subst (λ (ts : List Term). c.args.k < length ts) (sym (same c)) c.requires.term

pub index-requires-2 : goal.index-requires-2
index-requires-2 c = omega (arith, within c, c.index.result.now.terms.ok.0)

pub returns : goal.returns
returns c =
    let same' : c.index.result.now.terms.items ≡ (row_at c.args.place.0 c.args.self.now.held).terms = ap (λ (r : PlainRow). r.terms) (row-in _ _ _ c.args.place.0 c.index.result.now c.self.view_is c.requires.held c.index.ensures) in
    c.index-2.ensures ∙ ap (λ (ts : List Term). get_or ts c.args.k c.index-2.result.now) same'
