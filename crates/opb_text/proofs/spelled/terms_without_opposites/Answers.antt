use Rattle.std.proofs.Common.{sym, subst, List}
use Rattle.std.specs.List.{All}
use Rattle.hrt_base.specs.declared.literal.Term.{Term}
use Rattle.pb_rows.specs.Terms.{IsPositive}
use Rattle.pb_rows.proofs.Order.{rising_positive}
use Rattle.opb_text.proofs.spelled.terms_without_opposites.Goals as goal

pub without_opposite-requires : goal.without_opposite-requires
without_opposite-requires c =
    subst (λ (ts : List Term). All (λ (t : Term). IsPositive t.coef) ts) (sym c.terms-term-items.ensures.terms) (rising_positive 0 _ c.terms-term-items.ensures.normal.rising)
    c.loop-term.term-index _ c.loop-term-test.true
