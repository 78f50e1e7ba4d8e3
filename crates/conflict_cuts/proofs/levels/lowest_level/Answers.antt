use Rattle.std.proofs.Common.{List, ◌≡◌, ap, arith}
use Rattle.pb_rows.specs.Terms.{coef_sum}
use Rattle.pb_rows.proofs.Order.{rising_positive}
use Rattle.conflict_rows.specs.Marks.{set_up_to}
use Rattle.level_sweep.specs.declared.sweeping.Standing.{Standing}
use Rattle.level_sweep.specs.Levels.{weights}
use Rattle.level_sweep.proofs.Rows.{weights-are}
use Rattle.conflict_cuts.proofs.levels.lowest_level.Goals as goal

pub standings_of-requires-clause-positive : goal.standings_of-requires-clause-positive
standings_of-requires-clause-positive c = rw c.terms.ensures.terms (rising_positive 0 c.args.row.now.terms c.terms.ensures.normal.rising)

pub lowest_open-requires-clause-sum : goal.lowest_open-requires-clause-sum
lowest_open-requires-clause-sum c =
    let sum : weights c.in_ok-stands.stands.items ≡ coef_sum c.terms.result.now = weights-are (set_up_to c.args.marks.now) c.terms.result.now c.in_ok-stands.stands.items c.in_ok-stands.ensures in
    let same : weights c.deref_mut.result.now ≡ weights c.in_ok-stands.stands.items = ap (λ (xs : List Standing). weights xs) c.deref_mut.ensures.value in
    let terms : coef_sum c.terms.result.now ≡ coef_sum c.args.row.now.terms = ap coef_sum c.terms.ensures.terms in
    omega (arith, sum, same, terms, c.terms.ensures.normal.fits.sum)
