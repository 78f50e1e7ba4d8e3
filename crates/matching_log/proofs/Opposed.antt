-- Rows of opposite terms that ask for more than 0 together: their sum has no terms, and a degree above 0.
use Rattle.std.proofs.Common.{◌≡◌, ℕ, ◌+◌, ◌-◌, ◌<◌, ◌≤ℤ◌, true, List, [], ℤ, pos, negsuc, ap, sym, ◌∙◌, subst, arith}
use Rattle.std.specs.Prelude.{◌+ℤ◌, neg_ℤ}
use Rattle.std.proofs.lemmas.Int.{ints}
use Rattle.hrt_base.specs.declared.literal.Term.{Term}
use Rattle.pb_rows.specs.Terms.{PlainRow, coef_sum, positive_part}
use Rattle.pb_rows.specs.Points.{Point, true_sum, value_at}
use Rattle.pb_rows.specs.Normal.{normal_form}
use Rattle.pb_rows.specs.Rows.{IsWellFormedRow, add}
use Rattle.pb_rows.specs.Joined.{joined_form, lost_all, merged, put_all, signless_all, turned_sum}
use Rattle.pb_rows.proofs.ByNets.{joined_form_is}
use Rattle.pb_rows.proofs.Forms.{merged_is}
use Rattle.pb_rows.proofs.Order.{determined, put_all_rising, rising_from}
use Rattle.pb_rows.proofs.Signs.{signless_values}
use Rattle.pb_rows.proofs.Values.{put_all_value}
use Rattle.proof_rules.specs.States.{minus_terms}
use Rattle.proof_rules.proofs.Steps.{value-negated}

-- ---- a row by its values

-- At each point the true literals of the row sum to the value of the terms and a constant, and so much is asked more, where that is more
-- than 0.
record IsShifted (terms : List Term) (at_least : ℤ) (row : PlainRow) : Type 0 where
  by : ℕ
  less : ℕ
  values : (p : Point) → pos (true_sum p row.terms + less) ≡ value_at p terms +ℤ pos by
  asks : (at_least +ℤ pos by) ≤ℤ pos (row.degree + less)

part_above : (z : ℤ) (k : ℕ) → z ≤ℤ pos ((positive_part z - k) + k)
part_above (pos n) k = omega (arith, ints)
part_above (negsuc n) k = omega (arith, ints)

joined_shifted : (ts : List Term) (z : ℤ) → IsShifted ts z (joined_form ts z)
joined_shifted ts z = record {
  by = turned_sum ts;
  less = lost_all [] (signless_all ts);
  values = λ p.
      let all : true_sum p (put_all [] (signless_all ts)) + lost_all [] (signless_all ts) ≡ true_sum p (signless_all ts) = omega (arith, put_all_value p [] (signless_all ts)) in
      ap pos all ∙ sym (signless_values p ts);
  asks = part_above (z +ℤ pos (turned_sum ts)) (lost_all [] (signless_all ts));
}

shifted : (ts : List Term) (z : ℤ) → IsShifted ts z (normal_form ts z)
shifted ts z = subst (IsShifted ts z) (joined_form_is ts z) (joined_shifted ts z)

-- ---- their sum

module _ (ts : List Term) (z w : ℤ) (above : pos 1 ≤ℤ (z +ℤ w)) (formed : IsWellFormedRow (normal_form ts z)) (opposed : IsWellFormedRow (normal_form (minus_terms ts) w)) where
  abbrev a : PlainRow
  a = normal_form ts z

  abbrev b : PlainRow
  b = normal_form (minus_terms ts) w

  s : IsShifted ts z a
  s = shifted ts z

  t : IsShifted (minus_terms ts) w b
  t = shifted (minus_terms ts) w

  together : (p : Point) → true_sum p a.terms + true_sum p b.terms + (s.less + t.less) ≡ s.by + t.by
  together p =
      let first = s.values p in
      let second : pos (true_sum p b.terms + t.less) ≡ neg_ℤ (value_at p ts) +ℤ pos t.by = t.values p ∙ ap (λ (v : ℤ). v +ℤ pos t.by) (value-negated p ts) in
      omega (arith, ints, first, second)

  sum_terms : (put_all a.terms b.terms ≡ []) × (lost_all a.terms b.terms ≡ (s.by + t.by) - (s.less + t.less))
  sum_terms =
      determined 0 0 (put_all a.terms b.terms) [] (lost_all a.terms b.terms) ((s.by + t.by) - (s.less + t.less)) (put_all_rising 0 a.terms b.terms (rising_from 0 b.terms opposed.rising) formed.rising) tt
      (λ p. omega (arith, put_all_value p a.terms b.terms, together p))

  asked : (s.by + t.by) - (s.less + t.less) < a.degree + b.degree
  asked = omega (arith, ints, above, s.asks, t.asks, together (λ _. true))

  merged_contradicts : coef_sum (merged a b).terms < (merged a b).degree
  merged_contradicts = omega (arith, ap coef_sum sum_terms.0, sum_terms.1, asked)

  pub opposed_contradict : coef_sum (add a b).terms < (add a b).degree
  opposed_contradict = subst (λ (row : PlainRow). coef_sum row.terms < row.degree) (merged_is a b formed opposed) merged_contradicts
