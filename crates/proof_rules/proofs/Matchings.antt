-- What a valid proof of an instance's model says of matchings is so.
use Rattle.std.proofs.Common.{◌≡◌, ℕ, true, List, [], ◌∷◌, map, length, All, ℤ, pos, neg_ℤ, ◌≤ℤ◌, refl, sym, ap, ◌∙◌, arith}
use Rattle.std.specs.Prelude.{Option, Some, None}
use Rattle.std.specs.List.{list_all}
use Rattle.std.proofs.lemmas.Int.{ints}
use Rattle.std.proofs.lemmas.Bool.{and_from, and_parts}
use Rattle.std.proofs.lemmas.List.Elements.{All-cons, All-head, All-nil, All-tail}
use Rattle.pb_rows.specs.Terms.{IsRisingFrom, PlainRow, Written}
use Rattle.pb_rows.specs.Points.{Point, value_at}
use Rattle.pb_rows.specs.Normal.{var_bound}
use Rattle.pb_rows.specs.Rows.{AllHold, holds, in_normal_form}
use Rattle.pb_rows.proofs.ByNets.{joined_rising}
use Rattle.rank_tables.proofs.ListFacts.{list_all-each}
use Rattle.rank_tables.specs.Instance.{Lists}
use Rattle.rank_tables.specs.Stability.{is_matching, is_weakly_stable}
use Rattle.stability_model.specs.Model.{all_rows_hold, formula, objective, pairs_of_point, point_of_pairs, rows, written_rows}
use Rattle.stability_model.proofs.ModelExact.{ModelExact, ObjectiveExact}
use Rattle.stability_model.proofs.Optimum.{length_of_point, point_of_stable}
use Rattle.stability_model.proofs.PairRow.{Matching, matching_parts}
use Rattle.proof_lines.specs.declared.line.Claim.{Claim}
use Rattle.proof_lines.specs.declared.line.Claim.TheVariants.{Bounds, Unsat, Nothing}
use Rattle.proof_rules.specs.Sound.{HasNormalRows, IsLowerBound, IsTrueClaim, IsUpperBound}
use Rattle.proof_rules.specs.Matchings.{NoneIsLarger, OneIsAsLarge, SaysOfMatchings, VerifiedBounds}
use Rattle.proof_rules.proofs.Verdicts.{texts_sound}

-- ---- the model's rows

pub all_rise : (ws : List Written) → All (λ (row : PlainRow). IsRisingFrom 0 row.terms) (map in_normal_form ws)
all_rise [] = All-nil (λ (row : PlainRow). IsRisingFrom 0 row.terms)
all_rise (w ∷ ws) = All-cons (λ (row : PlainRow). IsRisingFrom 0 row.terms) (in_normal_form w) (map in_normal_form ws) (joined_rising (var_bound w.terms) w.terms) (all_rise ws)

pub model-normal : (lists : Lists) → HasNormalRows (formula lists)
model-normal lists = all_rise (written_rows lists)

-- ---- points and matchings

pub rows-hold : (lists : Lists) (p : Point) → all_rows_hold lists p ≡ true → AllHold p (rows lists)
rows-hold lists p h = list_all-each (holds p) (rows lists) h

all_pass : (p : Point) (rs : List PlainRow) → AllHold p rs → list_all (holds p) rs ≡ true
all_pass p [] h = refl
all_pass p (row ∷ rs) h =
    and_from (holds p row) (list_all (holds p) rs) (All-head (λ (r : PlainRow). holds p r ≡ true) row rs h) (all_pass p rs (All-tail (λ (r : PlainRow). holds p r ≡ true) row rs h))

pub hold-rows : (lists : Lists) (p : Point) → AllHold p (rows lists) → all_rows_hold lists p ≡ true
hold-rows lists p h = all_pass p (rows lists) h

value_of_stable : (lists : Lists) (m : List ℕ) → is_weakly_stable lists m ≡ true → value_at (point_of_pairs m) (objective lists) ≡ neg_ℤ (pos (length m))
value_of_stable lists m h =
    let parts : Matching lists m = matching_parts lists m (and_parts (is_matching lists m) _ h).0 in
    ObjectiveExact lists (point_of_pairs m) ∙ ap (λ (k : ℕ). neg_ℤ (pos k)) (length_of_point lists m parts.distinct parts.in_range)

-- ---- bounds

at_most : (l v : ℤ) (k : ℕ) → v ≡ neg_ℤ (pos k) → l ≤ℤ v → pos k ≤ℤ neg_ℤ l
at_most l v k e h = omega (arith, ints)

at_least : (u v : ℤ) (k : ℕ) → v ≡ neg_ℤ (pos k) → v ≤ℤ u → neg_ℤ u ≤ℤ pos k
at_least u v k e h = omega (arith, ints)

none_larger : (lists : Lists) (lower : Option ℤ) → IsLowerBound (formula lists) lower → NoneIsLarger lists lower
none_larger lists None h = tt
none_larger lists (Some l) h =
    λ m s. at_most l (value_at (point_of_pairs m) (objective lists)) (length m) (value_of_stable lists m s) (h (point_of_pairs m) (rows-hold lists (point_of_pairs m) (point_of_stable lists m s)))

one_as_large : (lists : Lists) (upper : Option ℤ) → IsUpperBound (formula lists) upper → OneIsAsLarge lists upper
one_as_large lists None h = tt
one_as_large lists (Some u) h = (
  pairs_of_point lists h.0,
  sym (ModelExact lists h.0) ∙ hold-rows lists h.0 h.1,
  at_least u (value_at h.0 (objective lists)) (length (pairs_of_point lists h.0)) (ObjectiveExact lists h.0) h.2,
)

pub says : (lists : Lists) (claim : Claim) → IsTrueClaim (formula lists) claim → SaysOfMatchings lists claim
says lists (Bounds lower upper) h = (none_larger lists lower h.0, one_as_large lists upper h.1)
says lists Unsat h = λ m s. h (point_of_pairs m) (rows-hold lists (point_of_pairs m) (point_of_stable lists m s))
says lists Nothing h = tt

pub verified_bounds : VerifiedBounds
verified_bounds lists bytes claim valid = says lists claim (texts_sound (formula lists) bytes claim (model-normal lists) valid)
