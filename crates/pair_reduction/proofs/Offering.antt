-- The offers of a visit, one after another.
use Rattle.std.proofs.Common.{◌≡◌, ℕ, zero, suc, ◌+◌, ◌-◌, ◌≤◌, Bool, true, false, not, ◌&&◌, ◌==◌, List, [], ◌∷◌, ◌++◌, append_assoc, nat_lt, if◌then◌else◌, length, take, count_by, set, refl, sym, ap, ◌∙◌, subst, inl, inr, arith, length-set}
use Rattle.std.specs.Prelude.{Some, replicate, slice_set}
use Rattle.std.proofs.lemmas.Bool.{and_from, and_parts, cases_eq, false_from_ne_true, leb-true, not-true, not_from_false, or_cases, or_left, or_right, true≢false}
use Rattle.std.proofs.lemmas.List.{append-nil, length-append, length-replicate}
use Rattle.std.proofs.lemmas.List.Sums.{count_by-le-length, sum_by_push}
use Rattle.hrt_base.specs.declared.numbered.RowNo.{RowNo}
use Rattle.hrt_base.specs.declared.numbered.PairNo.{PairNo}
use Rattle.pb_rows.specs.Formula.{NumberedRow, row_of}
use Rattle.rank_tables.specs.Numbers.{is_distinct, is_in, numbers_to}
use Rattle.rank_tables.specs.Instance.{Lists, capacity_of, pair_at, pair_count, rising_pairs_of_hospital, rank_by_hospital}
use Rattle.rank_tables.specs.Tables.{IsPairNo, numbers_of}
use Rattle.rank_tables.proofs.Numbers.{all_from, distinct-filter, distinct-numbers_to}
use Rattle.rank_tables.proofs.PairNumbers.{pair_of_hospital}
use Rattle.stability_model.specs.Gone.{Pairs, has_only}
use Rattle.stability_model.proofs.Counts.{count_by_le, count_in_list}
use Rattle.proof_rules.specs.States.{IsInOrder}
use Rattle.derivation.specs.Deletions.{Deletions, is_deleted}
use Rattle.derivation.specs.Derived.{Derived}
use Rattle.derivation.specs.Steps.{with_new_row}
use Rattle.derivation.proofs.Readiness.{row_last}
use Rattle.pair_reduction.specs.declared.sides.Side.TheVariants.{Resident, Hospital}
use Rattle.pair_reduction.specs.declared.known.Known.{Known}
use Rattle.pair_reduction.specs.declared.offered.Offers.{Offers}
use Rattle.pair_reduction.specs.Flags.{flag_count, is_marked}
use Rattle.pair_reduction.specs.Known.{IsKept}
use Rattle.pair_reduction.specs.Offered.{AreOffers, ReducesBy, is_offering}
use Rattle.pair_reduction.specs.Offers.{offer_row}
use Rattle.pair_reduction.specs.Reduced.{CanReduce, HasOffers, KeepsLive, Reduces}
use Rattle.pair_reduction.specs.Sides.{is_passed}
use Rattle.pair_reduction.proofs.GoingOn.{kept_row}
use Rattle.pair_reduction.proofs.Reducing.{reduces_more, reduces_none}
use Rattle.pair_reduction.proofs.Settling.{flag_none, flags_marked, mark_grows, mark_other}
use Rattle.pair_reduction.proofs.Tested.{listed_count}
use Rattle.pair_reduction.proofs.TwoSides.{free_only}
use Rattle.pair_reduction.proofs.Visiting.{one_of_more}

-- ---- the offers that were made

pub offers_kept : (lists : Lists) (old new : Derived) (offers : Offers) → KeepsLive old new → AreOffers lists old.state.live offers → AreOffers lists new.state.live offers
offers_kept lists old new offers kept are = record {
  places = are.places;
  rows = λ q i m. let row = are.rows q i m in (row.0, kept row.0 (offer_row lists q) row.1);
  count = are.count;
}

pub most_offers : (lists : Lists) (live : List NumberedRow) (offers : Offers) → AreOffers lists live offers → length offers.made.items ≤ pair_count lists
most_offers lists live offers are = omega (arith, are.count, are.places, count_by-le-length (λ (b : Bool). b) offers.offered.items)

-- a pair whose offer wasn't made leaves room for it
pub one_more_offer : (lists : Lists) (live : List NumberedRow) (offers : Offers) (q : ℕ) → AreOffers lists live offers → IsPairNo lists q → is_marked offers.offered.items q ≡ false → length offers.made.items + 1 ≤ pair_count lists
one_more_offer lists live offers q are q_is fresh =
    omega (
      arith,
      are.count,
      are.places,
      flags_marked offers.offered.items (q - 1) (omega (arith, q_is.0, q_is.1, are.places)) fresh,
      count_by-le-length (λ (b : Bool). b) (set offers.offered.items (q - 1) true),
      length-set offers.offered.items (q - 1) true,
    )

module _ (lists : Lists) (old new : Derived) (had has : Offers) (q : ℕ) (id : RowNo) (text : List ℕ) (are : AreOffers lists old.state.live had) (q_is : IsPairNo lists q) (fresh : is_marked had.offered.items q ≡ false) (is : new ≡ with_new_row (offer_row lists q) text old) (order : IsInOrder old.state) (offered : has.offered.items ≡ slice_set had.offered.items (q - 1) true) (made : has.made.items ≡ had.made.items ++ id ∷ []) where
  last : q ≤ length had.offered.items
  last = omega (arith, q_is.1, are.places)

  there : row_of old.state.next new.state.live ≡ Some (offer_row lists q)
  there = ap (λ (d : Derived). row_of old.state.next d.state.live) is ∙ row_last old.state.next (offer_row lists q) old.state.live order

  offers_grown : AreOffers lists new.state.live has
  offers_grown = record {
    places = ap length offered ∙ length-set had.offered.items (q - 1) true ∙ are.places;
    rows = λ x i m. elim (cases_eq x q) [
      | inl e ↦ (old.state.next, there ∙ ap (λ (z : ℕ). Some (offer_row lists z)) (sym e))
      | inr other ↦
          let row = are.rows x i (sym (mark_other had.offered.items q x q_is.0 i.0 other) ∙ ap (λ (flags : List Bool). is_marked flags x) (sym offered) ∙ m) in
          (row.0, kept_row (offer_row lists q) text old new is row.0 (offer_row lists x) row.1)
    ];
    count = omega (arith, ap (λ (xs : List RowNo). length xs) made, length-append had.made.items (id ∷ []), are.count, flags_marked had.offered.items (q - 1) (omega (arith, q_is.0, last)) fresh, ap flag_count offered);
  }

  pub by_offer : (deletions : Deletions) → Reduces lists old new deletions deletions (id ∷ []) → ReducesBy lists old new deletions deletions had has
  by_offer deletions reduces = record {
    made = id ∷ [];
    more = made;
    reduces = reduces;
    offers = offers_grown;
    stay = λ x also h. ap (λ (flags : List Bool). is_marked flags x) offered ∙ mark_grows had.offered.items q x q_is.0 last also h;
  }

-- ---- by the offers from before and by more

pub by_none : (lists : Lists) (d : Derived) (deletions : Deletions) (offers : Offers) → CanReduce lists d deletions → AreOffers lists d.state.live offers → ReducesBy lists d d deletions deletions offers offers
by_none lists d deletions offers can are = record { made = []; more = sym (append-nil offers.made.items); reduces = reduces_none lists d deletions can; offers = are; stay = λ q also h. h }

pub by_more : (lists : Lists) (a b c : Derived) (x y z : Deletions) (o p q : Offers) → ReducesBy lists a b x y o p → ReducesBy lists b c y z p q → ReducesBy lists a c x z o q
by_more lists a b c x y z o p q g h = record {
  made = g.made ++ h.made;
  more = h.more ∙ ap (λ (ids : List RowNo). ids ++ h.made) g.more ∙ append_assoc o.made.items g.made h.made;
  reduces = reduces_more lists a b c x y z g.made h.made g.reduces h.reduces;
  offers = h.offers;
  stay = λ k also e. h.stay k also (g.stay k also e);
}

pub by_then : (lists : Lists) (a b c : Derived) (x y z : Deletions) (had has : Offers) → ReducesBy lists a b x y had has → Reduces lists b c y z [] → ReducesBy lists a c x z had has
by_then lists a b c x y z had has g h = record {
  made = g.made;
  more = g.more;
  reduces = subst (Reduces lists a c x z) (append-nil g.made) (reduces_more lists a b c x y z g.made [] g.reduces h);
  offers = offers_kept lists b c has h.kept g.offers;
  stay = g.stay;
}

-- ---- one pair after another

not_counted : (b : Bool) (n : ℕ) → b ≡ false → n ≡ n + (if b then 1 else 0)
not_counted true n e = absurd (cc)
not_counted false n e = omega arith

one_counted : (b : Bool) (n : ℕ) → b ≡ true → n + 1 ≡ n + (if b then 1 else 0)
one_counted true n e = refl
one_counted false n e = absurd (cc)

-- after some pairs
pub record Offering (lists : Lists) (start now : Derived) (deletions : Deletions) (only : List Bool) (p found : ℕ) (qs : List ℕ) (had has : Offers) : Type 0 where
  pub reduces : ReducesBy lists start now deletions deletions had has
  pub counts : found ≡ count_by (is_offering lists only p) qs
  pub each : (q : ℕ) → is_in q qs ≡ true → 1 ≤ q → is_offering lists only p q ≡ true → is_marked has.offered.items q ≡ true

pub offering_none : (lists : Lists) (start : Derived) (deletions : Deletions) (only : List Bool) (p : ℕ) (offers : Offers) → CanReduce lists start deletions → AreOffers lists start.state.live offers → Offering lists start start deletions only p 0 [] offers offers
offering_none lists start deletions only p offers can are = record { reduces = by_none lists start deletions offers can are; counts = refl; each = λ q i also h. absurd (true≢false (sym i)) }

pub offering_passed : (lists : Lists) (start now : Derived) (deletions : Deletions) (only : List Bool) (p found q : ℕ) (qs more : List ℕ) (had has : Offers) → more ≡ qs ++ q ∷ [] → is_offering lists only p q ≡ false → Offering lists start now deletions only p found qs had has →
    Offering lists start now deletions only p found more had has
offering_passed lists start now deletions only p found q qs more had has e other o = record {
  reduces = o.reduces;
  counts = o.counts ∙ not_counted (is_offering lists only p q) (count_by (is_offering lists only p) qs) other ∙ sym (sum_by_push (λ x. if is_offering lists only p x then 1 else 0) qs q) ∙ ap (count_by (is_offering lists only p)) (sym e);
  each = λ x i also h. elim (one_of_more x q qs more e i) [
    | inl f ↦ o.each x f also h
    | inr f ↦ absurd (true≢false (sym h ∙ ap (is_offering lists only p) f ∙ other))
  ];
}

pub offering_made : (lists : Lists) (start now new : Derived) (deletions : Deletions) (only : List Bool) (p found q : ℕ) (qs more : List ℕ) (had has later : Offers) → more ≡ qs ++ q ∷ [] → is_offering lists only p q ≡ true → ReducesBy lists now new deletions deletions has later →
    is_marked later.offered.items q ≡ true → Offering lists start now deletions only p found qs had has → Offering lists start new deletions only p (found + 1) more had later
offering_made lists start now new deletions only p found q qs more had has later e yields made there o = record {
  reduces = by_more lists start now new deletions deletions deletions had has later o.reduces made;
  counts = ap (λ (n : ℕ). n + 1) o.counts ∙ one_counted (is_offering lists only p q) (count_by (is_offering lists only p) qs) yields ∙ sym (sum_by_push (λ x. if is_offering lists only p x then 1 else 0) qs q) ∙ ap (count_by (is_offering lists only p)) (sym e);
  each = λ x i also h. elim (one_of_more x q qs more e i) [
    | inl f ↦ made.stay x also (o.each x f also h)
    | inr f ↦ ap (is_marked later.offered.items) f ∙ there
  ];
}

pub offering_as : (lists : Lists) (start new now : Derived) (deletions : Deletions) (only : List Bool) (p found count : ℕ) (qs : List ℕ) (had has later : Offers) → now ≡ new → later ≡ has → count ≡ found → Offering lists start new deletions only p found qs had has → Offering lists start now deletions only p count qs had later
offering_as lists start new now deletions only p found count qs had has later e f g o =
    subst (λ (d : Derived). Offering lists start d deletions only p count qs had later) (sym e)
    (subst (λ (x : Offers). Offering lists start new deletions only p count qs had x) (sym f) (subst (λ (n : ℕ). Offering lists start new deletions only p n qs had has) (sym g) o))

pub offering_test : (inst lists : Lists) (only : List Bool) (p q : ℕ) (b x : Bool) → inst ≡ lists → b ≡ is_offering inst only p q → b ≡ x → is_offering lists only p q ≡ x
offering_test inst lists only p q b x same test e = ap (λ (l : Lists). is_offering l only p q) (sym same) ∙ sym test ∙ e

-- ---- what an offer asks for

pub marked_has_only : (inst lists : Lists) (known : Known) (p q : ℕ) → inst ≡ lists → IsKept lists known → IsPairNo inst q → is_offering inst known.only.items p q ≡ true → has_only lists (is_deleted known.gone) q ≡ true
marked_has_only inst lists known p q same kept q_is yields =
    let two = and_parts (nat_lt (rank_by_hospital inst q) (rank_by_hospital inst p)) (is_marked known.only.items q) yields in
    free_only lists (is_deleted known.gone) q ∙ kept.sound Resident q (subst (λ (l : Lists). IsPairNo l q) same q_is) two.1

pub few_posts : (inst lists : Lists) (marked : Pairs) (p q h : ℕ) → inst ≡ lists → h ≡ (pair_at inst p).hospital → (pair_at inst q).hospital ≡ h → is_passed Hospital lists marked p ≡ true → capacity_of lists (pair_at lists q).hospital ≤ length (rising_pairs_of_hospital lists (pair_at lists q).hospital)
few_posts inst lists marked p q h same here there passed =
    subst (λ (k : ℕ). capacity_of lists k ≤ length (rising_pairs_of_hospital lists k)) (sym (subst (λ (l : Lists). (pair_at l q).hospital ≡ (pair_at l p).hospital) same (there ∙ here)))
    (let enough = leb-true (capacity_of lists (pair_at lists p).hospital) _ passed in
    let most = count_by-le-length (λ x. nat_lt (rank_by_hospital lists x) (rank_by_hospital lists p) && marked x) (rising_pairs_of_hospital lists (pair_at lists p).hospital) in
    omega arith)

-- ---- the end of the loop

in_front_of : (i y : ℕ) (xs : List ℕ) → is_in y (take i xs) ≡ true → is_in y xs ≡ true
in_front_of zero y xs h = absurd (true≢false (sym h))
in_front_of (suc i) y [] h = h
in_front_of (suc i) y (x ∷ xs) h = elim (or_cases (x == y) (is_in y (take i xs)) h) [
  | inl e ↦ or_left (x == y) (is_in y xs) e
  | inr e ↦ or_right (x == y) (is_in y xs) (in_front_of i y xs e)
]

distinct_front : (i : ℕ) (xs : List ℕ) → is_distinct xs ≡ true → is_distinct (take i xs) ≡ true
distinct_front zero xs d = refl
distinct_front (suc i) [] d = refl
distinct_front (suc i) (x ∷ xs) d =
    let parts = and_parts (not (is_in x xs)) (is_distinct xs) d in
    and_from (not (is_in x (take i xs))) (is_distinct (take i xs)) (not_from_false (is_in x (take i xs)) (false_from_ne_true (is_in x (take i xs)) (λ h. true≢false (sym (in_front_of i x xs h) ∙ not-true (is_in x xs) parts.0)))) (distinct_front i xs parts.1)

numbers_front : (i : ℕ) (ps : List PairNo) → numbers_of (take i ps) ≡ take i (numbers_of ps)
numbers_front zero ps = refl
numbers_front (suc i) [] = refl
numbers_front (suc i) (p ∷ ps) = ap (λ (ns : List ℕ). p.0 ∷ ns) (numbers_front i ps)

pub ends_with_offers : (inst lists : Lists) (start now : Derived) (deletions : Deletions) (only : List Bool) (p h posts found i : ℕ) (ps : List PairNo) (had has : Offers) → inst ≡ lists → h ≡ (pair_at inst p).hospital → posts ≡ capacity_of inst h → is_distinct (numbers_of ps) ≡ true →
    ((q : ℕ) → is_in q (numbers_of ps) ≡ is_in q (rising_pairs_of_hospital inst h)) → Offering lists start now deletions only p found (numbers_of (take i ps)) had has → posts ≤ found → HasOffers lists p now.state.live
ends_with_offers inst lists start now deletions only p h posts found i ps had has same hospital capacity distinct alike o enough =
    let ns : List ℕ = rising_pairs_of_hospital lists (pair_at lists p).hospital in
    let qs : List ℕ = numbers_of (take i ps) in
    let posts_are : posts ≡ capacity_of lists (pair_at lists p).hospital = capacity ∙ ap (capacity_of inst) hospital ∙ ap (λ (l : Lists). capacity_of l (pair_at l p).hospital) same in
    let within : (q : ℕ) → is_in q qs ≡ true → is_in q ns ≡ true = λ q k.
    ap (is_in q) (ap (rising_pairs_of_hospital lists) (ap (λ (l : Lists). (pair_at l p).hospital) (sym same) ∙ sym hospital) ∙ ap (λ (l : Lists). rising_pairs_of_hospital l h) (sym same))
    ∙ sym (alike q) ∙ in_front_of i q (numbers_of ps) (ap (is_in q) (sym (numbers_front i ps)) ∙ k) in
    let counted : count_by (is_offering lists only p) qs ≡ count_by (λ x. is_in x qs && is_offering lists only p x) ns =
    count_in_list (is_offering lists only p) ns qs (distinct-filter (λ q. (pair_at lists q).hospital == (pair_at lists p).hospital) (numbers_to (pair_count lists)) (distinct-numbers_to (pair_count lists)))
    (ap is_distinct (numbers_front i ps) ∙ distinct_front i (numbers_of ps) distinct) (all_from (λ x. is_in x ns) qs within) in
    let le : count_by (λ x. is_in x qs && is_offering lists only p x) ns ≤ count_by (λ q. nat_lt (rank_by_hospital lists q) (rank_by_hospital lists p) && is_marked has.offered.items q) ns =
    count_by_le (λ x. is_in x qs && is_offering lists only p x) (λ q. nat_lt (rank_by_hospital lists q) (rank_by_hospital lists p) && is_marked has.offered.items q) ns
    (λ x k yields.
    let two = and_parts (is_in x qs) (is_offering lists only p x) yields in
    let better = and_parts (nat_lt (rank_by_hospital lists x) (rank_by_hospital lists p)) (is_marked only x) two.1 in
    and_from (nat_lt (rank_by_hospital lists x) (rank_by_hospital lists p)) (is_marked has.offered.items x) better.0 (o.each x two.0 (pair_of_hospital lists (pair_at lists p).hospital x k).0.0 two.1)) in
    record { offered = is_marked has.offered.items; enough = omega (arith, o.counts, counted, le, enough, posts_are); rows = o.reduces.offers.rows }

pub all_are_enough : (inst lists : Lists) (start now : Derived) (deletions : Deletions) (only : List Bool) (p h posts found i : ℕ) (ps : List PairNo) (had has : Offers) → inst ≡ lists → h ≡ (pair_at inst p).hospital → posts ≡ capacity_of inst h → is_distinct (numbers_of ps) ≡ true →
    ((q : ℕ) → is_in q (numbers_of ps) ≡ is_in q (rising_pairs_of_hospital inst h)) → length ps ≤ i → is_passed Hospital lists (is_marked only) p ≡ true → Offering lists start now deletions only p found (numbers_of (take i ps)) had has → posts ≤ found
all_are_enough inst lists start now deletions only p h posts found i ps had has same hospital capacity distinct alike all rule o =
    let posts_are : posts ≡ capacity_of lists (pair_at lists p).hospital = capacity ∙ ap (capacity_of inst) hospital ∙ ap (λ (l : Lists). capacity_of l (pair_at l p).hospital) same in
    let where_it_is : h ≡ (pair_at lists p).hospital = hospital ∙ ap (λ (l : Lists). (pair_at l p).hospital) same in
    let counted : count_by (is_offering lists only p) (numbers_of (take i ps)) ≡ count_by (is_offering lists only p) (rising_pairs_of_hospital lists (pair_at lists p).hospital) =
    listed_count lists h (pair_at lists p).hospital (is_offering lists only p) ps i where_it_is all distinct (λ q. alike q ∙ ap (λ (l : Lists). is_in q (rising_pairs_of_hospital l h)) same) in
    let enough : capacity_of lists (pair_at lists p).hospital ≤ count_by (is_offering lists only p) (rising_pairs_of_hospital lists (pair_at lists p).hospital) = leb-true (capacity_of lists (pair_at lists p).hospital) _ rule in
    omega (arith, o.counts, counted, enough, posts_are)

-- ---- the start

-- no offer was made
pub offers_first : (lists at : Lists) (live : List NumberedRow) (n : ℕ) (offers : Offers) → at ≡ lists → n ≡ pair_count at → offers.offered.items ≡ replicate n false → offers.made.items ≡ [] → AreOffers lists live offers
offers_first lists at live n offers same count offered made = record {
  places = ap length offered ∙ length-replicate n false ∙ count ∙ ap pair_count same;
  rows = λ q i m. absurd (true≢false (sym m ∙ ap (λ (flags : List Bool). is_marked flags q) offered ∙ flag_none n (q - 1)));
  count = ap (λ (xs : List RowNo). length xs) made ∙ sym (ap flag_count offered ∙ none_flagged n);
}
  where
    none_flagged : (n : ℕ) → flag_count (replicate n false) ≡ 0
    none_flagged zero = refl
    none_flagged (suc n) = none_flagged n
