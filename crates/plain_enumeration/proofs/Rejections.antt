-- Deferred acceptance on sets of rejected pairs: each resident chooses its best pair that isn't rejected, and a pair is
-- rejected where its hospital's posts are filled by others that it ranks as high. It ends in choices that no pair blocks.
use Rattle.std.proofs.Common.{◌≡◌, ℕ, zero, suc, ◌+◌, ◌<◌, ◌≤◌, Bool, true, false, not, ◌&&◌, ◌||◌, ◌==◌, nat_le, nat_lt, count_by, refl, sym, ap, ◌∙◌, ◌⊎◌, inl, inr, subst, arith}
use Rattle.std.specs.List.{list_all, list_any}
use Rattle.std.proofs.lemmas.Bool.{true≢false, eqb-true, eq-eqb, ne_eqb, and_from, and_parts, or_cases, or_right, or_left, or_parts, or_from, lt-ltb, leb-true, le-leb, not-true, not_from_false, not_from_true, cases_Bool, cases_lt, false_from_ne_true}
use Rattle.std.proofs.lemmas.Bool.Decides.{nat_tests}
use Rattle.rank_tables.specs.Numbers.{numbers_to, is_in}
use Rattle.rank_tables.proofs.Numbers.{element, list_any-count, all_at, all_from, distinct-numbers_to}
use Rattle.plain_enumeration.proofs.Counts.{count_le, count_lt, but, count_but, any_from, IsOrder, IsFirst, first}

-- Pairs 1 to the count, each of a resident and a hospital, with its rank on either side, and the posts of each hospital.
pub record Market : Type 0 where
  pub count : ℕ
  pub resident : ℕ → ℕ
  pub hospital : ℕ → ℕ
  pub rank_by_resident : ℕ → ℕ
  pub rank_by_hospital : ℕ → ℕ
  pub capacity : ℕ → ℕ

-- ---- the choices

-- the better one for a resident, and of equals the one with the smaller number
abbrev is_before : (rank : ℕ → ℕ) → ℕ → ℕ → Bool
is_before rank p q = nat_lt (rank p) (rank q) || (rank p == rank q && nat_le p q)

before_total : (m n p q : ℕ) → (nat_lt m n || (m == n && nat_le p q)) ≡ false → (nat_lt n m || (n == m && nat_le q p)) ≡ true
before_total m n p q h = grind (arith, nat_tests)

before_joins : (l m n p q r : ℕ) → (nat_lt l m || (l == m && nat_le p q)) ≡ true → (nat_lt m n || (m == n && nat_le q r)) ≡ true → (nat_lt l n || (l == n && nat_le p r)) ≡ true
before_joins l m n p q r h k = grind (arith, nat_tests)

before_rank : (m n p q : ℕ) → (nat_lt m n || (m == n && nat_le p q)) ≡ true → m ≤ n
before_rank m n p q h = grind (arith, nat_tests)

before_both : (m n p q : ℕ) → (nat_lt m n || (m == n && nat_le p q)) ≡ true → (nat_lt n m || (n == m && nat_le q p)) ≡ true → p ≡ q
before_both m n p q h k = grind (arith, nat_tests)

is_before-order : (rank : ℕ → ℕ) → IsOrder (is_before rank)
is_before-order rank = record {
  total = λ x y h. before_total (rank x) (rank y) x y h;
  joins = λ x y z h k. before_joins (rank x) (rank y) (rank z) x y z h k;
}

-- a pair of this resident that isn't rejected
abbrev is_left : Market → (ℕ → Bool) → ℕ → ℕ → Bool
is_left k rejected r q = not (rejected q) && (k.resident q == r)

-- p isn't rejected, and comes before the others of its resident that aren't
pub is_choice : Market → (ℕ → Bool) → ℕ → Bool
is_choice k rejected p =
    not (rejected p) && list_all (λ q. not (is_left k rejected (k.resident p) q) || is_before k.rank_by_resident p q) (numbers_to k.count)

choice_left : (k : Market) (rejected : ℕ → Bool) (p : ℕ) → is_choice k rejected p ≡ true → rejected p ≡ false
unfolding is_choice
choice_left k rejected p h = not-true _ (and_parts (not (rejected p)) _ h).0

choice_before : (k : Market) (rejected : ℕ → Bool) (p q : ℕ) → is_choice k rejected p ≡ true → is_in q (numbers_to k.count) ≡ true →
    is_left k rejected (k.resident p) q ≡ true → is_before k.rank_by_resident p q ≡ true
unfolding is_choice
choice_before k rejected p q h i l =
    elim (or_cases _ (is_before k.rank_by_resident p q) (all_at _ (numbers_to k.count) q (and_parts (not (rejected p)) _ h).1 i)) [
      | inl e ↦ absurd (true≢false (sym e ∙ not_from_true _ l))
      | inr e ↦ e
    ]

choice_from : (k : Market) (rejected : ℕ → Bool) (p : ℕ) → rejected p ≡ false →
    ((q : ℕ) → is_in q (numbers_to k.count) ≡ true → is_left k rejected (k.resident p) q ≡ true → is_before k.rank_by_resident p q ≡ true) → is_choice k rejected p ≡ true
unfolding is_choice
choice_from k rejected p e h =
    and_from _ _ (not_from_false _ e) (all_from _ (numbers_to k.count) (λ q i.
    elim (cases_Bool (is_left k rejected (k.resident p) q)) [
      | inl l ↦ or_right _ (is_before k.rank_by_resident p q) (h q i l)
      | inr l ↦ or_left _ (is_before k.rank_by_resident p q) (not_from_false _ l)
    ]))

-- a resident has one choice
pub one_choice : (k : Market) (rejected : ℕ → Bool) (p q : ℕ) → is_in p (numbers_to k.count) ≡ true → is_in q (numbers_to k.count) ≡ true →
    is_choice k rejected p ≡ true → is_choice k rejected q ≡ true → k.resident p ≡ k.resident q → p ≡ q
one_choice k rejected p q i j c d e =
    before_both (k.rank_by_resident p) (k.rank_by_resident q) p q
    (choice_before k rejected p q c j (and_from _ _ (not_from_false _ (choice_left k rejected q d)) (eq-eqb _ _ (sym e))))
    (choice_before k rejected q p d i (and_from _ _ (not_from_false _ (choice_left k rejected p c)) (eq-eqb _ _ e)))

-- where a pair isn't rejected, its resident has a choice that it ranks as high
pub some_choice : (k : Market) (rejected : ℕ → Bool) (p : ℕ) → is_in p (numbers_to k.count) ≡ true → rejected p ≡ false →
    (q : ℕ) × (is_in q (numbers_to k.count) ≡ true) × (is_choice k rejected q ≡ true) × (k.resident q ≡ k.resident p) × (k.rank_by_resident q ≤ k.rank_by_resident p)
some_choice k rejected p i e =
    let left : is_left k rejected (k.resident p) p ≡ true = and_from _ _ (not_from_false _ e) (eq-eqb (k.resident p) _ refl) in
    let r : (q : ℕ) × IsFirst (is_before k.rank_by_resident) (is_left k rejected (k.resident p)) (numbers_to k.count) q =
    first _ (is_before-order k.rank_by_resident) (is_left k rejected (k.resident p)) (numbers_to k.count) (any_from _ p (numbers_to k.count) i left) in
    let same : k.resident r.0 ≡ k.resident p = eqb-true _ _ (and_parts (not (rejected r.0)) _ r.1.passes).1 in (
      r.0,
      r.1.stands,
      choice_from k rejected r.0 (not-true _ (and_parts (not (rejected r.0)) _ r.1.passes).0)
          (λ q j l. r.1.leads q j (subst (λ (z : ℕ). is_left k rejected z q ≡ true) same l)),
      same,
      before_rank _ _ r.0 p (r.1.leads p i left),
    )

-- ---- a rejection

abbrev reject : (ℕ → Bool) → ℕ → ℕ → Bool
reject rejected w p = rejected p || p == w

-- another pair's choice stays
still_choice : (k : Market) (rejected : ℕ → Bool) (w p : ℕ) → is_choice k rejected p ≡ true → (p == w) ≡ false → is_choice k (reject rejected w) p ≡ true
still_choice k rejected w p c e =
    choice_from k (reject rejected w) p (or_from (rejected p) _ (choice_left k rejected p c) e)
    (λ q i l.
    let parts : (not (reject rejected w q) ≡ true) × ((k.resident q == k.resident p) ≡ true) = and_parts (not (reject rejected w q)) _ l in
    choice_before k rejected p q c i (and_from _ _ (not_from_false _ (or_parts (rejected q) _ (not-true _ parts.0)).0) parts.1))

-- chosen pairs at the hospital of q, each ranked at least as high as q
abbrev pub is_ahead : Market → (ℕ → Bool) → ℕ → ℕ → Bool
is_ahead k rejected q p = is_choice k rejected p && (k.hospital p == k.hospital q && nat_le (k.rank_by_hospital p) (k.rank_by_hospital q))

-- a rejected pair's hospital has its posts filled by pairs ranked as high
pub record IsJustified (k : Market) (rejected : ℕ → Bool) : Type 0 where
  pub filled : (q : ℕ) → is_in q (numbers_to k.count) ≡ true → rejected q ≡ true → k.capacity (k.hospital q) ≤ count_by (is_ahead k rejected q) (numbers_to k.count)

-- a chosen pair whose hospital could fill its posts with others ranked as high
abbrev pub is_crowded : Market → (ℕ → Bool) → ℕ → Bool
is_crowded k rejected w = is_choice k rejected w && nat_le (k.capacity (k.hospital w)) (count_by (but w (is_ahead k rejected w)) (numbers_to k.count))

pub ahead_parts : (k : Market) (rejected : ℕ → Bool) (q p : ℕ) → is_ahead k rejected q p ≡ true →
    (is_choice k rejected p ≡ true) × (k.hospital p ≡ k.hospital q) × (k.rank_by_hospital p ≤ k.rank_by_hospital q)
ahead_parts k rejected q p h =
    let two : (is_choice k rejected p ≡ true) × ((k.hospital p == k.hospital q && nat_le (k.rank_by_hospital p) (k.rank_by_hospital q)) ≡ true) =
    and_parts (is_choice k rejected p) _ h in
    let both : ((k.hospital p == k.hospital q) ≡ true) × (nat_le (k.rank_by_hospital p) (k.rank_by_hospital q) ≡ true) = and_parts (k.hospital p == k.hospital q) _ two.1 in
    (two.0, eqb-true _ _ both.0, leb-true _ _ both.1)

pub ahead_from : (k : Market) (rejected : ℕ → Bool) (q p : ℕ) → is_choice k rejected p ≡ true → k.hospital p ≡ k.hospital q → k.rank_by_hospital p ≤ k.rank_by_hospital q →
    is_ahead k rejected q p ≡ true
ahead_from k rejected q p c e h = and_from (is_choice k rejected p) _ c (and_from (k.hospital p == k.hospital q) _ (eq-eqb _ _ e) (le-leb _ _ h))

ahead_still : (k : Market) (rejected : ℕ → Bool) (w q p : ℕ) → is_ahead k rejected q p ≡ true → (p == w) ≡ false → is_ahead k (reject rejected w) q p ≡ true
ahead_still k rejected w q p a e =
    let parts = ahead_parts k rejected q p a in
    ahead_from k (reject rejected w) q p (still_choice k rejected w p parts.0 e) parts.1 parts.2

ahead_joins : (k : Market) (rejected : ℕ → Bool) (w q p : ℕ) → is_ahead k rejected q w ≡ true → is_ahead k rejected w p ≡ true → is_ahead k rejected q p ≡ true
ahead_joins k rejected w q p a b =
    let first = ahead_parts k rejected q w a in
    let second = ahead_parts k rejected w p b in
    let ranks : k.rank_by_hospital p ≤ k.rank_by_hospital q = let f : k.rank_by_hospital w ≤ k.rank_by_hospital q = first.2 in let g : k.rank_by_hospital p ≤ k.rank_by_hospital w = second.2 in omega arith in
    ahead_from k rejected q p second.0 (second.1 ∙ first.1) ranks

crowd : (k : Market) (rejected : ℕ → Bool) (w : ℕ) → is_crowded k rejected w ≡ true →
    k.capacity (k.hospital w) ≤ count_by (but w (is_ahead k rejected w)) (numbers_to k.count)
crowd k rejected w h = leb-true _ _ (and_parts (is_choice k rejected w) _ h).1

-- the rejected pair's own hospital stays full, without it
filled_itself : (k : Market) (rejected : ℕ → Bool) (w : ℕ) → is_crowded k rejected w ≡ true →
    k.capacity (k.hospital w) ≤ count_by (is_ahead k (reject rejected w) w) (numbers_to k.count)
filled_itself k rejected w h =
    let full = crowd k rejected w h in
    let kept : count_by (but w (is_ahead k rejected w)) (numbers_to k.count) ≤ count_by (is_ahead k (reject rejected w) w) (numbers_to k.count) =
    count_le _ _ (numbers_to k.count) (λ p i b.
    let parts : (is_ahead k rejected w p ≡ true) × (not (p == w) ≡ true) = and_parts (is_ahead k rejected w p) _ b in
    ahead_still k rejected w w p parts.0 (not-true _ parts.1)) in
    omega arith

-- so does the hospital of a pair that was rejected before
filled_still : (k : Market) (rejected : ℕ → Bool) (w q : ℕ) → is_crowded k rejected w ≡ true → k.capacity (k.hospital q) ≤ count_by (is_ahead k rejected q) (numbers_to k.count) →
    k.capacity (k.hospital q) ≤ count_by (is_ahead k (reject rejected w) q) (numbers_to k.count)
filled_still k rejected w q h f =
    elim (cases_Bool (is_ahead k rejected q w)) [
      | inl a ↦
          let full = crowd k rejected w h in
          let same : k.capacity (k.hospital w) ≡ k.capacity (k.hospital q) = ap k.capacity (ahead_parts k rejected q w a).1 in
          let kept : count_by (but w (is_ahead k rejected w)) (numbers_to k.count) ≤ count_by (is_ahead k (reject rejected w) q) (numbers_to k.count) =
          count_le _ _ (numbers_to k.count) (λ p i b.
          let parts : (is_ahead k rejected w p ≡ true) × (not (p == w) ≡ true) = and_parts (is_ahead k rejected w p) _ b in
          ahead_still k rejected w q p (ahead_joins k rejected w q p a parts.0) (not-true _ parts.1)) in
          omega arith
      | inr a ↦
          let kept : count_by (is_ahead k rejected q) (numbers_to k.count) ≤ count_by (is_ahead k (reject rejected w) q) (numbers_to k.count) =
          count_le _ _ (numbers_to k.count) (λ p i b.
          ahead_still k rejected w q p b (ne_eqb p w (λ e. true≢false (sym b ∙ ap (is_ahead k rejected q) e ∙ a)))) in
          omega arith
    ]

justified_step : (k : Market) (rejected : ℕ → Bool) (w : ℕ) → IsJustified k rejected → is_crowded k rejected w ≡ true → IsJustified k (reject rejected w)
justified_step k rejected w j h = record {
  filled = λ q i e. elim (or_cases (rejected q) (q == w) e) [
    | inl r ↦ filled_still k rejected w q h (j.filled q i r)
    | inr r ↦ subst (λ (z : ℕ). k.capacity (k.hospital z) ≤ count_by (is_ahead k (reject rejected w) z) (numbers_to k.count)) (sym (eqb-true q w r)) (filled_itself k rejected w h)
  ];
}

-- ---- rejections end

-- justified rejections after which no chosen pair is crowded out
pub record IsSettled (k : Market) (rejected : ℕ → Bool) : Type 0 where
  pub justified : IsJustified k rejected
  pub none_crowded : list_any (is_crowded k rejected) (numbers_to k.count) ≡ false

abbrev unrejected : Market → (ℕ → Bool) → ℕ
unrejected k rejected = count_by (λ p. not (rejected p)) (numbers_to k.count)

one_fewer : (k : Market) (rejected : ℕ → Bool) (w : ℕ) → is_in w (numbers_to k.count) ≡ true → rejected w ≡ false → unrejected k (reject rejected w) < unrejected k rejected
one_fewer k rejected w i e =
    count_lt (λ p. not (reject rejected w p)) (λ p. not (rejected p)) w (numbers_to k.count)
    (λ p j h. not_from_false _ (or_parts (rejected p) _ (not-true _ h)).0)
    i (not_from_true _ (or_right (rejected w) _ (eq-eqb w w refl))) (not_from_false _ e)

settle_step : (k : Market) (fuel : ℕ) → ((rejected : ℕ → Bool) → unrejected k rejected < fuel → IsJustified k rejected → (final : ℕ → Bool) × IsSettled k final) →
    (rejected : ℕ → Bool) → unrejected k rejected < suc fuel → IsJustified k rejected → (final : ℕ → Bool) × IsSettled k final
settle_step k fuel later rejected few j =
    elim (cases_Bool (list_any (is_crowded k rejected) (numbers_to k.count))) [
      | inl e ↦
          let r : (w : ℕ) × (is_in w (numbers_to k.count) ≡ true) × (is_crowded k rejected w ≡ true) = element (is_crowded k rejected) (numbers_to k.count) e in
          let less : unrejected k (reject rejected r.0) < unrejected k rejected =
          one_fewer k rejected r.0 r.1 (choice_left k rejected r.0 (and_parts (is_choice k rejected r.0) _ r.2).0) in
          later (reject rejected r.0) (omega arith) (justified_step k rejected r.0 j r.2)
      | inr e ↦ (rejected, record { justified = j; none_crowded = e })
    ]

settle : (k : Market) (fuel : ℕ) (rejected : ℕ → Bool) → unrejected k rejected < fuel → IsJustified k rejected → (final : ℕ → Bool) × IsSettled k final
settle k zero rejected few j = absurd (omega arith)
settle k (suc fuel) rejected few j = settle_step k fuel (settle k fuel) rejected few j

pub settled : (k : Market) → (final : ℕ → Bool) × IsSettled k final
settled k = settle k (suc (unrejected k (λ p. false))) (λ p. false) (omega arith) (record { filled = λ q i e. absurd (true≢false (sym e)) })

-- ---- what settled choices are like

-- the choices at a hospital
abbrev pub is_at : Market → (ℕ → Bool) → ℕ → ℕ → Bool
is_at k rejected h p = is_choice k rejected p && k.hospital p == h

at_parts : (k : Market) (rejected : ℕ → Bool) (h p : ℕ) → is_at k rejected h p ≡ true → (is_choice k rejected p ≡ true) × (k.hospital p ≡ h)
at_parts k rejected h p a = let parts = and_parts (is_choice k rejected p) (k.hospital p == h) a in (parts.0, eqb-true (k.hospital p) h parts.1)

-- of equals and worse ones, the worst first
abbrev is_behind : (rank : ℕ → ℕ) → ℕ → ℕ → Bool
is_behind rank p q = nat_le (rank q) (rank p)

behind_total : (m n : ℕ) → nat_le m n ≡ false → nat_le n m ≡ true
behind_total m n h = grind (arith, nat_tests)

behind_joins : (l m n : ℕ) → nat_le l m ≡ true → nat_le m n ≡ true → nat_le l n ≡ true
behind_joins l m n h k = grind (arith, nat_tests)

is_behind-order : (rank : ℕ → ℕ) → IsOrder (is_behind rank)
is_behind-order rank = record {
  total = λ x y h. behind_total (rank y) (rank x) h;
  joins = λ x y z h k. behind_joins (rank z) (rank y) (rank x) k h;
}

-- the worst of too many would be crowded out
too_many : (k : Market) (rejected : ℕ → Bool) (h : ℕ) → k.capacity h < count_by (is_at k rejected h) (numbers_to k.count) → list_any (is_crowded k rejected) (numbers_to k.count) ≡ true
too_many k rejected h more =
    let r : (w : ℕ) × IsFirst (is_behind k.rank_by_hospital) (is_at k rejected h) (numbers_to k.count) w =
    first _ (is_behind-order k.rank_by_hospital) (is_at k rejected h) (numbers_to k.count)
    (list_any-count (is_at k rejected h) (numbers_to k.count) ∙ lt-ltb 0 _ (omega arith)) in
    let worst = at_parts k rejected h r.0 r.1.passes in
    let but_one : count_by (is_at k rejected h) (numbers_to k.count) ≤ 1 + count_by (but r.0 (is_at k rejected h)) (numbers_to k.count) =
    count_but r.0 (is_at k rejected h) (numbers_to k.count) (distinct-numbers_to k.count) in
    let ahead : count_by (but r.0 (is_at k rejected h)) (numbers_to k.count) ≤ count_by (but r.0 (is_ahead k rejected r.0)) (numbers_to k.count) =
    count_le _ _ (numbers_to k.count) (λ p i b.
    let parts : (is_at k rejected h p ≡ true) × (not (p == r.0) ≡ true) = and_parts (is_at k rejected h p) _ b in
    let one = at_parts k rejected h p parts.0 in
    and_from (is_ahead k rejected r.0 p) _ (ahead_from k rejected r.0 p one.0 (one.1 ∙ sym worst.1) (leb-true _ _ (r.1.leads p i parts.0))) parts.1) in
    let posts : k.capacity (k.hospital r.0) ≡ k.capacity h = ap k.capacity worst.1 in
    let full : k.capacity (k.hospital r.0) ≤ count_by (but r.0 (is_ahead k rejected r.0)) (numbers_to k.count) = omega arith in
    any_from (is_crowded k rejected) r.0 (numbers_to k.count) r.1.stands (and_from (is_choice k rejected r.0) _ worst.0 (le-leb _ _ full))

-- no hospital has more choices than posts
pub within_posts : (k : Market) (rejected : ℕ → Bool) → IsSettled k rejected → (h : ℕ) → count_by (is_at k rejected h) (numbers_to k.count) ≤ k.capacity h
within_posts k rejected s h =
    elim (cases_lt (k.capacity h) (count_by (is_at k rejected h) (numbers_to k.count))) [
      | inl more ↦ absurd (true≢false (sym (too_many k rejected h more) ∙ s.none_crowded))
      | inr few ↦ few
    ]

-- whether a hospital has a free post, or a choice that it ranks lower than p
abbrev pub HasRoom : Market → (ℕ → Bool) → ℕ → Type 0
HasRoom k rejected p =
    (count_by (is_at k rejected (k.hospital p)) (numbers_to k.count) < k.capacity (k.hospital p))
    ⊎ ((q : ℕ) × (is_in q (numbers_to k.count) ≡ true) × (is_choice k rejected q ≡ true) × (k.hospital q ≡ k.hospital p) × (k.rank_by_hospital p < k.rank_by_hospital q))

-- where a pair is rejected, its hospital has no room for it
no_room : (k : Market) (rejected : ℕ → Bool) → IsSettled k rejected → (p : ℕ) → k.capacity (k.hospital p) ≤ count_by (is_ahead k rejected p) (numbers_to k.count) →
    HasRoom k rejected p → ⊥
no_room k rejected s p filled room =
    let at : (q : ℕ) → is_in q (numbers_to k.count) ≡ true → is_ahead k rejected p q ≡ true → is_at k rejected (k.hospital p) q ≡ true =
    λ q i a. let parts = ahead_parts k rejected p q a in and_from (is_choice k rejected q) _ parts.0 (eq-eqb _ _ parts.1) in
    elim room [
      | inl free ↦
          let few : count_by (is_ahead k rejected p) (numbers_to k.count) ≤ count_by (is_at k rejected (k.hospital p)) (numbers_to k.count) = count_le _ _ (numbers_to k.count) at in
          omega arith
      | inr worse ↦
          let not_ahead : is_ahead k rejected p worse.0 ≡ false =
          false_from_ne_true _ (λ a. let rank : k.rank_by_hospital worse.0 ≤ k.rank_by_hospital p = (ahead_parts k rejected p worse.0 a).2 in let low : k.rank_by_hospital p < k.rank_by_hospital worse.0 = worse.4 in omega arith) in
          let fewer : count_by (is_ahead k rejected p) (numbers_to k.count) < count_by (is_at k rejected (k.hospital p)) (numbers_to k.count) =
          count_lt _ _ worse.0 (numbers_to k.count) at worse.1 not_ahead (and_from (is_choice k rejected worse.0) _ worse.2 (eq-eqb _ _ worse.3)) in
          let within : count_by (is_at k rejected (k.hospital p)) (numbers_to k.count) ≤ k.capacity (k.hospital p) = within_posts k rejected s (k.hospital p) in
          omega arith
    ]

-- no pair has a resident that ranks it higher than each of its choices, and room at its hospital
pub none_blocks : (k : Market) (rejected : ℕ → Bool) → IsSettled k rejected → (p : ℕ) → is_in p (numbers_to k.count) ≡ true →
    ((q : ℕ) → is_in q (numbers_to k.count) ≡ true → is_choice k rejected q ≡ true → k.resident q ≡ k.resident p → k.rank_by_resident p < k.rank_by_resident q) →
    HasRoom k rejected p → ⊥
none_blocks k rejected s p i wants room =
    elim (cases_Bool (rejected p)) [
      | inl e ↦ no_room k rejected s p (s.justified.filled p i e) room
      | inr e ↦
          let c = some_choice k rejected p i e in
          let better : k.rank_by_resident p < k.rank_by_resident c.0 = wants c.0 c.1 c.2 c.3 in
          let no_worse : k.rank_by_resident c.0 ≤ k.rank_by_resident p = c.4 in
          omega arith
    ]
