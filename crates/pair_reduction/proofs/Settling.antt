-- Marks and waiting lists, one step after another.
use Rattle.std.proofs.Common.{◌≡◌, ◌≢◌, ℕ, zero, suc, ◌+◌, ◌-◌, ◌*◌, ◌<◌, ◌≤◌, Bool, true, false, List, if◌then◌else◌, length, replicate, get_or, set, refl, sym, ap, ◌∙◌, subst, inl, inr, arith, length-set, get_or-set_same, get_or-set_other}
use Rattle.std.specs.Prelude.{None, is_some}
use Rattle.std.proofs.lemmas.Bool.{cases_eq, or_cases, true≢false}
use Rattle.std.proofs.lemmas.List.{length-replicate}
use Rattle.std.proofs.lemmas.List.Sums.{count_by-le-length, sum_by-set}
use Rattle.rank_tables.specs.Instance.{Lists, pair_count}
use Rattle.rank_tables.specs.Tables.{IsPairNo}
use Rattle.stability_model.specs.Gone.{rule_a, rule_b}
use Rattle.derivation.specs.Deletions.{Deletions, deleted_count, is_deleted}
use Rattle.pair_reduction.specs.declared.sides.Side.{Side}
use Rattle.pair_reduction.specs.declared.sides.Side.TheVariants.{Resident, Hospital}
use Rattle.pair_reduction.specs.declared.known.Known.{Known}
use Rattle.pair_reduction.specs.Sides.{is_free, is_passed, list_count, list_of, other}
use Rattle.pair_reduction.specs.Flags.{flag_count, is_marked, is_waiting}
use Rattle.pair_reduction.specs.Known.{Drops, Gains, IsKept, IsOneMore, IsListSettled, MarksFree, Pays, Rests, mark_count, marks_on, waiting_count, waiting_on}
use Rattle.pair_reduction.specs.Reduced.{IsClosedTo}
use Rattle.pair_reduction.proofs.TwoSides.{by_side, free_grows, free_same, is_declared, other_twice, passed_grows, rule_a-passed, rule_b-passed}

-- ---- flags

pub flag_here : (flags : List Bool) (n : ℕ) (b : Bool) → n < length flags → get_or (set flags n b) n false ≡ b
flag_here flags n b h = rw get_or-set_same

pub flag_other : (flags : List Bool) (n m : ℕ) (b : Bool) → (m ≡ n → ⊥) → get_or (set flags n b) m false ≡ get_or flags m false
flag_other flags n m b other = let ne : m ≢ n = other in rw get_or-set_other

-- a list that doesn't wait after one more does is another, and didn't wait
pub resting : (flags : List Bool) (n m : ℕ) → n < length flags → is_waiting (set flags n true) m ≡ false → (m ≡ n → ⊥) × (is_waiting flags m ≡ false)
resting flags n m within h =
    let other : m ≡ n → ⊥ = λ e. true≢false (sym (flag_here flags n true within) ∙ ap (λ (k : ℕ). get_or (set flags n true) k false) (sym e) ∙ h) in
    (other, sym (flag_other flags n m true other) ∙ h)

pub still_waiting : (flags : List Bool) (n m : ℕ) → n < length flags → is_waiting flags m ≡ true → is_waiting (set flags n true) m ≡ true
still_waiting flags n m within h = elim (cases_eq m n) [
  | inl e ↦ ap (λ (k : ℕ). get_or (set flags n true) k false) e ∙ flag_here flags n true within
  | inr other ↦ flag_other flags n m true other ∙ h
]

pub flags_set : (flags : List Bool) (n : ℕ) (b : Bool) → n < length flags → flag_count (set flags n b) + (if get_or flags n false then 1 else 0) ≡ flag_count flags + (if b then 1 else 0)
flags_set flags n b h = let s = sum_by-set (λ (c : Bool). if c then 1 else 0) flags n b false h in omega (arith, s)

pub flags_more : (flags : List Bool) (n : ℕ) → n < length flags → flag_count (set flags n true) ≤ flag_count flags + 1
flags_more flags n h = omega (arith, flags_set flags n true h)

pub flags_marked : (flags : List Bool) (n : ℕ) → n < length flags → get_or flags n false ≡ false → flag_count (set flags n true) ≡ flag_count flags + 1
flags_marked flags n h e = let z : ◌≡◌ {A = ℕ} (if get_or flags n false then 1 else 0) 0 = ap (λ (c : Bool). if c then 1 else 0) e in omega (arith, flags_set flags n true h, z)

pub flags_fewer : (flags : List Bool) (n : ℕ) → n < length flags → get_or flags n false ≡ true → flag_count (set flags n false) + 1 ≡ flag_count flags
flags_fewer flags n h e = let z : ◌≡◌ {A = ℕ} (if get_or flags n false then 1 else 0) 1 = ap (λ (c : Bool). if c then 1 else 0) e in omega (arith, flags_set flags n false h, z)

-- ---- marks

pub mark_here : (marks : List Bool) (p : ℕ) → 1 ≤ p → p ≤ length marks → is_marked (set marks (p - 1) true) p ≡ true
mark_here marks p first last = flag_here marks (p - 1) true (omega arith)

pub mark_other : (marks : List Bool) (p q : ℕ) → 1 ≤ p → 1 ≤ q → (q ≡ p → ⊥) → is_marked (set marks (p - 1) true) q ≡ is_marked marks q
mark_other marks p q first also other = flag_other marks (p - 1) (q - 1) true (λ e. other (omega arith))

pub mark_grows : (marks : List Bool) (p q : ℕ) → 1 ≤ p → p ≤ length marks → 1 ≤ q → is_marked marks q ≡ true → is_marked (set marks (p - 1) true) q ≡ true
mark_grows marks p q first last also h = elim (cases_eq q p) [
  | inl e ↦ ap (is_marked (set marks (p - 1) true)) e ∙ mark_here marks p first last
  | inr other ↦ mark_other marks p q first also other ∙ h
]

-- ---- settled lists

pub settled_moves : (side : Side) (lists : Lists) (old new : Known) (n : ℕ) → ((q : ℕ) → IsPairNo lists q → list_of side lists q ≡ n → is_deleted new.gone q ≡ is_deleted old.gone q) →
    ((q : ℕ) → IsPairNo lists q → list_of side lists q ≡ n → is_marked (marks_on side old) q ≡ true → is_marked (marks_on side new) q ≡ true) →
    ((q : ℕ) → IsPairNo lists q → list_of side lists q ≡ n → is_marked (marks_on (other side) new) q ≡ true → is_marked (marks_on (other side) old) q ≡ true) → IsListSettled side lists old n → IsListSettled side lists new n
settled_moves side lists old new n gone more fewer settled = record {
  marked = λ p i e f. more p i e (settled.marked p i e (free_same side lists (is_deleted old.gone) (is_deleted new.gone) p (λ q j k. sym (gone q j (k ∙ e))) ∙ f));
  passed = λ w i e f. gone w i e ∙ settled.passed w i e (passed_grows side lists (is_marked (marks_on (other side) new)) (is_marked (marks_on (other side) old)) w (λ q j k. fewer q j (k ∙ e)) f);
}

-- ---- a pair is deleted

pub was_or_is : (before after : Deletions) (w : ℕ) → IsOneMore before after w → (q : ℕ) → is_deleted before q ≡ true → is_deleted after q ≡ true
was_or_is before after w more q h = elim (cases_eq q w) [
  | inl e ↦ ap (is_deleted after) e ∙ more.gone
  | inr other ↦ more.others q other ∙ h
]

module _ (side : Side) (lists : Lists) (old new : Known) (w : ℕ) (kept : IsKept lists old) (w_is : IsPairNo lists w) (drops : Drops side lists old new w) (visited : is_waiting (waiting_on side old) (list_of side lists w) ≡ true) where
  across_within : list_of (other side) lists w < length (waiting_on (other side) old)
  across_within = omega (arith, is_declared (other side) lists w w_is, kept.flags (other side))

  same_elsewhere : (s : Side) (n : ℕ) → (n ≡ list_of s lists w → ⊥) → IsListSettled s lists old n → IsListSettled s lists new n
  same_elsewhere s n apart settled =
      settled_moves s lists old new n (λ q i e. drops.more.others q (λ f. apart (sym e ∙ ap (list_of s lists) f))) (λ q i e h. ap (λ (m : List Bool). is_marked m q) (drops.unmarked s) ∙ h)
      (λ q i e h. ap (λ (m : List Bool). is_marked m q) (sym (drops.unmarked (other s))) ∙ h) settled

  pub kept_drops : IsKept lists new
  kept_drops = record {
    gone = drops.more.size ∙ kept.gone;
    marks = λ s. ap length (drops.unmarked s) ∙ kept.marks s;
    flags = by_side (λ s. length (waiting_on s new) ≡ list_count s lists) side (ap length drops.rests ∙ kept.flags side)
        (ap length drops.waits ∙ length-set (waiting_on (other side) old) (list_of (other side) lists w) true ∙ kept.flags (other side));
    sound = λ s p i h. free_grows s lists (is_deleted old.gone) (is_deleted new.gone) p (was_or_is old.gone new.gone w drops.more) (kept.sound s p i (ap (λ (m : List Bool). is_marked m p) (sym (drops.unmarked s)) ∙ h));
    watched = by_side (λ s. (n : ℕ) → n + 1 ≤ list_count s lists → is_waiting (waiting_on s new) n ≡ false → IsListSettled s lists new n) side
        (λ n declared h.
        let rests : is_waiting (waiting_on side old) n ≡ false = ap (λ (f : List Bool). is_waiting f n) (sym drops.rests) ∙ h in
        same_elsewhere side n (λ e. true≢false (sym visited ∙ ap (is_waiting (waiting_on side old)) (sym e) ∙ rests)) (kept.watched side n declared rests))
        (λ n declared h.
        let two = resting (waiting_on (other side) old) (list_of (other side) lists w) n across_within (ap (λ (f : List Bool). is_waiting f n) (sym drops.waits) ∙ h) in
        same_elsewhere (other side) n two.0 (kept.watched (other side) n declared two.1));
  }

-- ---- a pair is marked

module _ (side : Side) (lists : Lists) (old new : Known) (p : ℕ) (kept : IsKept lists old) (p_is : IsPairNo lists p) (free : is_free side lists (is_deleted old.gone) p ≡ true) (marks : MarksFree side lists old new p) where
  mark_within : list_of (other side) lists p < length (waiting_on (other side) old)
  mark_within = omega (arith, is_declared (other side) lists p p_is, kept.flags (other side))

  same_gone : (q : ℕ) → is_deleted new.gone q ≡ is_deleted old.gone q
  same_gone q = ap (λ (m : Deletions). is_deleted m q) marks.gone

  grown : (q : ℕ) → 1 ≤ q → is_marked (marks_on side old) q ≡ true → is_marked (marks_on side new) q ≡ true
  grown q also h = ap (λ (m : List Bool). is_marked m q) marks.marked ∙ mark_grows (marks_on side old) p q p_is.0 (omega (arith, p_is.1, kept.marks side)) also h

  sound_here : (q : ℕ) → IsPairNo lists q → is_marked (marks_on side new) q ≡ true → is_free side lists (is_deleted old.gone) q ≡ true
  sound_here q i h = elim (cases_eq q p) [
    | inl e ↦ ap (is_free side lists (is_deleted old.gone)) e ∙ free
    | inr differs ↦ kept.sound side q i (sym (mark_other (marks_on side old) p q p_is.0 i.0 differs) ∙ ap (λ (m : List Bool). is_marked m q) (sym marks.marked) ∙ h)
  ]

  as_new : (s : Side) (q : ℕ) → is_free s lists (is_deleted old.gone) q ≡ true → is_free s lists (is_deleted new.gone) q ≡ true
  as_new s q h = free_same s lists (is_deleted new.gone) (is_deleted old.gone) q (λ k i e. same_gone k) ∙ h

  pub kept_marks : IsKept lists new
  kept_marks = record {
    gone = ap length marks.gone ∙ kept.gone;
    marks = by_side (λ s. length (marks_on s new) ≡ pair_count lists) side (ap length marks.marked ∙ length-set (marks_on side old) (p - 1) true ∙ kept.marks side) (ap length marks.unmarked ∙ kept.marks (other side));
    flags = by_side (λ s. length (waiting_on s new) ≡ list_count s lists) side (ap length marks.rests ∙ kept.flags side)
        (ap length marks.waits ∙ length-set (waiting_on (other side) old) (list_of (other side) lists p) true ∙ kept.flags (other side));
    sound = by_side (λ s. (q : ℕ) → IsPairNo lists q → is_marked (marks_on s new) q ≡ true → is_free s lists (is_deleted new.gone) q ≡ true) side (λ q i h. as_new side q (sound_here q i h))
        (λ q i h. as_new (other side) q (kept.sound (other side) q i (ap (λ (m : List Bool). is_marked m q) (sym marks.unmarked) ∙ h)));
    watched = by_side (λ s. (n : ℕ) → n + 1 ≤ list_count s lists → is_waiting (waiting_on s new) n ≡ false → IsListSettled s lists new n) side
        (λ n declared h.
        settled_moves side lists old new n (λ q i e. same_gone q) (λ q i e k. grown q i.0 k) (λ q i e k. ap (λ (m : List Bool). is_marked m q) (sym marks.unmarked) ∙ k)
        (kept.watched side n declared (ap (λ (f : List Bool). is_waiting f n) (sym marks.rests) ∙ h)))
        (λ n declared h.
        let two = resting (waiting_on (other side) old) (list_of (other side) lists p) n mark_within (ap (λ (f : List Bool). is_waiting f n) (sym marks.waits) ∙ h) in
        settled_moves (other side) lists old new n (λ q i e. same_gone q) (λ q i e k. ap (λ (m : List Bool). is_marked m q) marks.unmarked ∙ k)
        (λ q i e k.
        subst (λ (s : Side). is_marked (marks_on s old) q ≡ true) (sym (other_twice side))
        (sym (mark_other (marks_on side old) p q p_is.0 i.0 (λ f. two.0 (sym e ∙ ap (list_of (other side) lists) f))) ∙ ap (λ (m : List Bool). is_marked m q) (sym marks.marked)
        ∙ subst (λ (s : Side). is_marked (marks_on s new) q ≡ true) (other_twice side) k))
        (kept.watched (other side) n declared two.1));
  }

-- ---- a list is settled

pub kept_rests : (side : Side) (lists : Lists) (old new : Known) (n : ℕ) → IsKept lists old → IsListSettled side lists old n → Rests side old new n → IsKept lists new
kept_rests side lists old new n kept settled rests = record {
  gone = ap length rests.gone ∙ kept.gone;
  marks = λ s. ap length (rests.marks s) ∙ kept.marks s;
  flags = by_side (λ s. length (waiting_on s new) ≡ list_count s lists) side (ap length rests.rests ∙ length-set (waiting_on side old) n false ∙ kept.flags side) (ap length rests.others ∙ kept.flags (other side));
  sound = λ s q i h.
      free_same s lists (is_deleted new.gone) (is_deleted old.gone) q (λ k j e. ap (λ (m : Deletions). is_deleted m k) rests.gone) ∙ kept.sound s q i (ap (λ (m : List Bool). is_marked m q) (sym (rests.marks s)) ∙ h);
  watched = by_side (λ s. (m : ℕ) → m + 1 ≤ list_count s lists → is_waiting (waiting_on s new) m ≡ false → IsListSettled s lists new m) side
      (λ m declared h. as_before side m (elim (cases_eq m n) [
        | inl e ↦ subst (IsListSettled side lists old) (sym e) settled
        | inr differs ↦ kept.watched side m declared (sym (flag_other (waiting_on side old) n m false differs) ∙ ap (λ (f : List Bool). is_waiting f m) (sym rests.rests) ∙ h)
      ]))
      (λ m declared h. as_before (other side) m (kept.watched (other side) m declared (ap (λ (f : List Bool). is_waiting f m) (sym rests.others) ∙ h)));
}
  where
    as_before : (s : Side) (m : ℕ) → IsListSettled s lists old m → IsListSettled s lists new m
    as_before s m =
        settled_moves s lists old new m (λ q i e. ap (λ (d : Deletions). is_deleted d q) rests.gone) (λ q i e h. ap (λ (f : List Bool). is_marked f q) (rests.marks s) ∙ h)
        (λ q i e h. ap (λ (f : List Bool). is_marked f q) (sym (rests.marks (other s))) ∙ h)

-- ---- what is paid

waiting_sides : (side : Side) (known : Known) → waiting_count known ≡ flag_count (waiting_on side known) + flag_count (waiting_on (other side) known)
waiting_sides Resident known = refl
waiting_sides Hospital known = omega arith

mark_sides : (side : Side) (known : Known) → mark_count known ≡ deleted_count known.gone + (flag_count (marks_on side known) + flag_count (marks_on (other side) known))
mark_sides Resident known = omega arith
mark_sides Hospital known = omega arith

pub pays_drops : (side : Side) (lists : Lists) (old new : Known) (w : ℕ) → IsKept lists old → IsPairNo lists w → Drops side lists old new w → Pays old new
pays_drops side lists old new w kept w_is drops =
    let more = flags_more (waiting_on (other side) old) (list_of (other side) lists w) (omega (arith, is_declared (other side) lists w w_is, kept.flags (other side))) in
    omega (
      arith,
      waiting_sides side old,
      waiting_sides side new,
      mark_sides side old,
      mark_sides side new,
      more,
      ap flag_count drops.waits,
      ap flag_count drops.rests,
      ap flag_count (drops.unmarked side),
      ap flag_count (drops.unmarked (other side)),
      drops.more.count,
    )

pub pays_marks : (side : Side) (lists : Lists) (old new : Known) (p : ℕ) → IsKept lists old → IsPairNo lists p → is_marked (marks_on side old) p ≡ false → MarksFree side lists old new p → Pays old new
pays_marks side lists old new p kept p_is unmarked marks =
    let more = flags_more (waiting_on (other side) old) (list_of (other side) lists p) (omega (arith, is_declared (other side) lists p p_is, kept.flags (other side))) in
    let one = flags_marked (marks_on side old) (p - 1) (omega (arith, p_is.0, p_is.1, kept.marks side)) unmarked in
    omega (
      arith,
      waiting_sides side old,
      waiting_sides side new,
      mark_sides side old,
      mark_sides side new,
      more,
      one,
      ap flag_count marks.waits,
      ap flag_count marks.rests,
      ap flag_count marks.marked,
      ap flag_count marks.unmarked,
      ap deleted_count marks.gone,
    )

pub gains_rests : (side : Side) (lists : Lists) (start old new : Known) (n : ℕ) → n < length (waiting_on side old) → is_waiting (waiting_on side old) n ≡ true → Rests side old new n → Pays start old → Gains start new
gains_rests side lists start old new n within waits rests pays =
    omega (
      arith,
      waiting_sides side old,
      waiting_sides side new,
      mark_sides side old,
      mark_sides side new,
      flags_fewer (waiting_on side old) n within waits,
      ap flag_count rests.rests,
      ap flag_count rests.others,
      ap flag_count (rests.marks side),
      ap flag_count (rests.marks (other side)),
      ap deleted_count rests.gone,
    )

-- ---- the start

pub flag_none : (n k : ℕ) → get_or (replicate n false) k false ≡ false
flag_none zero k = refl
flag_none (suc n) zero = refl
flag_none (suc n) (suc k) = flag_none n k

flag_all : (n k : ℕ) → k < n → get_or (replicate n true) k false ≡ true
flag_all zero k h = absurd (omega arith)
flag_all (suc n) zero h = refl
flag_all (suc n) (suc k) h = flag_all n k (omega (arith, h))

no_place : (lists : Lists) (marks : List Bool) (n : ℕ) → n ≡ pair_count lists → marks ≡ replicate n false → marks ≡ replicate (pair_count lists) false
no_place lists marks n count is = is ∙ ap (λ (k : ℕ). replicate k false) count

pub kept_first : (lists : Lists) (known : Known) (a b c r h : ℕ) → known.gone ≡ replicate a None → a ≡ pair_count lists → known.sure.items ≡ replicate b false → b ≡ pair_count lists → known.only.items ≡ replicate c false → c ≡ pair_count lists →
    known.residents ≡ replicate r true → r ≡ length lists.residents → known.hospitals ≡ replicate h true → h ≡ length lists.hospitals → IsKept lists known
kept_first lists known a b c r h gone a_is sure b_is only c_is residents r_is hospitals h_is = record {
  gone = ap length gone ∙ length-replicate a None ∙ a_is;
  marks = λ s. ap length (marks s) ∙ length-replicate (pair_count lists) false;
  flags = λ s. ap length (flags s) ∙ length-replicate (list_count s lists) true;
  sound = λ s p i k. absurd (true≢false (sym k ∙ ap (λ (m : List Bool). is_marked m p) (marks s) ∙ flag_none (pair_count lists) (p - 1)));
  watched = λ s n declared k. absurd (true≢false (sym (flag_all (list_count s lists) n (omega arith)) ∙ ap (λ (f : List Bool). is_waiting f n) (sym (flags s)) ∙ k));
}
  where
    marks : (s : Side) → marks_on s known ≡ replicate (pair_count lists) false
    marks Resident = no_place lists known.only.items c c_is only
    marks Hospital = no_place lists known.sure.items b b_is sure

    flags : (s : Side) → waiting_on s known ≡ replicate (list_count s lists) true
    flags Resident = residents ∙ ap (λ (k : ℕ). replicate k true) r_is
    flags Hospital = hospitals ∙ ap (λ (k : ℕ). replicate k true) h_is

-- ---- the end

module _ (lists : Lists) (known : Known) (kept : IsKept lists known) (rests : (s : Side) (n : ℕ) → is_waiting (waiting_on s known) n ≡ false) where
  settled_at : (s : Side) (p : ℕ) → IsPairNo lists p → IsListSettled s lists known (list_of s lists p)
  settled_at s p i = kept.watched s (list_of s lists p) (omega (arith, is_declared s lists p i)) (rests s (list_of s lists p))

  all_passed : (s : Side) (w : ℕ) → IsPairNo lists w → is_passed s lists (is_free (other s) lists (is_deleted known.gone)) w ≡ true → is_deleted known.gone w ≡ true
  all_passed s w i h =
      (settled_at s w i).passed w i refl
      (passed_grows s lists (is_free (other s) lists (is_deleted known.gone)) (is_marked (marks_on (other s) known)) w (λ q j e f. (settled_at (other s) q j).marked q j refl f) h)

  pub closed_when_settled : (p : ℕ) → IsPairNo lists p → IsClosedTo lists known.gone p
  closed_when_settled p i h = elim (or_cases (rule_a lists (is_deleted known.gone) p) (rule_b lists (is_deleted known.gone) p) h) [
    | inl a ↦ all_passed Resident p i (sym (rule_a-passed lists (is_deleted known.gone) p) ∙ a)
    | inr b ↦ all_passed Hospital p i (sym (rule_b-passed lists (is_deleted known.gone) p) ∙ b)
  ]

-- ---- a visit brings the end nearer

pub most_marks : (lists : Lists) (known : Known) → IsKept lists known → mark_count known ≤ 3 * pair_count lists
most_marks lists known kept =
    omega (
      arith,
      count_by-le-length is_some known.gone,
      kept.gone,
      count_by-le-length (λ (b : Bool). b) known.sure.items,
      kept.marks Hospital,
      count_by-le-length (λ (b : Bool). b) known.only.items,
      kept.marks Resident,
    )

pub nearer : (lists : Lists) (old new : Known) → IsKept lists new → Gains old new → waiting_count new + 3 * pair_count lists - mark_count new < waiting_count old + 3 * pair_count lists - mark_count old
nearer lists old new kept gains = omega (arith, most_marks lists new kept, gains)
