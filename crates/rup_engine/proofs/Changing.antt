-- A store of which one slot changes.
use Rattle.std.proofs.Common.{◌≡◌, ◌≢◌, ◌∙◌, ◌≤◌, ◌<◌, ◌+◌, ◌^◌, ◌==◌, ℕ, zero, suc, true, false, if◌then◌else◌, is_some, List, [], ◌∷◌, ◌++◌, length, get_or, refl, sym, ap, subst, arith, inl, inr, Option, Some, None, eq-eqb, nat_eq, IsFalse, IfNone, Global}
use Rattle.std.specs.List.{All}
use Rattle.std.specs.HashMap.{HashMap, UpdatesBy, get}
use Rattle.std.proofs.Math.ListN.{set}
use Rattle.std.proofs.lemmas.Bool.{cases_Bool, cases_eq, cases_lt, eqb-true, ne_eqb, or_left, or_parts, or_right}
use Rattle.std.proofs.lemmas.List.Folds.{list_any-append}
use Rattle.std.proofs.lemmas.List.{get_or-set_other, get_or-set_same, get_or_past, length-set, length_push}
use Rattle.std.proofs.lemmas.List.Elements.{All-from_get_or, All-weaker}
use Rattle.hrt_base.specs.declared.literal.Lit.{Lit}
use Rattle.pb_rows.specs.Terms.{coef_sum}
use Rattle.pb_rows.specs.Closure.{among, none, nonfalse_sum}
use Rattle.pb_rows.specs.Formula.{NumberedRow, is_numbered, row_of, without}
use Rattle.rup_engine.specs.declared.store.Occurrence.{Occurrence}
use Rattle.rup_engine.specs.declared.store.Slot.{Slot}
use Rattle.rup_engine.specs.declared.store.Store.{Store}
use Rattle.rup_engine.specs.Adding.{IsListedAt, IsReady, IsThinner, NotesAtMost}
use Rattle.propagation.specs.Following.{IsOver}
use Rattle.std.specs.declared.vec.Vec.{Vec}
use Rattle.rup_engine.proofs.Occurrences.{in_use-at, part-elsewhere}
use Rattle.rup_engine.specs.Slots.{HasNumber, IsOverSlot, IsShort, IsShortSlot, IsSteadySlot, Slots, entries_of, entry_of, slot_at, terms_of}
use Rattle.rup_engine.specs.Store.{AreAdded, AreNamed, IsSlotOf, coef_for, in_use, is_one_of, list_at, place_of, weight_on}
use Rattle.rup_engine.proofs.Rounds.{row-at}

short-at : (slots : Slots) → All IsShortSlot slots → (j : ℕ) → IsShortSlot (slot_at slots j)
short-at slots a j = elim (cases_lt j (length slots)) [ inl h ↦ a j None h | inr h ↦ rw (get_or_past slots j None h) tt ]

over-at : (vars : ℕ) (slots : Slots) → All (IsOverSlot vars) slots → (j : ℕ) → IsOverSlot vars (slot_at slots j)
over-at vars slots a j = elim (cases_lt j (length slots)) [ inl h ↦ a j None h | inr h ↦ rw (get_or_past slots j None h) tt ]

-- what changes where one slot does
pub record ChangesSlot (vars : ℕ) (old new : Store) (before after : List ℕ) (literals : List Lit) (k : ℕ) (o : Option Slot) : Type 0 where
  pub longer : length old.slots.items ≤ length new.slots.items
  pub others : (j : ℕ) → j ≢ k → slot_at new.slots.items j ≡ slot_at old.slots.items j
  pub here : slot_at new.slots.items k ≡ o
  pub over : IsOverSlot vars o
  pub short : IsShortSlot o
  pub named : AreNamed new.slots.items new.numbers
  pub alone : (j n : ℕ) → j ≢ k → HasNumber n o → HasNumber n (slot_at old.slots.items j) → ⊥
  pub fits : coef_sum (terms_of o) ≤ 2 ^ 120
  pub lists_others : (l : Lit) (j : ℕ) → j ≢ k → coef_for j (list_at new.lists.items (place_of l)) ≡ coef_for j (list_at old.lists.items (place_of l))
  pub lists_here : (l : Lit) → (if is_some o then coef_for k (list_at new.lists.items (place_of l)) else 0) ≡ weight_on l (terms_of o)
  pub lists_within : (p : ℕ) → All (λ x. x.slot < length new.slots.items) (list_at new.lists.items p)
  pub lists_count : length new.lists.items ≡ length old.lists.items
  pub stale_count : length new.stale.items ≡ length old.stale.items
  pub tight_others : (j : ℕ) → j ≢ k → IsFalse (is_one_of j new.tight.items) → IsFalse (is_one_of j old.tight.items)
  pub tight_here : IsFalse (is_one_of k new.tight.items) → IsSteadySlot none (coef_sum (terms_of o)) o
  pub tight_within : All (λ j. j < length new.slots.items) new.tight.items
  pub sums_others : (j : ℕ) → j ≢ k → get_or after j 0 ≡ get_or before j 0
  pub sums_here : get_or after k 0 ≡ nonfalse_sum (among literals) (terms_of o)
  pub room : length new.slots.items ≤ length after

module _ (vars : ℕ) (old new : Store) (before after : List ℕ) (literals : List Lit) (k : ℕ) (o : Option Slot) (ready : IsReady vars old before literals) (c : ChangesSlot vars old new before after literals k o) where
  by_slot : (P : ℕ → Option Slot → Type 0) → P k o → ((j : ℕ) → j ≢ k → P j (slot_at old.slots.items j)) → (j : ℕ) → P j (slot_at new.slots.items j)
  by_slot P here others j = elim (cases_eq j k) [
    | inl e ↦ subst (λ (i : ℕ). P i (slot_at new.slots.items i)) (sym e) (subst (P k) (sym c.here) here)
    | inr ne ↦ subst (P j) (sym (c.others j ne)) (others j ne)
  ]

  distinct' : (i j n : ℕ) → HasNumber n (slot_at new.slots.items i) → HasNumber n (slot_at new.slots.items j) → i ≡ j
  distinct' i j n a b = elim (cases_eq i k) [
    | inl e ↦ elim (cases_eq j k) [
      | inl f ↦ e ∙ sym f
      | inr nf ↦ absurd (c.alone j n nf (subst (HasNumber n) (ap (slot_at new.slots.items) e ∙ c.here) a) (subst (HasNumber n) (c.others j nf) b))
    ]
    | inr ne ↦ elim (cases_eq j k) [
      | inl f ↦ absurd (c.alone i n ne (subst (HasNumber n) (ap (slot_at new.slots.items) f ∙ c.here) b) (subst (HasNumber n) (c.others i ne) a))
      | inr nf ↦ ready.kept.slots.distinct i j n (subst (HasNumber n) (c.others i ne) a) (subst (HasNumber n) (c.others j nf) b)
    ]
  ]

  coefs' : (l : Lit) (j : ℕ) → coef_for j (in_use new.slots.items (list_at new.lists.items (place_of l))) ≡ weight_on l (terms_of (slot_at new.slots.items j))
  coefs' l j =
      let kept : (j : ℕ) → j ≢ k → (if is_some (slot_at old.slots.items j) then coef_for j (list_at new.lists.items (place_of l)) else 0) ≡ weight_on l (terms_of (slot_at old.slots.items j)) =
      λ j ne. ap (λ (n : ℕ). if is_some (slot_at old.slots.items j) then n else 0) (c.lists_others l j ne) ∙ sym (in_use-at old.slots.items j (list_at old.lists.items (place_of l))) ∙ ready.kept.listed.coefs l j in
      in_use-at new.slots.items j (list_at new.lists.items (place_of l))
      ∙ by_slot (λ j o. (if is_some o then coef_for j (list_at new.lists.items (place_of l)) else 0) ≡ weight_on l (terms_of o)) (c.lists_here l) kept j

  tight' : (j : ℕ) → IsFalse (is_one_of j new.tight.items) → IsSteadySlot none (coef_sum (terms_of (slot_at new.slots.items j))) (slot_at new.slots.items j)
  tight' j = by_slot (λ j o. IsFalse (is_one_of j new.tight.items) → IsSteadySlot none (coef_sum (terms_of o)) o) c.tight_here (λ j ne out. ready.kept.tight.others j (c.tight_others j ne out)) j

  counted' : (j : ℕ) → get_or after j 0 ≡ nonfalse_sum (among literals) (terms_of (slot_at new.slots.items j))
  counted' j = by_slot (λ j o. get_or after j 0 ≡ nonfalse_sum (among literals) (terms_of o)) c.sums_here (λ j ne. c.sums_others j ne ∙ ready.counted.count j) j

  pub changed : IsReady vars new after literals
  changed = record {
    kept = record {
      slots = record {
        covered = All-from_get_or (IsOverSlot vars) new.slots.items None (λ j h. by_slot (λ j o. IsOverSlot vars o) c.over (λ j ne. over-at vars old.slots.items ready.kept.slots.covered j) j);
        distinct = distinct';
        fits = by_slot (λ j o. coef_sum (terms_of o) ≤ 2 ^ 120) c.fits (λ j ne. ready.kept.slots.fits j);
        short = All-from_get_or IsShortSlot new.slots.items None (λ j h. by_slot (λ j o. IsShortSlot o) c.short (λ j ne. short-at old.slots.items ready.kept.slots.short j) j);
      };
      named = c.named;
      places = c.lists_count ∙ ready.kept.places;
      stale = c.stale_count ∙ ready.kept.stale;
      listed = record { coefs = coefs'; within = c.lists_within };
      tight = record { others = tight'; within = c.tight_within };
    };
    counted = record { count = counted'; room = c.room };
  }

-- ---- entries

pub absent : (n : ℕ) (slots : Slots) → ((j : ℕ) → HasNumber n (slot_at slots j) → ⊥) → is_numbered n (entries_of slots) ≡ false
absent n [] h = refl
absent n (None ∷ slots) h = absent n slots (λ j k. h (suc j) k)
absent n (Some s ∷ slots) h = elim (cases_Bool (s.number.0 == n)) [
  | inl e ↦ absurd (h 0 (eqb-true s.number.0 n e))
  | inr e ↦ rw e (absent n slots (λ j k. h (suc j) k))
]

pub not_there : (n : ℕ) (slots : Slots) → is_numbered n (entries_of slots) ≡ false → (j : ℕ) → HasNumber n (slot_at slots j) → ⊥
not_there n [] h j k = k
not_there n (None ∷ slots) h zero k = k
not_there n (None ∷ slots) h (suc j) k = not_there n slots h j k
not_there n (Some s ∷ slots) h zero k = let p = or_parts (s.number.0 == n) (is_numbered n (entries_of slots)) h in let e : (s.number.0 == n) ≡ true = eq-eqb s.number.0 n k in let f = p.0 in absurd (let bad : true ≡ false = sym e ∙ f in cc)
not_there n (Some s ∷ slots) h (suc j) k = not_there n slots (or_parts (s.number.0 == n) (is_numbered n (entries_of slots)) h).1 j k

-- ---- numbers

-- the number is kept with this slot, if any, and each other number as it was
pub record Renames {S : Type 0} (old new : HashMap ℕ ℕ S) (n : ℕ) (o : Option ℕ) : Type 0 where
  pub here : get nat_eq new n ≡ o
  pub others : (m : ℕ) → m ≢ n → get nat_eq new m ≡ get nat_eq old m

pub renames : {S : Type 0} (old new : HashMap ℕ ℕ S) (n : ℕ) (o : Option ℕ) → UpdatesBy nat_eq (nat_eq n) old new o → Renames old new n o
renames old new n o u = record { here = u.1; others = λ m ne. u.2 m (ne_eqb n m (λ e. ne (sym e))) }

pub renames-then : {S : Type 0} (old mid new : HashMap ℕ ℕ S) (n : ℕ) (o p : Option ℕ) → Renames old mid n o → Renames mid new n p → Renames old new n p
renames-then old mid new n o p r s = record { here = s.here; others = λ m ne. s.others m ne ∙ r.others m ne }

-- the slot that is kept with a number is none only where no row has it
pub unnumbered : (slots : Slots) (n : ℕ) (o : Option ℕ) → IsSlotOf slots n o → IfNone o (is_numbered n (entries_of slots) ≡ false)
unnumbered slots n None h = absent n slots h
unnumbered slots n (Some k) h = tt

slot_of-same : (old new : Slots) (n : ℕ) (o : Option ℕ) → ((j : ℕ) → slot_at new j ≡ slot_at old j) → IsSlotOf old n o → IsSlotOf new n o
slot_of-same old new n None same h = λ j has. h j (subst (HasNumber n) (same j) has)
slot_of-same old new n (Some k) same h = subst (HasNumber n) (sym (same k)) h

-- the slot that changes has the number neither before nor after
slot_of-other : (old new : Slots) (k n : ℕ) (o : Option ℕ) → ((j : ℕ) → j ≢ k → slot_at new j ≡ slot_at old j) → (HasNumber n (slot_at old k) → ⊥) → (HasNumber n (slot_at new k) → ⊥)
    → IsSlotOf old n o → IsSlotOf new n o
slot_of-other old new k n None others before after h = λ j has. elim (cases_eq j k) [
  | inl e ↦ after (subst (λ (i : ℕ). HasNumber n (slot_at new i)) e has)
  | inr ne ↦ h j (subst (HasNumber n) (others j ne) has)
]
slot_of-other old new k n (Some i) others before after h = elim (cases_eq i k) [
  | inl e ↦ absurd (before (subst (λ (i : ℕ). HasNumber n (slot_at old i)) e h))
  | inr ne ↦ subst (HasNumber n) (sym (others i ne)) h
]

module _ (old new : Store) (named : AreNamed old.slots.items old.numbers) where
  pub named-same : ((j : ℕ) → slot_at new.slots.items j ≡ slot_at old.slots.items j) → ((n : ℕ) → get nat_eq new.numbers n ≡ get nat_eq old.numbers n) → AreNamed new.slots.items new.numbers
  named-same same kept = record { each = λ n. rw (kept n) (slot_of-same old.slots.items new.slots.items n (get nat_eq old.numbers n) same (named.each n)) }

  -- a number of no row goes
  pub named-unused : (n : ℕ) → ((j : ℕ) → slot_at new.slots.items j ≡ slot_at old.slots.items j) → is_numbered n (entries_of old.slots.items) ≡ false
      → Renames old.numbers new.numbers n None → AreNamed new.slots.items new.numbers
  named-unused n same fresh r = record {
    each = λ m. elim (cases_eq m n) [
      | inl e ↦ rw (e, r.here) (λ j there. not_there n old.slots.items fresh j (subst (HasNumber n) (same j) there))
      | inr ne ↦ rw (r.others m ne) (slot_of-same old.slots.items new.slots.items m (get nat_eq old.numbers m) same (named.each m))
    ];
  }

  -- a row with a new number fills an empty slot
  named-filled : (k : ℕ) (s : Slot) → ((j : ℕ) → j ≢ k → slot_at new.slots.items j ≡ slot_at old.slots.items j) → slot_at old.slots.items k ≡ None → slot_at new.slots.items k ≡ Some s
      → Renames old.numbers new.numbers s.number.0 (Some k) → AreNamed new.slots.items new.numbers
  named-filled k s others empty at r = record {
    each = λ n. elim (cases_eq n s.number.0) [
      | inl e ↦ rw (e, r.here) (subst (HasNumber s.number.0) (sym at) refl)
      | inr ne ↦ rw (r.others n ne) (slot_of-other old.slots.items new.slots.items k n (get nat_eq old.numbers n) others
          (λ has. subst (HasNumber n) empty has) (λ has. ne (sym (subst (HasNumber n) at has))) (named.each n))
    ];
  }

  -- the only row with a number goes
  named-removed : (k n : ℕ) → ((j : ℕ) → j ≢ k → slot_at new.slots.items j ≡ slot_at old.slots.items j) → slot_at new.slots.items k ≡ None → HasNumber n (slot_at old.slots.items k)
      → ((j m : ℕ) → HasNumber m (slot_at old.slots.items j) → HasNumber m (slot_at old.slots.items k) → j ≡ k) → ((m : ℕ) → HasNumber m (slot_at old.slots.items k) → m ≡ n)
      → Renames old.numbers new.numbers n None → AreNamed new.slots.items new.numbers
  named-removed k n others empty has only one r = record {
    each = λ m. elim (cases_eq m n) [
      | inl e ↦ rw (e, r.here) (λ j there. elim (cases_eq j k) [
        | inl same ↦ subst (HasNumber n) (ap (slot_at new.slots.items) same ∙ empty) there
        | inr ne ↦ ne (only j n (subst (HasNumber n) (others j ne) there) has)
      ])
      | inr ne ↦ rw (r.others m ne) (slot_of-other old.slots.items new.slots.items k m (get nat_eq old.numbers m) others
          (λ there. ne (one m there)) (λ there. subst (HasNumber m) empty there) (named.each m))
    ];
  }

-- ---- an empty slot more

pub slot_at-more : (slots : Slots) (j : ℕ) → slot_at (slots ++ None ∷ []) j ≡ slot_at slots j
slot_at-more [] zero = refl
slot_at-more [] (suc j) = refl
slot_at-more (s ∷ slots) zero = refl
slot_at-more (s ∷ slots) (suc j) = slot_at-more slots j

pub entries_of-more : (slots : Slots) → entries_of (slots ++ None ∷ []) ≡ entries_of slots
entries_of-more [] = refl
entries_of-more (None ∷ slots) = entries_of-more slots
entries_of-more (Some s ∷ slots) = ap (λ es. entry_of s ∷ es) (entries_of-more slots)

pub sum-more : (sums : List ℕ) (j : ℕ) → get_or (sums ++ 0 ∷ []) j 0 ≡ get_or sums j 0
sum-more [] zero = refl
sum-more [] (suc j) = refl
sum-more (s ∷ sums) zero = refl
sum-more (s ∷ sums) (suc j) = sum-more sums j

pub noted : (k : ℕ) (tight : List ℕ) → is_one_of k (tight ++ k ∷ []) ≡ true
noted k tight = list_any-append (λ (i : ℕ). i == k) tight (k ∷ []) ∙ or_right (is_one_of k tight) (is_one_of k (k ∷ [])) (or_left (k == k) false (eq-eqb k k refl))

coef_for-past : (k : ℕ) (os : List Occurrence) → All (λ (o : Occurrence). o.slot < k) os → coef_for k os ≡ 0
coef_for-past k [] a = refl
coef_for-past k (o ∷ os) a =
    let first : o.slot < k = a 0 o (omega arith) in
    omega (arith, part-elsewhere k o (λ e. omega arith), coef_for-past k os (λ i d h. a (suc i) d (omega (arith, h))))

without-absent : (n : ℕ) (slots : Slots) → ((j : ℕ) → HasNumber n (slot_at slots j) → ⊥) → without n (entries_of slots) ≡ entries_of slots
without-absent n [] h = refl
without-absent n (None ∷ slots) h = without-absent n slots (λ j k. h (suc j) k)
without-absent n (Some s ∷ slots) h =
    let other : (s.number.0 == n) ≡ false = ne_eqb s.number.0 n (λ e. h 0 e) in
    rw other (ap (λ es. entry_of s ∷ es) (without-absent n slots (λ j k. h (suc j) k)))

-- ---- the changes

module _ (vars : ℕ) (old new : Store) (before after : List ℕ) (literals : List Lit) (ready : IsReady vars old before literals) where
  weaken_within : (n : ℕ) → length old.slots.items ≤ n → (os : List Occurrence) → All (λ (o : Occurrence). o.slot < length old.slots.items) os → All (λ (o : Occurrence). o.slot < n) os
  weaken_within n le os a = All-weaker (λ (o : Occurrence). o.slot < length old.slots.items) (λ (o : Occurrence). o.slot < n) (λ o h. omega arith) os a

  pub opened : new.slots.items ≡ old.slots.items ++ None ∷ [] → new.lists.items ≡ old.lists.items → new.tight.items ≡ old.tight.items → new.numbers ≡ old.numbers → new.stale ≡ old.stale → after ≡ before ++ 0 ∷ [] → IsReady vars new after literals
  opened slots lists tight numbers stale sums =
      let k : ℕ = length old.slots.items in
      let longer : length new.slots.items ≡ length old.slots.items + 1 = ap length slots ∙ length_push old.slots.items None in
      let same : (j : ℕ) → slot_at new.slots.items j ≡ slot_at old.slots.items j = λ j. ap (λ (x : Slots). slot_at x j) slots ∙ slot_at-more old.slots.items j in
      let empty : slot_at old.slots.items k ≡ None = get_or_past old.slots.items k None (omega arith) in
      let sum : (j : ℕ) → get_or after j 0 ≡ get_or before j 0 = λ j. ap (λ (x : List ℕ). get_or x j 0) sums ∙ sum-more before j in
      changed vars old new before after literals k None ready (record {
        longer = omega (arith, longer);
        others = λ j ne. same j;
        here = same k ∙ empty;
        over = tt;
        short = tt;
        named = named-same old new ready.kept.named same (λ n. rw numbers refl);
        alone = λ j n ne h i. h;
        fits = omega arith;
        lists_others = λ l j ne. ap (λ (x : List (Vec Occurrence Global)). coef_for j (list_at x (place_of l))) lists;
        lists_here = λ l. refl;
        lists_within = λ p. rw lists (weaken_within (length new.slots.items) (omega (arith, longer)) (list_at old.lists.items p) (ready.kept.listed.within p));
        lists_count = ap length lists;
        stale_count = rw stale refl;
        tight_others = λ j ne out. rw tight at out;
        tight_here = λ out. tt;
        tight_within = rw tight (All-weaker (λ (j : ℕ). j < length old.slots.items) (λ (j : ℕ). j < length new.slots.items) (λ j h. omega (arith, longer)) old.tight.items ready.kept.tight.within);
        sums_others = λ j ne. sum j;
        sums_here = sum k ∙ ready.counted.count k ∙ ap (λ (o : Option Slot). nonfalse_sum (among literals) (terms_of o)) empty;
        room = omega (arith, longer, ap length sums, length_push before 0, ready.counted.room);
      })

  pub filled : (k : ℕ) (s : Slot) → k < length old.slots.items → slot_at old.slots.items k ≡ None → ((p : ℕ) → All (λ (o : Occurrence). o.slot < k) (list_at old.lists.items p)) → is_numbered s.number.0 (entries_of old.slots.items) ≡ false → IsOver vars s.row → IsShort s.heads.items s.rest s.bound s.row
      → coef_sum s.row.terms ≤ 2 ^ 120 → new.slots.items ≡ set old.slots.items k (Some s) → IsListedAt k s.row old.lists.items new.lists.items new.tight.items
      → NotesAtMost k old.tight.items new.tight.items → Renames old.numbers new.numbers s.number.0 (Some k) → new.stale ≡ old.stale → after ≡ set before k (nonfalse_sum (among literals) s.row.terms) → IsReady vars new after literals
  filled k s h empty bare fresh over short fits slots listed notes renames stale sums =
      let count : length new.slots.items ≡ length old.slots.items = ap length slots ∙ length-set old.slots.items k (Some s) in
      let others : (j : ℕ) → j ≢ k → slot_at new.slots.items j ≡ slot_at old.slots.items j = λ j ne. ap (λ (x : Slots). slot_at x j) slots ∙ get_or-set_other old.slots.items k j (Some s) None ne in
      let here : slot_at new.slots.items k ≡ Some s = ap (λ (x : Slots). slot_at x k) slots ∙ get_or-set_same old.slots.items k (Some s) None h in
      changed vars old new before after literals k (Some s) ready (record {
        longer = omega (arith, count);
        others = others;
        here = here;
        over = over;
        short = short;
        named = named-filled old new ready.kept.named k s others empty here renames;
        alone = λ j n ne a b. not_there s.number.0 old.slots.items fresh j (subst (λ (m : ℕ). HasNumber m (slot_at old.slots.items j)) (sym a) b);
        fits = fits;
        lists_others = λ l j ne. let q : (j == k) ≡ false = ne_eqb j k ne in let e = rw q at (listed.entered.coefs l j) in omega (arith, e);
        lists_here = λ l.
            let q : (k == k) ≡ true = eq-eqb k k refl in
            let e = rw q at (listed.entered.coefs l k) in
            omega (arith, e, coef_for-past k (list_at old.lists.items (place_of l)) (bare (place_of l)));
        lists_within = λ p. listed.entered.within (length new.slots.items) (omega (arith, count, h)) (λ q. weaken_within (length new.slots.items) (omega (arith, count)) (list_at old.lists.items q) (ready.kept.listed.within q)) p;
        lists_count = listed.entered.count;
        stale_count = rw stale refl;
        tight_others = λ j ne out. notes.others j out;
        tight_here = listed.steady;
        tight_within = notes.within (length new.slots.items) (omega (arith, count, h))
            (All-weaker (λ (j : ℕ). j < length old.slots.items) (λ (j : ℕ). j < length new.slots.items) (λ j h. omega (arith, count)) old.tight.items ready.kept.tight.within);
        sums_others = λ j ne. ap (λ (x : List ℕ). get_or x j 0) sums ∙ get_or-set_other before k j (nonfalse_sum (among literals) s.row.terms) 0 ne;
        sums_here = ap (λ (x : List ℕ). get_or x k 0) sums ∙ get_or-set_same before k (nonfalse_sum (among literals) s.row.terms) 0 (omega (arith, h, ready.counted.room));
        room = omega (arith, count, ap length sums, length-set before k (nonfalse_sum (among literals) s.row.terms), ready.counted.room);
      })

  pub restored : (k : ℕ) → k < length old.slots.items → slot_at old.slots.items k ≡ None → new.slots.items ≡ old.slots.items → AreAdded k old.lists.items new.lists.items
      → new.tight.items ≡ old.tight.items → (n : ℕ) → is_numbered n (entries_of old.slots.items) ≡ false → Renames old.numbers new.numbers n None → new.stale ≡ old.stale → after ≡ before → IsReady vars new after literals
  restored k h empty slots added tight n fresh renames stale sums =
      let count : length new.slots.items ≡ length old.slots.items = ap length slots in
      changed vars old new before after literals k None ready (record {
        longer = omega (arith, count);
        others = λ j ne. ap (λ (x : Slots). slot_at x j) slots;
        here = ap (λ (x : Slots). slot_at x k) slots ∙ empty;
        over = tt;
        short = tt;
        named = named-unused old new ready.kept.named n (λ j. ap (λ (x : Slots). slot_at x j) slots) fresh renames;
        alone = λ j n ne h i. h;
        fits = omega arith;
        lists_others = added.others;
        lists_here = λ l. refl;
        lists_within = λ p. rw count (added.within (length old.slots.items) h ready.kept.listed.within p);
        lists_count = added.count;
        stale_count = rw stale refl;
        tight_others = λ j ne out. rw tight at out;
        tight_here = λ out. tt;
        tight_within = rw (tight, count) ready.kept.tight.within;
        sums_others = λ j ne. ap (λ (x : List ℕ). get_or x j 0) sums;
        sums_here = ap (λ (x : List ℕ). get_or x k 0) sums ∙ ready.counted.count k ∙ ap (λ (o : Option Slot). nonfalse_sum (among literals) (terms_of o)) empty;
        room = omega (arith, count, ap length sums, ready.counted.room);
      })

  pub removed : (k : ℕ) (s : Slot) → k < length old.slots.items → slot_at old.slots.items k ≡ Some s → new.slots.items ≡ set old.slots.items k None → new.lists.items ≡ old.lists.items
      → new.tight.items ≡ old.tight.items → Renames old.numbers new.numbers s.number.0 None → new.stale ≡ old.stale → after ≡ set before k 0 → IsReady vars new after literals
  removed k s h at slots lists tight renames stale sums =
      let count : length new.slots.items ≡ length old.slots.items = ap length slots ∙ length-set old.slots.items k None in
      let others : (j : ℕ) → j ≢ k → slot_at new.slots.items j ≡ slot_at old.slots.items j = λ j ne. ap (λ (x : Slots). slot_at x j) slots ∙ get_or-set_other old.slots.items k j None None ne in
      let here : slot_at new.slots.items k ≡ None = ap (λ (x : Slots). slot_at x k) slots ∙ get_or-set_same old.slots.items k None None h in
      let has : HasNumber s.number.0 (slot_at old.slots.items k) = subst (HasNumber s.number.0) (sym at) refl in
      changed vars old new before after literals k None ready (record {
        longer = omega (arith, count);
        others = others;
        here = here;
        over = tt;
        short = tt;
        named = named-removed old new ready.kept.named k s.number.0 others here has (λ j m a b. ready.kept.slots.distinct j k m a b) (λ m there. sym (subst (HasNumber m) at there)) renames;
        alone = λ j n ne h i. h;
        fits = omega arith;
        lists_others = λ l j ne. ap (λ (x : List (Vec Occurrence Global)). coef_for j (list_at x (place_of l))) lists;
        lists_here = λ l. refl;
        lists_within = λ p. rw (lists, count) (ready.kept.listed.within p);
        lists_count = ap length lists;
        stale_count = rw stale refl;
        tight_others = λ j ne out. rw tight at out;
        tight_here = λ out. tt;
        tight_within = rw (tight, count) ready.kept.tight.within;
        sums_others = λ j ne. ap (λ (x : List ℕ). get_or x j 0) sums ∙ get_or-set_other before k j 0 0 ne;
        sums_here = ap (λ (x : List ℕ). get_or x k 0) sums ∙ get_or-set_same before k 0 0 (omega (arith, h, ready.counted.room));
        room = omega (arith, count, ap length sums, length-set before k 0, ready.counted.room);
      })

-- what is left of removed rows may go
pub thinner-ready : (vars : ℕ) (old new : Store) (sums : List ℕ) (literals : List Lit) → IsReady vars old sums literals → IsThinner old new → IsReady vars new sums literals
thinner-ready vars old new sums literals ready t = record {
  kept = record {
    slots = rw t.slots ready.kept.slots;
    named = rw (t.slots, t.numbers) ready.kept.named;
    places = t.places ∙ ready.kept.places;
    stale = t.stale ∙ ready.kept.stale;
    listed = rw t.slots (t.listed ready.kept.listed);
    tight = rw t.slots (t.tight ready.kept.tight);
  };
  counted = rw t.slots ready.counted;
}

-- ---- entries of changed slots

pub entries_of-filled : (slots : Slots) (k : ℕ) (s : Slot) → k + 1 ≡ length slots → slot_at slots k ≡ None → entries_of (set slots k (Some s)) ≡ entries_of slots ++ entry_of s ∷ []
entries_of-filled [] k s h at = absurd (omega arith)
entries_of-filled (None ∷ []) zero s h at = refl
entries_of-filled (Some x ∷ []) zero s h at = absurd (cc)
entries_of-filled (x ∷ y ∷ slots) zero s h at = absurd (omega arith)
entries_of-filled (None ∷ slots) (suc k) s h at = entries_of-filled slots k s (omega arith) at
entries_of-filled (Some x ∷ slots) (suc k) s h at = ap (λ es. entry_of x ∷ es) (entries_of-filled slots k s (omega arith) at)

pub entries_of-removed : (slots : Slots) (k : ℕ) (n : ℕ) → HasNumber n (slot_at slots k) → ((j : ℕ) → HasNumber n (slot_at slots j) → j ≡ k) → entries_of (set slots k None) ≡ without n (entries_of slots)
entries_of-removed [] k n h only = absurd h
entries_of-removed (None ∷ slots) zero n h only = absurd h
entries_of-removed (Some x ∷ slots) zero n h only =
    rw (eq-eqb x.number.0 n h) (sym (without-absent n slots (λ j k. let e = only (suc j) k in omega arith)))
entries_of-removed (None ∷ slots) (suc k) n h only = entries_of-removed slots k n h (λ j a. let e = only (suc j) a in omega arith)
entries_of-removed (Some x ∷ slots) (suc k) n h only =
    let other : (x.number.0 == n) ≡ false = ne_eqb x.number.0 n (λ e. let f = only 0 e in omega arith) in
    rw other (ap (λ es. entry_of x ∷ es) (entries_of-removed slots k n h (λ j a. let e = only (suc j) a in omega arith)))

pub row-of-slot : (slots : Slots) (k n : ℕ) (s : Slot) → slot_at slots k ≡ Some s → HasNumber n (slot_at slots k) → ((j : ℕ) → HasNumber n (slot_at slots j) → j ≡ k) → row_of n (entries_of slots) ≡ Some s.row
row-of-slot slots k n s at has only =
    let number : s.number.0 ≡ n = subst (HasNumber n) at has in
    subst (λ (m : ℕ). row_of m (entries_of slots) ≡ Some s.row) number (row-at slots k s at (λ j h. only j (subst (λ (m : ℕ). HasNumber m (slot_at slots j)) number h)))

pub row_of-none : (n : ℕ) (es : List NumberedRow) → is_numbered n es ≡ false → row_of n es ≡ None
row_of-none n [] h = refl
row_of-none n (e ∷ es) h = let p = or_parts (e.number == n) (is_numbered n es) h in rw p.0 (row_of-none n es p.1)

pub without-none : (n : ℕ) (es : List NumberedRow) → is_numbered n es ≡ false → without n es ≡ es
without-none n [] h = refl
without-none n (e ∷ es) h = let p = or_parts (e.number == n) (is_numbered n es) h in rw p.0 (ap (λ x. e ∷ x) (without-none n es p.1))

pub numbered-by : (n : ℕ) (slots : Slots) (k : ℕ) → HasNumber n (slot_at slots k) → is_numbered n (entries_of slots) ≡ true
numbered-by n slots k h = elim (cases_Bool (is_numbered n (entries_of slots))) [ inl e ↦ e | inr e ↦ absurd (not_there n slots e k h) ]
