-- A queue of which one place changes.
use Rattle.std.proofs.Common.{◌≡◌, ◌≢◌, ◌∙◌, ◌≤◌, ◌<◌, ◌+◌, ◌==◌, ◌||◌, ℕ, zero, suc, true, false, not, List, [], ◌∷◌, ◌++◌, length, refl, sym, ap, subst, arith, inl, inr, Option, Some, None, eq-eqb, nat_eq, IfNone, Result, Ok, Err, OnOk, OnErr}
use Rattle.std.specs.HashMap.{get}
use Rattle.std.proofs.Math.ListN.{set}
use Rattle.std.proofs.lemmas.Bool.{cases_Bool, cases_eq, eqb-true, false_from_ne_true, ne_eqb, or_cases, or_from, or_parts}
use Rattle.std.proofs.lemmas.List.Folds.{list_any-append}
use Rattle.std.proofs.lemmas.List.{get_or-set_other, get_or-set_same, length-set, length_push}
use Rattle.pb_rows.specs.Formula.{NumberedRow, is_numbered, row_of, without}
use Rattle.propagation.specs.Following.{IsOver}
use Rattle.rup_engine.specs.declared.queue.Entry.{Entry}
use Rattle.rup_engine.specs.declared.queue.Queue.{Queue}
use Rattle.rup_engine.specs.Queue.{AreApart, HasNumber, IsOverPlace, IsPlaceOf, IsQueue, Places, waiting_entries, entry_of, place_at}
use Rattle.rup_engine.proofs.Changing.{Renames, row_of-none, without-none}

-- ---- numbers

pub absent : (n : ℕ) (places : Places) → ((j : ℕ) → HasNumber n (place_at places j) → ⊥) → is_numbered n (waiting_entries places) ≡ false
absent n [] h = refl
absent n (None ∷ places) h = absent n places (λ j k. h (suc j) k)
absent n (Some e ∷ places) h = elim (cases_Bool (e.number.0 == n)) [
  | inl is ↦ absurd (h 0 (eqb-true e.number.0 n is))
  | inr not ↦ rw not (absent n places (λ j k. h (suc j) k))
]

pub not_there : (n : ℕ) (places : Places) → is_numbered n (waiting_entries places) ≡ false → (j : ℕ) → HasNumber n (place_at places j) → ⊥
not_there n [] h j k = k
not_there n (None ∷ places) h zero k = k
not_there n (None ∷ places) h (suc j) k = not_there n places h j k
not_there n (Some e ∷ places) h zero k =
    let p = or_parts (e.number.0 == n) (is_numbered n (waiting_entries places)) h in
    let is : (e.number.0 == n) ≡ true = eq-eqb e.number.0 n k in
    let f = p.0 in
    absurd (let bad : true ≡ false = sym is ∙ f in cc)
not_there n (Some e ∷ places) h (suc j) k = not_there n places (or_parts (e.number.0 == n) (is_numbered n (waiting_entries places)) h).1 j k

pub numbered-by : (n : ℕ) (places : Places) (k : ℕ) → HasNumber n (place_at places k) → is_numbered n (waiting_entries places) ≡ true
numbered-by n places k h = elim (cases_Bool (is_numbered n (waiting_entries places))) [ inl e ↦ e | inr e ↦ absurd (not_there n places e k h) ]

pub unnumbered : (places : Places) (n : ℕ) (o : Option ℕ) → IsPlaceOf places n o → IfNone o (is_numbered n (waiting_entries places) ≡ false)
unnumbered places n None h = absent n places h
unnumbered places n (Some k) h = tt

-- ---- rows by number, over joined lists

pub without-append : (n : ℕ) (xs ys : List NumberedRow) → without n (xs ++ ys) ≡ without n xs ++ without n ys
without-append n [] ys = refl
without-append n (a ∷ xs) ys = elim (cases_Bool (a.number == n)) [
  | inl e ↦ rw e (without-append n xs ys)
  | inr e ↦ rw e (ap (λ x. a ∷ x) (without-append n xs ys))
]

pub numbered-append : (n : ℕ) (xs ys : List NumberedRow) → is_numbered n (xs ++ ys) ≡ (is_numbered n xs || is_numbered n ys)
numbered-append n xs ys = list_any-append (λ e. e.number == n) xs ys

pub numbered-without : (m n : ℕ) (es : List NumberedRow) → is_numbered m es ≡ false → is_numbered m (without n es) ≡ false
numbered-without m n [] h = refl
numbered-without m n (e ∷ es) h =
    let p = or_parts (e.number == m) (is_numbered m es) h in
    elim (cases_Bool (e.number == n)) [
      | inl is ↦ rw is (numbered-without m n es p.1)
      | inr not ↦ rw not (or_from (e.number == m) (is_numbered m (without n es)) p.0 (numbered-without m n es p.1))
    ]

pub numbered-gone : (n : ℕ) (es : List NumberedRow) → is_numbered n (without n es) ≡ false
numbered-gone n [] = refl
numbered-gone n (e ∷ es) = elim (cases_Bool (e.number == n)) [
  | inl is ↦ rw is (numbered-gone n es)
  | inr not ↦ rw not (or_from (e.number == n) (is_numbered n (without n es)) not (numbered-gone n es))
]

pub row_of-first : (n : ℕ) (xs ys : List NumberedRow) → is_numbered n ys ≡ false → row_of n (xs ++ ys) ≡ row_of n xs
row_of-first n [] ys h = row_of-none n ys h
row_of-first n (a ∷ xs) ys h = elim (cases_Bool (a.number == n)) [
  | inl e ↦ rw e refl
  | inr e ↦ rw e (row_of-first n xs ys h)
]

pub row_of-second : (n : ℕ) (xs ys : List NumberedRow) → is_numbered n xs ≡ false → row_of n (xs ++ ys) ≡ row_of n ys
row_of-second n [] ys h = refl
row_of-second n (a ∷ xs) ys h = let p = or_parts (a.number == n) (is_numbered n xs) h in rw p.0 (row_of-second n xs ys p.1)

-- what waits isn't listed
pub unlisted : (xs ys : List NumberedRow) (n : ℕ) → AreApart xs ys → is_numbered n ys ≡ true → is_numbered n xs ≡ false
unlisted xs ys n a h = false_from_ne_true (is_numbered n xs) (λ e. let f = a.none n e in absurd (let bad : true ≡ false = sym h ∙ f in cc))

-- ---- one place changes

place_of-other : (old new : Places) (k n : ℕ) (o : Option ℕ) → ((j : ℕ) → j ≢ k → place_at new j ≡ place_at old j) → (HasNumber n (place_at old k) → ⊥) → (HasNumber n (place_at new k) → ⊥)
    → IsPlaceOf old n o → IsPlaceOf new n o
place_of-other old new k n None others before after h = λ j has. elim (cases_eq j k) [
  | inl e ↦ after (subst (λ (i : ℕ). HasNumber n (place_at new i)) e has)
  | inr ne ↦ h j (subst (HasNumber n) (others j ne) has)
]
place_of-other old new k n (Some i) others before after h = elim (cases_eq i k) [
  | inl e ↦ absurd (before (subst (λ (i : ℕ). HasNumber n (place_at old i)) e h))
  | inr ne ↦ subst (HasNumber n) (sym (others i ne)) h
]

place_of-same : (old new : Places) (n : ℕ) (o : Option ℕ) → ((j : ℕ) → place_at new j ≡ place_at old j) → IsPlaceOf old n o → IsPlaceOf new n o
place_of-same old new n None same h = λ j has. h j (subst (HasNumber n) (same j) has)
place_of-same old new n (Some k) same h = subst (HasNumber n) (sym (same k)) h

pub place_at-more : (places : Places) (j : ℕ) → place_at (places ++ None ∷ []) j ≡ place_at places j
place_at-more [] zero = refl
place_at-more [] (suc j) = refl
place_at-more (p ∷ places) zero = refl
place_at-more (p ∷ places) (suc j) = place_at-more places j

pub entries_of-more : (places : Places) → waiting_entries (places ++ None ∷ []) ≡ waiting_entries places
entries_of-more [] = refl
entries_of-more (None ∷ places) = entries_of-more places
entries_of-more (Some e ∷ places) = ap (λ es. entry_of e ∷ es) (entries_of-more places)

module _ (vars : ℕ) (old new : Queue) (q : IsQueue vars old) where
  pub unchanged : new.places.items ≡ old.places.items → new.numbers ≡ old.numbers → new.front ≡ old.front → IsQueue vars new
  unchanged places numbers front = record {
    named = λ n. rw (places, numbers) (q.named n);
    distinct = λ j k n. rw places (q.distinct j k n);
    over = λ k. rw places (q.over k);
    empty = λ k h. rw places (q.empty k (omega (arith, h, front)));
    within = rw places (omega (arith, front, q.within));
  }

  pub opened : new.places.items ≡ old.places.items ++ None ∷ [] → new.numbers ≡ old.numbers → new.front ≡ old.front → IsQueue vars new
  opened places numbers front =
      let same : (j : ℕ) → place_at new.places.items j ≡ place_at old.places.items j = λ j. ap (λ (x : Places). place_at x j) places ∙ place_at-more old.places.items j in
      record {
        named = λ n. rw numbers (place_of-same old.places.items new.places.items n (get nat_eq old.numbers n) same (q.named n));
        distinct = λ j k n a b. q.distinct j k n (subst (HasNumber n) (same j) a) (subst (HasNumber n) (same k) b);
        over = λ k. subst (IsOverPlace vars) (sym (same k)) (q.over k);
        empty = λ k h. same k ∙ q.empty k (omega (arith, h, front));
        within = omega (arith, ap length places, length_push old.places.items None, q.within, front);
      }

  pub filled : (k : ℕ) (e : Entry) → k < length old.places.items → place_at old.places.items k ≡ None → old.front ≤ k → is_numbered e.number.0 (waiting_entries old.places.items) ≡ false → IsOver vars e.row
      → new.places.items ≡ set old.places.items k (Some e) → Renames old.numbers new.numbers e.number.0 (Some k) → new.front ≡ old.front → IsQueue vars new
  filled k e h bare front fresh over places r same_front =
      let others : (j : ℕ) → j ≢ k → place_at new.places.items j ≡ place_at old.places.items j = λ j ne. ap (λ (x : Places). place_at x j) places ∙ get_or-set_other old.places.items k j (Some e) None ne in
      let here : place_at new.places.items k ≡ Some e = ap (λ (x : Places). place_at x k) places ∙ get_or-set_same old.places.items k (Some e) None h in
      let alone : (j n : ℕ) → j ≢ k → HasNumber n (place_at new.places.items k) → HasNumber n (place_at old.places.items j) → ⊥ =
      λ j n ne a b. not_there e.number.0 old.places.items fresh j (let f : e.number.0 ≡ n = subst (HasNumber n) here a in subst (λ (m : ℕ). HasNumber m (place_at old.places.items j)) (sym f) b) in
      record {
        named = λ n. elim (cases_eq n e.number.0) [
          | inl is ↦ rw (is, r.here) (subst (HasNumber e.number.0) (sym here) refl)
          | inr ne ↦ rw (r.others n ne) (place_of-other old.places.items new.places.items k n (get nat_eq old.numbers n) others
              (λ has. subst (HasNumber n) bare has) (λ has. ne (sym (subst (HasNumber n) here has))) (q.named n))
        ];
        distinct = λ i j n a b. elim (cases_eq i k) [
          | inl e1 ↦ elim (cases_eq j k) [
            | inl e2 ↦ e1 ∙ sym e2
            | inr n2 ↦ absurd (alone j n n2 (subst (λ (x : ℕ). HasNumber n (place_at new.places.items x)) e1 a) (subst (HasNumber n) (others j n2) b))
          ]
          | inr n1 ↦ elim (cases_eq j k) [
            | inl e2 ↦ absurd (alone i n n1 (subst (λ (x : ℕ). HasNumber n (place_at new.places.items x)) e2 b) (subst (HasNumber n) (others i n1) a))
            | inr n2 ↦ q.distinct i j n (subst (HasNumber n) (others i n1) a) (subst (HasNumber n) (others j n2) b)
          ]
        ];
        over = λ j. elim (cases_eq j k) [
          | inl is ↦ subst (λ (x : ℕ). IsOverPlace vars (place_at new.places.items x)) (sym is) (subst (IsOverPlace vars) (sym here) over)
          | inr ne ↦ subst (IsOverPlace vars) (sym (others j ne)) (q.over j)
        ];
        empty = λ j less. others j (λ e. omega (arith, less, same_front, front, e)) ∙ q.empty j (omega (arith, less, same_front));
        within = omega (arith, ap length places, length-set old.places.items k (Some e), q.within, same_front);
      }

  pub dropped : (k n : ℕ) → k < length old.places.items → HasNumber n (place_at old.places.items k) → new.places.items ≡ set old.places.items k None
      → Renames old.numbers new.numbers n None → new.front ≡ old.front → IsQueue vars new
  dropped k n h has places r front =
      let others : (j : ℕ) → j ≢ k → place_at new.places.items j ≡ place_at old.places.items j = λ j ne. ap (λ (x : Places). place_at x j) places ∙ get_or-set_other old.places.items k j None None ne in
      let here : place_at new.places.items k ≡ None = ap (λ (x : Places). place_at x k) places ∙ get_or-set_same old.places.items k None None h in
      let kept : (j m : ℕ) → HasNumber m (place_at new.places.items j) → HasNumber m (place_at old.places.items j) =
      λ j m a. elim (cases_eq j k) [
        | inl is ↦ absurd (subst (HasNumber m) (ap (place_at new.places.items) is ∙ here) a)
        | inr ne ↦ subst (HasNumber m) (others j ne) a
      ] in
      record {
        named = λ m. elim (cases_eq m n) [
          | inl is ↦ rw (is, r.here) (λ j there. elim (cases_eq j k) [
            | inl same ↦ subst (HasNumber n) (ap (place_at new.places.items) same ∙ here) there
            | inr ne ↦ ne (q.distinct j k n (kept j n there) has)
          ])
          | inr ne ↦ rw (r.others m ne) (place_of-other old.places.items new.places.items k m (get nat_eq old.numbers m) others
              (λ there. ne (same_number (place_at old.places.items k) m n there has)) (λ there. subst (HasNumber m) here there) (q.named m))
        ];
        distinct = λ i j m a b. q.distinct i j m (kept i m a) (kept j m b);
        over = λ j. elim (cases_eq j k) [
          | inl is ↦ subst (λ (x : ℕ). IsOverPlace vars (place_at new.places.items x)) (sym is) (subst (IsOverPlace vars) (sym here) tt)
          | inr ne ↦ subst (IsOverPlace vars) (sym (others j ne)) (q.over j)
        ];
        empty = λ j less. elim (cases_eq j k) [
          | inl is ↦ ap (place_at new.places.items) is ∙ here
          | inr ne ↦ others j ne ∙ q.empty j (omega (arith, less, front))
        ];
        within = omega (arith, ap length places, length-set old.places.items k None, q.within, front);
      }
    where
      same_number : (o : Option Entry) (a b : ℕ) → HasNumber a o → HasNumber b o → a ≡ b
      same_number None a b x y = absurd x
      same_number (Some e) a b x y = sym x ∙ y

-- the front goes over an empty place
pub passed : (vars : ℕ) (old new : Queue) → IsQueue vars old → new.places ≡ old.places → new.numbers ≡ old.numbers → new.front ≡ old.front + 1 → place_at old.places.items old.front ≡ None → old.front < length old.places.items
    → IsQueue vars new
passed vars old new q places numbers front bare more = record {
  named = λ n. rw (places, numbers) (q.named n);
  distinct = λ j k n. rw places (q.distinct j k n);
  over = λ k. rw places (q.over k);
  empty = λ k less. rw places (by k (omega (arith, less, front)));
  within = rw places (omega (arith, front, more));
}
  where
    by : (k : ℕ) → k < old.front + 1 → place_at old.places.items k ≡ None
    by k h = elim (cases_eq k old.front) [ inl is ↦ ap (place_at old.places.items) is ∙ bare | inr ne ↦ q.empty k (omega (arith, h, ne)) ]

-- ---- entries of changed places

pub entries_of-filled : (places : Places) (k : ℕ) (e : Entry) → k + 1 ≡ length places → place_at places k ≡ None → waiting_entries (set places k (Some e)) ≡ waiting_entries places ++ entry_of e ∷ []
entries_of-filled [] k e h at = absurd (omega arith)
entries_of-filled (None ∷ []) zero e h at = refl
entries_of-filled (Some x ∷ []) zero e h at = absurd (cc)
entries_of-filled (x ∷ y ∷ places) zero e h at = absurd (omega arith)
entries_of-filled (None ∷ places) (suc k) e h at = entries_of-filled places k e (omega arith) at
entries_of-filled (Some x ∷ places) (suc k) e h at = ap (λ es. entry_of x ∷ es) (entries_of-filled places k e (omega arith) at)

without-absent : (n : ℕ) (places : Places) → ((j : ℕ) → HasNumber n (place_at places j) → ⊥) → without n (waiting_entries places) ≡ waiting_entries places
without-absent n places h = without-none n (waiting_entries places) (absent n places h)

pub entries_of-removed : (places : Places) (k n : ℕ) → HasNumber n (place_at places k) → ((j : ℕ) → HasNumber n (place_at places j) → j ≡ k) → waiting_entries (set places k None) ≡ without n (waiting_entries places)
entries_of-removed [] k n h only = absurd h
entries_of-removed (None ∷ places) zero n h only = absurd h
entries_of-removed (Some x ∷ places) zero n h only = rw (eq-eqb x.number.0 n h) (sym (without-absent n places (λ j k. let e = only (suc j) k in omega arith)))
entries_of-removed (None ∷ places) (suc k) n h only = entries_of-removed places k n h (λ j a. let e = only (suc j) a in omega arith)
entries_of-removed (Some x ∷ places) (suc k) n h only =
    let other : (x.number.0 == n) ≡ false = ne_eqb x.number.0 n (λ e. let f = only 0 e in omega arith) in
    rw other (ap (λ es. entry_of x ∷ es) (entries_of-removed places k n h (λ j a. let e = only (suc j) a in omega arith)))

-- the row at the first place that isn't empty is the first one
pub first-entry : (places : Places) (k : ℕ) (e : Entry) → ((j : ℕ) → j < k → place_at places j ≡ None) → place_at places k ≡ Some e
    → ((j : ℕ) → HasNumber e.number.0 (place_at places j) → j ≡ k) → waiting_entries places ≡ entry_of e ∷ without e.number.0 (waiting_entries places)
first-entry [] k e front at only = absurd (cc)
first-entry (None ∷ places) zero e front at only = absurd (cc)
first-entry (Some x ∷ places) zero e front at only =
    let same : x ≡ e = cc in
    rw (same, eq-eqb e.number.0 e.number.0 refl) (ap (λ es. entry_of e ∷ es) (sym (without-absent e.number.0 places (λ j k. let f = only (suc j) k in omega arith))))
first-entry (None ∷ places) (suc k) e front at only = first-entry places k e (λ j h. front (suc j) (omega arith)) at (λ j h. let f = only (suc j) h in omega arith)
first-entry (Some x ∷ places) (suc k) e front at only = let f = front 0 (omega arith) in absurd (cc)

-- no place is left where all are before the front
pub none-left : (places : Places) (k : ℕ) → ((j : ℕ) → j < k → place_at places j ≡ None) → length places ≤ k → waiting_entries places ≡ []
none-left [] k front h = refl
none-left (None ∷ places) zero front h = absurd (omega arith)
none-left (None ∷ places) (suc k) front h = none-left places k (λ j l. front (suc j) (omega arith)) (omega arith)
none-left (Some x ∷ places) zero front h = absurd (omega arith)
none-left (Some x ∷ places) (suc k) front h = let f = front 0 (omega arith) in absurd (cc)

-- ---- the row of a place

entry-at : (places : Places) (k : ℕ) (e : Entry) → place_at places k ≡ Some e → ((j : ℕ) → HasNumber e.number.0 (place_at places j) → j ≡ k) → row_of e.number.0 (waiting_entries places) ≡ Some e.row
entry-at [] k e at only = absurd (cc)
entry-at (None ∷ places) zero e at only = absurd (cc)
entry-at (None ∷ places) (suc k) e at only = entry-at places k e at (λ j h. let f = only (suc j) h in omega arith)
entry-at (Some x ∷ places) zero e at only = let f : x ≡ e = cc in rw (f, eq-eqb e.number.0 e.number.0 refl) refl
entry-at (Some x ∷ places) (suc k) e at only = elim (cases_eq x.number.0 e.number.0) [
  | inl is ↦ absurd (let f = only 0 is in omega arith)
  | inr ne ↦ rw (ne_eqb x.number.0 e.number.0 ne) (entry-at places k e at (λ j h. let f = only (suc j) h in omega arith))
]

pub row-of-place : (places : Places) (k n : ℕ) (e : Entry) → place_at places k ≡ Some e → HasNumber n (place_at places k) → ((j : ℕ) → HasNumber n (place_at places j) → j ≡ k) → row_of n (waiting_entries places) ≡ Some e.row
row-of-place places k n e at has only =
    let number : e.number.0 ≡ n = subst (HasNumber n) at has in
    subst (λ (m : ℕ). row_of m (waiting_entries places) ≡ Some e.row) number (entry-at places k e at (λ j h. only j (subst (λ (m : ℕ). HasNumber m (place_at places j)) number h)))

-- ---- rows that are listed

-- one row more is listed, and waits no more
pub apart-moved : (listed waiting : List NumberedRow) (e : NumberedRow) → AreApart listed waiting → AreApart (listed ++ e ∷ []) (without e.number waiting)
apart-moved listed waiting e a = record {
  none = λ n h. elim (or_cases (is_numbered n listed) (is_numbered n (e ∷ [])) (sym (numbered-append n listed (e ∷ [])) ∙ h)) [
    | inl old ↦ numbered-without n e.number waiting (a.none n old)
    | inr new ↦ elim (or_cases (e.number == n) false new) [
      | inl is ↦ let same : e.number ≡ n = eqb-true e.number n is in subst (λ (m : ℕ). is_numbered m (without e.number waiting) ≡ false) same (numbered-gone e.number waiting)
      | inr bad ↦ absurd (cc)
    ]
  ];
}

-- fewer rows are listed
pub apart-less : (listed waiting : List NumberedRow) (n : ℕ) → AreApart listed waiting → AreApart (without n listed) waiting
apart-less listed waiting n a = record {
  none = λ m h. elim (cases_Bool (is_numbered m listed)) [
    | inl e ↦ a.none m e
    | inr e ↦ absurd (let f = numbered-without m n listed e in let bad : true ≡ false = sym h ∙ f in cc)
  ];
}

-- what one more name of no row takes from joined lists
pub without-first : (n : ℕ) (xs ys : List NumberedRow) → is_numbered n ys ≡ false → without n (xs ++ ys) ≡ without n xs ++ ys
without-first n xs ys h = without-append n xs ys ∙ ap (λ (x : List NumberedRow). without n xs ++ x) (without-none n ys h)

pub without-second : (n : ℕ) (xs ys : List NumberedRow) → is_numbered n xs ≡ false → without n (xs ++ ys) ≡ xs ++ without n ys
without-second n xs ys h = without-append n xs ys ∙ ap (λ (x : List NumberedRow). x ++ without n ys) (without-none n xs h)

-- ---- results

pub either-way : {A E : Type 0} (P Q R : Type 0) (r : Result A E) → OnOk r P → OnErr r Q → (P → R) → (Q → R) → R
either-way P Q R (Ok a) h k f g = f h
either-way P Q R (Err e) h k f g = g k

pub where-ok : {A E : Type 0} (P Q : Type 0) (r : Result A E) → OnOk r P → (P → Q) → OnOk r Q
where-ok P Q (Ok a) h f = f h
where-ok P Q (Err e) h f = tt
