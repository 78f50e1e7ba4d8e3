-- Rows that are kept as heaps.
use Rattle.std.proofs.Common.{◌≡◌, ℕ, zero, suc, ◌<◌, Bool, true, false, nat_lt, List, [], ◌∷◌, length, map, set, get_or, count_by, Option, Some, None, IfSome, IfNone, IsSome, ◌↔◌, MatchOption, All, Bor, refl, sym, ap, ◌∙◌, subst, arith}
use Rattle.std.specs.BinaryHeap.{heap_items, heap_len, IsHeap, IsUpperBound, PopsGreatest, HeapUnchanged}
use Rattle.std.specs.List.Sorted.{IsPermutation}
use Rattle.std.specs.Option.{option_copied}
use Rattle.std.specs.Ordering.{is_lt}
use Rattle.std.specs.Slice.{IsItemAt}
use Rattle.std.specs.Global.{Global}
use Rattle.std.specs.declared.collections.BinaryHeap.{BinaryHeap}
use Rattle.std.proofs.lemmas.Bool.{true≢false, ltb-true, lt-ltb, le-ltb}
use Rattle.std.proofs.lemmas.Bool.Decides.{nat_tests}
use Rattle.std.proofs.lemmas.List.{length-map, length-set, get_or-map, map-set, get_or-set_same, get_or-set_other}
use Rattle.std.proofs.lemmas.List.Elements.{All-set}
use Rattle.std.proofs.lemmas.List.Sorted.{sum_by_pushed, sum_by_popped}
use Rattle.std.proofs.lemmas.List.Sums.{sum_by-cons}
use Rattle.promotion_heuristic.specs.declared.tenant.Tenant.{Tenant}
use Rattle.promotion_heuristic.specs.Heaps.{items_of, by_worth, IsOrdered}
use Rattle.promotion_heuristic.specs.Queues.{row, is_worse_tenant, IsFirst, Adds}
use Rattle.promotion_heuristic.proofs.Counting.{one_if}

abbrev Heap : Type 0
Heap = BinaryHeap Tenant Global

-- ---- the order

abbrev worse : ℕ → Bool → ℕ → ℕ → Bool → ℕ → Bool
worse m a r n b s = is_worse_tenant (record { rank = m; unpromoted = a; resident = r }) (record { rank = n; unpromoted = b; resident = s })

abbrev less : ℕ → Bool → ℕ → ℕ → Bool → ℕ → Bool
less m a r n b s = is_lt (by_worth (record { rank = m; unpromoted = a; resident = r }) (record { rank = n; unpromoted = b; resident = s }))

not_less : (m : ℕ) (a : Bool) (r n : ℕ) (b : Bool) (s : ℕ) → less n b s m a r ≡ false → worse m a r n b s ≡ false
not_less m true r n true s h = grind (arith, nat_tests)
not_less m true r n false s h = grind (arith, nat_tests)
not_less m false r n true s h = grind (arith, nat_tests)
not_less m false r n false s h = grind (arith, nat_tests)

not_worse : (x y : Tenant) → is_lt (by_worth x y) ≡ false → is_worse_tenant y x ≡ false
not_worse x y h = not_less y.rank y.unpromoted y.resident x.rank x.unpromoted x.resident h

bound-none_worse : (x : Tenant) (ys : List Tenant) → IsUpperBound by_worth x ys → count_by (λ y. is_worse_tenant y x) ys ≡ 0
bound-none_worse x [] h = refl
bound-none_worse x (y ∷ ys) h =
    omega (arith, sum_by-cons (λ y. one_if (is_worse_tenant y x)) y ys, ap one_if (not_worse x y h.0), bound-none_worse x ys h.1)

-- the top of a heap is first
pub top-first : (items : List Tenant) (x : Tenant) → 0 < length items → x ≡ get_or items 0 x → IsUpperBound by_worth x items → IsFirst items x
top-first [] x l e h = absurd (omega arith)
top-first (y ∷ ys) x l e h = record {
  stands = λ t passes. omega (arith, sum_by-cons (λ y. one_if (t y)) y ys, ap (λ z. one_if (t z)) (sym e), ap one_if passes);
  none_worse = bound-none_worse x (y ∷ ys) h;
}

none_there : {A : Type 0} (items : List A) → false ≡ nat_lt 0 (length items) → items ≡ []
none_there [] e = refl
none_there (x ∷ items) e = absurd (true≢false (sym (lt-ltb 0 (suc (length items)) (omega arith)) ∙ sym e))

pub peeked : (items : List Tenant) (r : Option (Bor Tenant)) → IsItemAt items 0 r → IfSome r (λ x. x.now ≡ get_or items 0 x.now) →
    IfSome r (λ x. IsHeap by_worth items → IsUpperBound by_worth x.now items) → IsHeap by_worth items → MatchOption (option_copied r) (items ≡ []) (IsFirst items)
peeked items None at e h heap = none_there items at.0
peeked items (Some x) at e h heap = top-first items x.now (ltb-true 0 (length items) (sym at.0)) e (h heap)

-- ---- rows

pub row-at : (heaps : List Heap) (h : ℕ) (d : Heap) → h < length heaps → row (map items_of heaps) h ≡ items_of (get_or heaps h d)
row-at heaps h d l = get_or-map items_of heaps h d [] l

row-set_same : (heaps : List Heap) (h : ℕ) (x : Heap) → h < length heaps → row (map items_of (set heaps h x)) h ≡ items_of x
row-set_same heaps h x l =
    ap (λ rows. row rows h) (map-set items_of heaps h x) ∙ get_or-set_same (map items_of heaps) h (items_of x) [] (let e = length-map heaps items_of in omega arith)

row-set_other : (heaps : List Heap) (h k : ℕ) (x : Heap) → (k ≡ h → ⊥) → row (map items_of (set heaps h x)) k ≡ row (map items_of heaps) k
row-set_other heaps h k x apart = ap (λ rows. row rows k) (map-set items_of heaps h x) ∙ get_or-set_other (map items_of heaps) h k (items_of x) [] apart

rows-length : (heaps : List Heap) (h : ℕ) (x : Heap) → length (map items_of (set heaps h x)) ≡ length (map items_of heaps)
rows-length heaps h x = length-map (set heaps h x) items_of ∙ length-set heaps h x ∙ sym (length-map heaps items_of)

pub pushed-adds : (heaps : List Heap) (h : ℕ) (old new : Heap) (tenant : Tenant) → h < length heaps → old ≡ get_or heaps h old →
    IsPermutation (tenant ∷ heap_items old) (heap_items new) → Adds (map items_of heaps) (map items_of (set heaps h new)) h tenant
pushed-adds heaps h old new tenant l e p = record {
  same_length = rows-length heaps h new;
  there = λ t.
      let before : count_by t (row (map items_of heaps) h) ≡ count_by t (heap_items old) = ap (count_by t) (row-at heaps h old l ∙ ap items_of (sym e)) in
      let after : count_by t (row (map items_of (set heaps h new)) h) ≡ count_by t (heap_items new) = ap (count_by t) (row-set_same heaps h new l) in
      let more = sum_by_pushed (λ x. one_if (t x)) tenant (heap_items old) (heap_items new) p in
      omega (arith, sum_by-cons (λ x. one_if (t x)) tenant (row (map items_of heaps) h));
  elsewhere = λ k apart. row-set_other heaps h k new apart;
}

pub popped-adds : (heaps : List Heap) (h : ℕ) (old new : Heap) (tenant : Tenant) → h < length heaps → old ≡ get_or heaps h old →
    IsPermutation (heap_items old) (tenant ∷ heap_items new) → Adds (map items_of (set heaps h new)) (map items_of heaps) h tenant
popped-adds heaps h old new tenant l e p = record {
  same_length = sym (rows-length heaps h new);
  there = λ t.
      let before : count_by t (row (map items_of heaps) h) ≡ count_by t (heap_items old) = ap (count_by t) (row-at heaps h old l ∙ ap items_of (sym e)) in
      let after : count_by t (row (map items_of (set heaps h new)) h) ≡ count_by t (heap_items new) = ap (count_by t) (row-set_same heaps h new l) in
      let less = sum_by_popped (λ x. one_if (t x)) tenant (heap_items old) (heap_items new) p in
      omega (arith, sum_by-cons (λ x. one_if (t x)) tenant (row (map items_of (set heaps h new)) h));
  elsewhere = λ k apart. sym (row-set_other heaps h k new apart);
}

pub ordered-at : (heaps : List Heap) (h : ℕ) (old : Heap) → h < length heaps → old ≡ get_or heaps h old → All IsOrdered heaps → IsOrdered old
ordered-at heaps h old l e o = subst IsOrdered (sym e) (o h old l)

pub rows-empty : (heaps : List Heap) → All (λ row. items_of row ≡ []) heaps → (h : ℕ) → row (map items_of heaps) h ≡ []
rows-empty [] o h = refl
rows-empty (x ∷ heaps) o zero = o 0 x (omega arith)
rows-empty (x ∷ heaps) o (suc h) = rows-empty heaps (λ k d l. o (suc k) d (omega arith)) h

pub popped : (heaps : List Heap) (h : ℕ) (old new : Heap) (r : Option Tenant) → h < length heaps → old ≡ get_or heaps h old → All IsOrdered heaps →
    IfNone r (heap_len old ≡ 0) → (IsSome r ↔ (0 < heap_len old)) → IfSome r (λ x. x ≡ get_or (heap_items old) 0 x) →
    IfSome r (λ x. IsPermutation (heap_items old) (x ∷ heap_items new)) → IfSome r (λ x. PopsGreatest by_worth (heap_items old) x (heap_items new)) →
    MatchOption r (row (map items_of heaps) h ≡ []) (λ x. IsFirst (row (map items_of heaps) h) x × Adds (map items_of (set heaps h new)) (map items_of heaps) h x)
popped heaps h old new None l e o none some top p order =
    row-at heaps h old l ∙ ap items_of (sym e) ∙ none_there (heap_items old) (sym (le-ltb 0 (length (heap_items old)) (omega (arith, old.data.ok.0))))
popped heaps h old new (Some x) l e o none some top p order =
    let here : row (map items_of heaps) h ≡ heap_items old = row-at heaps h old l ∙ ap items_of (sym e) in
    let full : 0 < length (heap_items old) = let more : 0 < heap_len old = some.0 refl in omega (arith, old.data.ok.0) in
    (subst (λ (items : List Tenant). IsFirst items x) (sym here) (top-first (heap_items old) x full top (order (ordered-at heaps h old l e o)).1), popped-adds heaps h old new x l e p)

pub popped-ordered : (heaps : List Heap) (h : ℕ) (old new : Heap) (r : Option Tenant) → h < length heaps → old ≡ get_or heaps h old → All IsOrdered heaps →
    IfSome r (λ x. PopsGreatest by_worth (heap_items old) x (heap_items new)) → IfNone r (HeapUnchanged old new) → All IsOrdered (set heaps h new)
popped-ordered heaps h old new None l e o order same =
    All-set IsOrdered heaps h new (subst (IsHeap by_worth) (sym same.0) (ordered-at heaps h old l e o)) o
popped-ordered heaps h old new (Some x) l e o order same = All-set IsOrdered heaps h new (order (ordered-at heaps h old l e o)).0 o
