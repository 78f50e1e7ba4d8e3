-- Places as where rows stand in the list.
use Rattle.std.proofs.Common.{◌≡◌, ◌≤◌, ◌<◌, ◌+◌, ℕ, zero, suc, true, false, List, [], ◌∷◌, ◌++◌, length, get_or, refl, sym, ◌∙◌, ap, subst, arith, inl, inr}
use Rattle.std.proofs.lemmas.Bool.{cases_eq, eq-eqb, false_from_ne_true, ne_eqb}
use Rattle.row_arena.specs.declared.arena.Stored.{Stored}
use Rattle.row_arena.specs.Held.{AreHeld, Held, HeldRows, IsKept, is_held, row_at, tag_at}
use Rattle.row_arena.proofs.Places.{held-push, kept-at}
use Rattle.std.specs.List.{IsDistinct}
use Rattle.std.proofs.lemmas.List.Elements.{All-nil}
use Rattle.row_arena.specs.Stored.{kept_row, placed_from}

pub held-within : (n : ℕ) (rows : List Stored) (p : ℕ) → is_held p (placed_from n rows) ≡ true → (n ≤ p) × (p < n + length rows)
held-within n [] p h = absurd (cc)
held-within n (s ∷ rows) p h = elim (cases_eq p n) [
  | inl e ↦ (omega (arith, e), omega (arith, e))
  | inr ne ↦ let r = held-within (n + 1) rows p (rw (ne_eqb p n ne) at h) in (omega (arith, r.0), omega (arith, r.1))
]

pub not-held : (n : ℕ) (rows : List Stored) → is_held (n + length rows) (placed_from n rows) ≡ false
not-held n rows = false_from_ne_true _ (λ e. let w = held-within n rows (n + length rows) e in absurd (omega (arith, w.1)))

row-placed : (n : ℕ) (rows : List Stored) (k : ℕ) (d : Stored) → k < length rows → row_at (n + k) (placed_from n rows) ≡ kept_row (get_or rows k d)
row-placed n [] k d h = absurd (omega arith)
row-placed n (s ∷ rows) zero d h = rw (eq-eqb (n + 0) n (omega arith)) refl
row-placed n (s ∷ rows) (suc k) d h =
    let e : n + suc k ≡ (n + 1) + k = omega arith in
    rw (ne_eqb (n + suc k) n (λ f. absurd (omega (arith, f)))) (subst (λ (q : ℕ). row_at q (placed_from (n + 1) rows) ≡ kept_row (get_or rows k d)) (sym e) (row-placed (n + 1) rows k d (omega arith)))

tag-placed : (n : ℕ) (rows : List Stored) (k : ℕ) (d : Stored) → k < length rows → tag_at (n + k) (placed_from n rows) ≡ (get_or rows k d).tag.0
tag-placed n [] k d h = absurd (omega arith)
tag-placed n (s ∷ rows) zero d h = rw (eq-eqb (n + 0) n (omega arith)) refl
tag-placed n (s ∷ rows) (suc k) d h =
    let e : n + suc k ≡ (n + 1) + k = omega arith in
    rw (ne_eqb (n + suc k) n (λ f. absurd (omega (arith, f)))) (subst (λ (q : ℕ). tag_at q (placed_from (n + 1) rows) ≡ (get_or rows k d).tag.0) (sym e) (tag-placed (n + 1) rows k d (omega arith)))

-- ---- from place 0 on

pub place-within : (rows : List Stored) (p : ℕ) → is_held p (placed_from 0 rows) ≡ true → p < length rows
place-within rows p h = let w = held-within 0 rows p h in omega (arith, w.1)

pub row-here : (rows : List Stored) (p : ℕ) (d : Stored) → p < length rows → row_at p (placed_from 0 rows) ≡ kept_row (get_or rows p d)
row-here rows p d h =
    let e : 0 + p ≡ p = omega arith in
    subst (λ (q : ℕ). row_at q (placed_from 0 rows) ≡ kept_row (get_or rows p d)) e (row-placed 0 rows p d h)

pub tag-here : (rows : List Stored) (p : ℕ) (d : Stored) → p < length rows → tag_at p (placed_from 0 rows) ≡ (get_or rows p d).tag.0
tag-here rows p d h =
    let e : 0 + p ≡ p = omega arith in
    subst (λ (q : ℕ). tag_at q (placed_from 0 rows) ≡ (get_or rows p d).tag.0) e (tag-placed 0 rows p d h)

pub next-not-held : (rows : List Stored) → is_held (length rows) (placed_from 0 rows) ≡ false
next-not-held rows =
    let e : 0 + length rows ≡ length rows = omega arith in
    subst (λ (q : ℕ). is_held q (placed_from 0 rows) ≡ false) e (not-held 0 rows)

-- ---- one more

abbrev held_as : ℕ → Stored → Held
held_as p s = record { place = p; row = kept_row s; tag = s.tag.0 }

placed-more : (n : ℕ) (rows : List Stored) (s : Stored) → placed_from n (rows ++ s ∷ []) ≡ placed_from n rows ++ held_as (n + length rows) s ∷ []
placed-more n [] s = let e : n ≡ n + 0 = omega arith in ap (λ (p : ℕ). held_as p s ∷ []) e
placed-more n (x ∷ rows) s =
    let e : (n + 1) + length rows ≡ n + suc (length rows) = omega arith in
    ap (λ (hs : List Held). held_as n x ∷ hs) (placed-more (n + 1) rows s ∙ ap (λ (p : ℕ). placed_from (n + 1) rows ++ held_as p s ∷ []) e)

pub placed-push : (rows : List Stored) (s : Stored) → placed_from 0 (rows ++ s ∷ []) ≡ placed_from 0 rows ++ held_as (length rows) s ∷ []
placed-push rows s =
    let e : 0 + length rows ≡ length rows = omega arith in
    placed-more 0 rows s ∙ ap (λ (p : ℕ). placed_from 0 rows ++ held_as p s ∷ []) e

-- ---- what a view shows

abbrev shows : ℕ → List Stored → HeldRows
shows vars rows = record { vars = vars; held = placed_from 0 rows }

pub place-in : (vars : ℕ) (rows : List Stored) (view : HeldRows) (p : ℕ) → shows vars rows ≡ view → is_held p view.held ≡ true → p < length rows
place-in vars rows view p e h = place-within rows p (subst (λ (a : HeldRows). is_held p a.held ≡ true) (sym e) h)

pub row-in : (vars : ℕ) (rows : List Stored) (view : HeldRows) (p : ℕ) (s : Stored) → shows vars rows ≡ view → is_held p view.held ≡ true → s ≡ get_or rows p s → kept_row s ≡ row_at p view.held
row-in vars rows view p s e h is =
    ap (λ (x : Stored). kept_row x) is ∙ sym (row-here rows p s (place-in vars rows view p e h)) ∙ ap (λ (a : HeldRows). row_at p a.held) e

pub tag-in : (vars : ℕ) (rows : List Stored) (view : HeldRows) (p : ℕ) (s : Stored) → shows vars rows ≡ view → is_held p view.held ≡ true → s ≡ get_or rows p s → s.tag.0 ≡ tag_at p view.held
tag-in vars rows view p s e h is =
    ap (λ (x : Stored). x.tag.0) is ∙ sym (tag-here rows p s (place-in vars rows view p e h)) ∙ ap (λ (a : HeldRows). tag_at p a.held) e

pub kept-in : (vars : ℕ) (rows : List Stored) (view : HeldRows) (p : ℕ) → shows vars rows ≡ view → AreHeld vars (placed_from 0 rows) → is_held p view.held ≡ true → IsKept view.vars (row_at p view.held)
kept-in vars rows view p e a h =
    let k = kept-at vars (placed_from 0 rows) a p (subst (λ (v : HeldRows). is_held p v.held ≡ true) (sym e) h) in
    subst (λ (v : HeldRows). IsKept v.vars (row_at p v.held)) e k

pub none-held : (vars : ℕ) → AreHeld vars []
unfolding IsDistinct
none-held vars = record { distinct = tt; kept = All-nil _ }

-- ---- a row comes behind

pub arena-push : (vars : ℕ) (rows : List Stored) (s : Stored) → AreHeld vars (placed_from 0 rows) → IsKept vars (kept_row s) → AreHeld vars (placed_from 0 (rows ++ s ∷ []))
arena-push vars rows s a k = subst (AreHeld vars) (sym (placed-push rows s)) (held-push vars (placed_from 0 rows) (held_as (length rows) s) a (next-not-held rows) k)

pub view-push : (vars : ℕ) (rows : List Stored) (s : Stored) (view : HeldRows) → shows vars rows ≡ view
    → shows vars (rows ++ s ∷ []) ≡ record { vars = view.vars; held = view.held ++ record { place = length rows; row = kept_row s; tag = s.tag.0 } ∷ [] }
view-push vars rows s view e =
    ap (λ (hs : List Held). let v : HeldRows = record { vars = vars; held = hs } in v) (placed-push rows s)
    ∙ ap (λ (v : HeldRows). let w : HeldRows = record { vars = v.vars; held = v.held ++ held_as (length rows) s ∷ [] } in w) e
