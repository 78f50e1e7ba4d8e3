-- Rows by the places at which they are held.
use Rattle.std.proofs.Common.{◌≡◌, ◌==◌, ◌<◌, ◌+◌, ℕ, zero, suc, true, false, List, [], ◌∷◌, ◌++◌, length, get_or, refl, sym, ◌∙◌, arith, inl, inr, add-one}
use Rattle.std.specs.Cmp.{IsEquivalence}
use Rattle.std.specs.List.{All, Contains, IsDistinct}
use Rattle.std.proofs.lemmas.Bool.{cases_eq, eq-eqb, ne_eqb, or_left, eqb-true}
use Rattle.std.proofs.lemmas.List.Folds.{list_any-append}
use Rattle.std.proofs.lemmas.List.Elements.{All-from_recursion, All-head, All-tail, All-push}
use Rattle.std.proofs.lemmas.Map.Keys.{IsDistinct-push, IsDistinct-head, IsDistinct-tail}
use Rattle.row_arena.specs.Held.{AreHeld, Held, IsKept, held_rows, is_held, row_at}

eqb-flips : (a b : ℕ) → (a == b) ≡ (b == a)
eqb-flips a b = elim (cases_eq a b) [
  | inl e ↦ rw e refl
  | inr ne ↦ ne_eqb a b ne ∙ sym (ne_eqb b a (λ e. ne (sym e)))
]

by_place : IsEquivalence (λ (a b : Held). a.place == b.place)
by_place = record {
  refl = λ a. eq-eqb a.place a.place refl;
  symm = λ a b. eqb-flips a.place b.place;
  congr = λ a b c e. let f : a.place ≡ b.place = eqb-true a.place b.place e in rw f refl;
}

-- one more row, at a place that isn't held
pub held-push : (vars : ℕ) (held : List Held) (h : Held) → AreHeld vars held → is_held h.place held ≡ false → IsKept vars h.row → AreHeld vars (held ++ h ∷ [])
held-push vars held h a out k = record {
  distinct = IsDistinct-push by_place held h a.distinct out;
  kept = All-push (λ (x : Held). IsKept vars x.row) held h a.kept k;
}

-- what is held stays held, with its row, where rows are added
pub held-grown : (held more : List Held) (p : ℕ) → is_held p held ≡ true → is_held p (held ++ more) ≡ true
held-grown held more p h = list_any-append (λ (x : Held). p == x.place) held more ∙ or_left _ _ h

pub row_at-grown : (held more : List Held) (p : ℕ) → is_held p held ≡ true → row_at p (held ++ more) ≡ row_at p held
row_at-grown [] more p h = absurd (cc)
row_at-grown (x ∷ held) more p h = elim (cases_eq p x.place) [
  | inl e ↦ rw (eq-eqb p x.place e) refl
  | inr ne ↦ rw (ne_eqb p x.place ne) (row_at-grown held more p (rw (ne_eqb p x.place ne) at h))
]

-- the row at the place of a held row is that row
row-at-get : (held : List Held) → IsDistinct (λ (a b : Held). a.place == b.place) held → (k : ℕ) (d : Held) → k < length held → row_at (get_or held k d).place held ≡ (get_or held k d).row
row-at-get [] d k z h = absurd (omega arith)
row-at-get (x ∷ held) d zero z h = rw (eq-eqb x.place x.place refl) refl
row-at-get (x ∷ held) d (suc k) z h =
    let apart = All-from_recursion (λ (y : Held). (x.place == y.place) ≡ false) held (IsDistinct-head (λ (a b : Held). a.place == b.place) x held d) in
    let here : ((get_or held k z).place == x.place) ≡ false = eqb-flips (get_or held k z).place x.place ∙ apart k z (omega arith) in
    rw here (row-at-get held (IsDistinct-tail (λ (a b : Held). a.place == b.place) x held d) k z (omega arith))

pub row_at-each : (vars : ℕ) (held : List Held) → AreHeld vars held → All (λ (h : Held). row_at h.place held ≡ h.row) held
row_at-each vars held a k d h = row-at-get held a.distinct k d h

-- a row at a place keeps what each row keeps
kept-by : (vars : ℕ) (held : List Held) → All (λ (h : Held). IsKept vars h.row) held → (p : ℕ) → is_held p held ≡ true → IsKept vars (row_at p held)
kept-by vars [] a p h = absurd (cc)
kept-by vars (x ∷ held) a p h = elim (cases_eq p x.place) [
  | inl e ↦ rw (eq-eqb p x.place e) (All-head (λ (y : Held). IsKept vars y.row) x held a)
  | inr ne ↦ rw (ne_eqb p x.place ne) (kept-by vars held (All-tail (λ (y : Held). IsKept vars y.row) x held a) p (rw (ne_eqb p x.place ne) at h))
]

pub kept-at : (vars : ℕ) (held : List Held) → AreHeld vars held → (p : ℕ) → is_held p held ≡ true → IsKept vars (row_at p held)
kept-at vars held a = kept-by vars held a.kept

-- a row at a place is among the rows
pub row_at-contained : (held : List Held) (p : ℕ) → is_held p held ≡ true → Contains (held_rows held) (row_at p held)
row_at-contained [] p h = absurd (cc)
row_at-contained (x ∷ held) p h = elim (cases_eq p x.place) [
  | inl e ↦ rw (eq-eqb p x.place e) (0, omega arith, refl)
  | inr ne ↦ let c = row_at-contained held p (rw (ne_eqb p x.place ne) at h) in rw (ne_eqb p x.place ne) (c.0 + 1, omega arith, rw add-one c.2)
]
