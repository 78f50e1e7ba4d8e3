-- What a state shows, from the answers of its parts.
use Rattle.std.proofs.Common.{◌≡◌, ◌↔◌, ◌⊎◌, ◌≤◌, ◌<◌, ◌+◌, ◌^◌, ℕ, suc, ℤ, pos, negsuc, neg_ℤ, ◌≤ℤ◌, ◌<ℤ◌, Bool, true, false, inl, inr, refl, subst, arith}
use Rattle.std.specs.Prelude.{Option, Some, None, is_some}
use Rattle.std.proofs.lemmas.Int.{ints}
use Rattle.pb_rows.specs.Terms.{PlainRow}
use Rattle.pb_rows.specs.Normal.{all_sizes, sizes}
use Rattle.pb_rows.specs.Closure.{Implies}
use Rattle.pb_rows.specs.Formula.{Formula}
use Rattle.proof_rules.specs.States.{State, live_rows}
use Rattle.proof_rules.specs.Claims.{HasStronger, IsUnpassed, ShowsLower, ShowsNone, at_least_row}
use Rattle.proof_rules.specs.Sound.{IsSoundState}
use Rattle.proof_rules.proofs.FarBounds.{shown-above, shown-above_from, shown-below}

-- one of two, where the other isn't so
pub or_other : (b : Bool) (P Q : Type 0) → ((b ≡ true) ↔ P) → (Q → ⊥) → (b ≡ true) ↔ (P ⊎ Q)
or_other b P Q h none = (λ e. inl (h.0 e), λ k. elim k [ inl p ↦ h.1 p | inr q ↦ absurd (none q) ])

pub not_some : {A : Type 0} (o : Option A) → is_some o ≡ false → o ≡ None
not_some None e = refl
not_some (Some x) e = absurd (cc e)

-- nothing is logged
pub none_shown : (b : Bool) (s : State) (P : Type 0) → s.least ≡ None → ((b ≡ true) ↔ P) → (b ≡ true) ↔ ((s.least ≡ None) × P)
none_shown b s P e h = (λ k. (e, h.0 k), λ k. h.1 k.1)

-- ---- lower bounds

-- the row of a bound that no value logged passes
pub row_shown : (f : Formula) (s : State) (l : ℤ) (row : PlainRow) (b : Bool) → IsUnpassed s.least l → row ≡ at_least_row f l → ((b ≡ true) ↔ (Implies (live_rows s) row ⊎ HasStronger s row)) → (b ≡ true) ↔ ShowsLower f s (Some l)
row_shown f s l row b u e h = subst (λ (r : PlainRow). (b ≡ true) ↔ (IsUnpassed s.least l × (Implies (live_rows s) r ⊎ HasStronger s r))) e (λ k. (u, h.0 k), λ k. h.1 k.1)

far_below : (n s : ℕ) → s ≤ 2 ^ 119 → 2 ^ 120 < s + suc n → negsuc n ≤ℤ neg_ℤ (pos s)
far_below n s h k = omega (arith, ints)

far_above : (n s : ℕ) → s ≤ 2 ^ 119 → 2 ^ 120 < s + n → pos s <ℤ pos n
far_above n s h k = omega (arith, ints)

not_negative : (n : ℕ) → pos n <ℤ pos 0 → ⊥
not_negative n h = omega (arith, ints)

-- a bound that is beyond all values
pub far_shown : (f : Formula) (s : State) (l : ℤ) (b : Bool) → IsSoundState f s → sizes f.objective ≤ 2 ^ 119 → 2 ^ 120 < all_sizes f.objective l → ((b ≡ true) ↔ ((l <ℤ pos 0) ⊎ ShowsNone s)) → (b ≡ true) ↔ ShowsLower f s (Some l)
far_shown f s (pos n) b sound few beyond h = (
  λ e. elim (h.0 e) [ inl neg ↦ absurd (not_negative n neg) | inr none ↦ shown-above_from f s (pos n) none.0 none.1 ],
  λ k. h.1 (inr (shown-above f s (pos n) sound (far_above n (sizes f.objective) few beyond) k)),
)
far_shown f s (negsuc n) b sound few beyond h = (
  λ e. shown-below f s (negsuc n) sound (far_below n (sizes f.objective) few beyond),
  λ k. h.1 (inl (omega (arith, ints))),
)
