-- Rows of tenants: which one is worst, and what it is to add one.
use Rattle.std.specs.Prelude.{◌≡◌, ℕ, ◌<◌, Bool, not, ◌&&◌, ◌||◌, ◌==◌, nat_lt, List, [], ◌∷◌, length, count_by, slice_index_or, IsTrue}
use Rattle.promotion_heuristic.specs.declared.tenant.Tenant.{Tenant}

-- the tenants of a hospital
abbrev pub row : List (List Tenant) → ℕ → List Tenant
row rows h = slice_index_or rows h []

-- whether x is worse than y: ranked lower, or else unpromoted while y isn't, or else of the greater number
abbrev pub is_worse_tenant : Tenant → Tenant → Bool
is_worse_tenant x y =
    nat_lt y.rank x.rank
    || (x.rank == y.rank && (x.unpromoted && not y.unpromoted || (not (y.unpromoted && not x.unpromoted) && nat_lt y.resident x.resident)))

-- x stands in a row, and no tenant of the row is worse
pub record IsFirst (tenants : List Tenant) (x : Tenant) : Type 0 where
  pub stands : (t : Tenant → Bool) → IsTrue (t x) → 0 < count_by t tenants
  pub none_worse : count_by (λ y. is_worse_tenant y x) tenants ≡ 0

-- the rows are the same ones, but for one more tenant of a hospital, wherever it stands
pub record Adds (old new : List (List Tenant)) (h : ℕ) (tenant : Tenant) : Type 0 where
  pub same_length : length new ≡ length old
  pub there : (t : Tenant → Bool) → count_by t (row new h) ≡ count_by t (tenant ∷ row old h)
  pub elsewhere : (k : ℕ) → (k ≡ h → ⊥) → row new k ≡ row old k
