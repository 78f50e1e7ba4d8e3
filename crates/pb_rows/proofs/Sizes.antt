-- How large terms are together.
use Rattle.std.proofs.Common.{◌≤◌, ◌*◌, ℕ, List, [], ◌∷◌, length, arith}
use Rattle.std.specs.List.{AllByRecursion}
use Rattle.std.specs.Int.RustNames.{unsigned_abs}
use Rattle.hrt_base.specs.declared.literal.Term.{Term}
use Rattle.pb_rows.specs.Normal.{sizes}

-- terms that are each at most so large sum to at most so much for each of them
pub sizes_within : (most : ℕ) (ts : List Term) → AllByRecursion (λ (t : Term). unsigned_abs t.coef ≤ most) ts → sizes ts ≤ length ts * most
sizes_within most [] h = omega arith
sizes_within most (t ∷ ts) h = omega (arith, h.0, sizes_within most ts h.1)
