-- Engines and derivations of tests.
use Rattle.std.specs.Prelude.{◌≡◌, ◌<◌, ◌==◌, ◌||◌, ℕ, IsTrue}
use Rattle.rank_tables.specs.Instance.{Lists}
use Rattle.proof_rules.specs.Held.{is_held}
use Rattle.derivation.specs.Derived.{Derived}
use Rattle.derivation.specs.Ready.{IsReady}
use Rattle.pb_propagate.specs.Engines.{EngineState}
use Rattle.agreement.specs.Agreement.{Agree}

-- the engine holds what the derivation of the model holds, and more rows can be laid down
pub record IsSystem (lists : Lists) (e : EngineState) (d : Derived) : Type 0 where
  pub agree : Agree e d
  pub ready : IsReady d
  pub same : lists ≡ d.lists

-- each held number is below this one
abbrev pub IsBelow : ℕ → Derived → Type 0
IsBelow k d = (n : ℕ) → IsTrue (is_held d.held n) → n < k

-- one number is held besides
abbrev pub HoldsOneMore : ℕ → Derived → Derived → Type 0
HoldsOneMore k old new = (n : ℕ) → is_held new.held n ≡ (is_held old.held n || (k == n))
