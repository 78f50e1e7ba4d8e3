-- What a derivation that is ready gives the law of its lines.
use Rattle.std.proofs.Common.{◌≡◌, ℕ, zero, suc, ◌-◌, ◌<◌, [], length, get_or, refl, ◌∙◌, arith}
use Rattle.std.specs.Prelude.{slice_get, Some}
use Rattle.std.proofs.lemmas.Option.{slice_get-get_or}
use Rattle.pb_rows.specs.Terms.{PlainRow}
use Rattle.stability_model.specs.Model.{rows}
use Rattle.proof_rules.specs.States.{IsInOrder}
use Rattle.proof_rules.specs.Held.{NoneIsDeleted}
use Rattle.proof_rules.proofs.Numbers.{live_within}
use Rattle.derivation.specs.Derived.{Derived}
use Rattle.derivation.specs.Ready.{IsReady}
use Rattle.derivation.proofs.InOrder.{end_above}

pub none_deleted : (d : Derived) → IsReady d → NoneIsDeleted d.lists d.state.live d.held
none_deleted d ready = record { model_live = ready.model_live; held_live = ready.held_live }

-- the rows of the model have numbers below the next one
pub model_below : (d : Derived) → IsReady d → IsInOrder d.state → length (rows d.lists) < d.state.next
model_below d ready order = by (length (rows d.lists)) refl
  where
    by : (n : ℕ) → n ≡ length (rows d.lists) → n < d.state.next
    by zero e = omega (arith, end_above 1 d.state.next d.state.live order)
    by (suc k) e =
        let none : PlainRow = record { terms = []; degree = 0 } in
        let at : slice_get (rows d.lists) (suc k - 1) ≡ Some (get_or (rows d.lists) (suc k - 1) none) = slice_get-get_or (rows d.lists) (suc k - 1) none (omega (arith, e)) in
        (live_within (suc k) d.state.next (get_or (rows d.lists) (suc k - 1) none) d.state.live order (ready.model_live (suc k) (omega arith) (omega (arith, e)) ∙ at)).1
