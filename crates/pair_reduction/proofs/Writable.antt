-- The line of an offer can be written.
use Rattle.std.proofs.Common.{◌≡◌, ℕ, ◌+◌, ◌*◌, ◌≤◌, ◌^◌, Bool, true, false, List, [], ◌∷◌, if◌then◌else◌, length, pos, arith}
use Rattle.std.specs.Prelude.{flat_map, Option, Some, None, IfSome}
use Rattle.hrt_base.specs.declared.numbered.RowNo.{RowNo}
use Rattle.pb_rows.specs.Formula.{NumberedRow, row_of}
use Rattle.proof_lines.specs.declared.line.PolStep.TheVariants.{Id, Times, Add}
use Rattle.proof_rules.specs.States.{AreNumbered}
use Rattle.derivation.specs.Deletions.{AreUnitRows, Deletions, unit_row_no, unit_row}
use Rattle.derivation.proofs.Writable.{AreGood, add_good, good_append, good_less, live_good, none_good, times_good}
use Rattle.pair_reduction.specs.Offers.{unit_steps}

module _ (live : List NumberedRow) (next : ℕ) (order : AreNumbered 1 next live) (few : next ≤ 10 ^ 18) where
  module _ (c : ℕ) (some : 1 ≤ c) (most : c ≤ 20000) where
    unit_good : (o : Option RowNo) (p : ℕ) → IfSome o (λ id. row_of id.0 live ≡ Some (unit_row p)) → AreGood (unit_steps c o) 29
    unit_good None p h = none_good 29
    unit_good (Some id) p h = good_append (Id id ∷ []) (Times (pos c) ∷ Add ∷ []) 19 10 (live_good live next order few id (unit_row p) h) (good_append (Times (pos c) ∷ []) (Add ∷ []) 8 2 (times_good c some most) add_good)

    if_good : (b : Bool) (o : Option RowNo) (p : ℕ) → IfSome o (λ id. row_of id.0 live ≡ Some (unit_row p)) → AreGood (if b then unit_steps c o else []) 29
    if_good true o p h = unit_good o p h
    if_good false o p h = none_good 29

    pub each_good : (counted : ℕ → Bool) (deletions : Deletions) → AreUnitRows live deletions → (ps : List ℕ) → AreGood (flat_map (λ p. if counted p then unit_steps c (unit_row_no deletions p) else []) ps) (29 * length ps)
    each_good counted deletions units [] = none_good 0
    each_good counted deletions units (p ∷ ps) =
        good_less (flat_map (λ p. if counted p then unit_steps c (unit_row_no deletions p) else []) (p ∷ ps)) (29 + 29 * length ps) (29 * length (p ∷ ps)) (omega arith)
        (good_append (if counted p then unit_steps c (unit_row_no deletions p) else []) (flat_map (λ p. if counted p then unit_steps c (unit_row_no deletions p) else []) ps) 29 (29 * length ps)
        (if_good (counted p) (unit_row_no deletions p) p (units p)) (each_good counted deletions units ps))
