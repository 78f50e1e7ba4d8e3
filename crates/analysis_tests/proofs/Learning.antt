-- What an analysis leaves of an engine and a derivation that agree.
use Rattle.std.proofs.Common.{◌≡◌, true, false, sym, ap, ◌∙◌, arith}
use Rattle.std.proofs.lemmas.Bool.{false_from_ne_true}
use Rattle.pb_rows.specs.Terms.{PlainRow}
use Rattle.pb_rows.specs.Formula.{is_numbered}
use Rattle.hrt_base.specs.declared.numbered.RowNo.{RowNo}
use Rattle.rank_tables.specs.Instance.{Lists}
use Rattle.proof_rules.specs.Held.{Held as HeldNumbers, is_held}
use Rattle.proof_rules.specs.States.{IsInOrder}
use Rattle.derivation.specs.Derived.{Derived}
use Rattle.derivation.proofs.Readiness.{row_numbered}
use Rattle.pb_propagate.specs.Engines.{EngineState}
use Rattle.agreement.proofs.Growing.{derivations_followed, engines_followed}
use Rattle.agreement.proofs.Lines.{cuts_leave}
use Rattle.conflict_cuts.specs.Learned.{Analyzes, IsLeft, NamesContradiction}
use Rattle.conflict_cuts.proofs.Analyzed.{below_next}
use Rattle.analysis_tests.specs.Systems.{IsSystem}

pub analyzed_system : (lists : Lists) (e : EngineState) (old new : Derived) → IsSystem lists e old → IsInOrder old.state → Analyzes old new → IsSystem lists e new
analyzed_system lists e old new system order analyzes = record {
  agree = derivations_followed e old new system.agree (cuts_leave e old new system.agree order analyzes.lines);
  ready = analyzes.ready;
  same = system.same ∙ sym analyzes.lists;
}

-- what is learned wasn't held
pub learned_new : (lists : Lists) (e : EngineState) (old new : Derived) (id : RowNo) (row : PlainRow) → IsSystem lists e old → IsInOrder old.state → Analyzes old new → IsLeft old new id row → is_held new.held id.0 ≡ false
learned_new lists e old new id row system order analyzes left =
    ap (λ (h : HeldNumbers). is_held h id.0) analyzes.held
    ∙ false_from_ne_true (is_held old.held id.0) (λ h. let below = below_next id.0 old.state.next old.state.live order (system.ready.held_live id.0 h) in omega (arith, below, left.later))

pub root_live : (old new : Derived) (id : RowNo) → NamesContradiction old new id → is_numbered id.0 new.state.live ≡ true
root_live old new id names = row_numbered id.0 names.row new.state.live names.left.live

-- an engine that moves and holds what it held
pub moved_system : (lists : Lists) (e f : EngineState) (d : Derived) → IsSystem lists e d → f.vars ≡ e.vars → f.held ≡ e.held → IsSystem lists f d
moved_system lists e f d system vars held = record { agree = engines_followed e f d system.agree (record { vars = vars; held = held }); ready = system.ready; same = system.same }
