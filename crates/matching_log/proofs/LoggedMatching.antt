-- What logging a matching leaves.
use Rattle.std.proofs.Common.{◌≡◌, ℕ, if◌then◌else◌, List, [], ◌∷◌, ◌++◌, sym, ap, ap₂, ◌∙◌}
use Rattle.std.specs.Prelude.{Some, None, Result, Ok, Err}
use Rattle.hrt_base.specs.declared.literal.Lit.{Lit}
use Rattle.hrt_base.specs.declared.numbered.RowNo.{RowNo}
use Rattle.pb_rows.specs.Points.{Point, value_at}
use Rattle.pb_rows.specs.Formula.{Formula, row_of}
use Rattle.rank_tables.specs.Instance.{Lists, pair_count}
use Rattle.stability_model.specs.Model.{formula, objective}
use Rattle.proof_lines.specs.declared.line.Line.TheVariants.{Soli}
use Rattle.proof_lines.specs.Texts.{line_text}
use Rattle.proof_rules.specs.Refusals.{NotFull, Refusal}
use Rattle.proof_rules.specs.States.{IsInOrder, State, after, if_hold, is_full, logged, named_point}
use Rattle.proof_rules.specs.Held.{keeping}
use Rattle.proof_rules.proofs.Made.{made_hold, made_if, made_known}
use Rattle.derivation.specs.Derived.{Derived}
use Rattle.derivation.specs.Steps.{IsWritable, Takes, literals_at}
use Rattle.derivation.proofs.Readiness.{row_last}
use Rattle.derivation.proofs.Solutions.{value_same}
use Rattle.matching_log.specs.Logged.{Logs, larger_row, value_of}

pub same_state : (s t : State) → ◌≡◌ {A = Result State Refusal} (Ok s) (Ok t) → s ≡ t
same_state s t e = cc

-- the line of a solution leads to the state in which its value is logged
after_logged : (f : Formula) (s t : State) (ls : List Lit) → after f s (Soli ls) ≡ Ok t → t ≡ logged f s (value_at (named_point ls) f.objective)
after_logged f s t ls e =
    let made : Result State Refusal = Ok (logged f s (value_at (named_point ls) f.objective)) in
    let known = made_known f.vars ls (if is_full f.vars ls then if_hold (named_point ls) 1 f.rows made else Err NotFull) t e in
    let full = made_if (is_full f.vars ls) (if_hold (named_point ls) 1 f.rows made) NotFull t known in
    sym (same_state (logged f s (value_at (named_point ls) f.objective)) t (made_hold (named_point ls) 1 f.rows made t full.1).1)

pub logs : (size n : ℕ) (p : Point) (id : RowNo) (old new : Derived) → n ≡ pair_count old.lists → value_at p (objective old.lists) ≡ value_of size → id.0 ≡ old.state.next →
    IsWritable (Soli (literals_at n p)) → old.claim ≡ None → Takes (Soli (literals_at n p)) old new → Logs size id old new
logs size n p id old new count value number writable unconcluded taken = record {
  number = number;
  text = line_text (Soli (literals_at n p));
  is = taken.is ∙ ap (λ (s : State). record old { state = s; held = keeping (old.state.next ∷ []) old.held; pending = old.pending ++ line_text (Soli (literals_at n p)) }) state_is;
  adds = (literals_at n p, record { writable = writable; unconcluded = unconcluded; takes = taken });
}
  where
    value_is : value_at (named_point (literals_at n p)) (objective old.lists) ≡ value_of size
    value_is = ap (λ (k : ℕ). value_at (named_point (literals_at k p)) (objective old.lists)) count ∙ value_same old.lists p ∙ value

    state_is : new.state ≡ logged (formula old.lists) old.state (value_of size)
    state_is = after_logged (formula old.lists) old.state new.state (literals_at n p) taken.step.leads ∙ ap (logged (formula old.lists) old.state) value_is

-- ---- what it leaves

pub larger_live : (size : ℕ) (id : RowNo) (old new : Derived) → Logs size id old new → IsInOrder old.state → row_of id.0 new.state.live ≡ Some (larger_row new.lists size)
larger_live size id old new logs order =
    ap₂ (λ (k : ℕ) (d : Derived). row_of k d.state.live) logs.number logs.is ∙ row_last old.state.next (larger_row old.lists size) old.state.live order
    ∙ ap (λ (l : Lists). Some (larger_row l size)) (sym (ap (λ (d : Derived). d.lists) logs.is))
