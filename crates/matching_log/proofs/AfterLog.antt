-- What is so of a derivation after a matching was logged, and after the bound was closed.
use Rattle.std.proofs.Common.{◌≡◌, ℕ, ◌==◌, true, false, List, [], ◌∷◌, ◌++◌, refl, sym, ap, ◌∙◌, subst, inl, inr}
use Rattle.std.specs.Prelude.{ℤ, Some}
use Rattle.std.proofs.lemmas.Bool.{eq-eqb, eqb-true, or_cases, or_left, or_right}
use Rattle.hrt_base.specs.declared.numbered.RowNo.{RowNo}
use Rattle.pb_rows.specs.Terms.{PlainRow}
use Rattle.pb_rows.specs.Rows.{add}
use Rattle.pb_rows.specs.Formula.{NumberedRow, is_numbered, row_of}
use Rattle.rank_tables.specs.Numbers.{is_in}
use Rattle.proof_rules.specs.Held.{Held, is_held, keeping}
use Rattle.proof_rules.specs.States.{IsInOrder}
use Rattle.proof_rules.proofs.Held.{is_held-keeping}
use Rattle.proof_rules.proofs.HeldLive.{held_live-keeping}
use Rattle.derivation.specs.Derived.{Derived}
use Rattle.derivation.specs.Ready.{IsReady}
use Rattle.derivation.specs.Steps.{with_new_row, with_solution}
use Rattle.derivation.proofs.Readiness.{ready_row, row_front, row_last}
use Rattle.matching_log.specs.Logged.{Closes, Logs, ceiling_row, larger_row}

-- ---- a row that is held

pub last_held : (held : Held) (k n : ℕ) → n ≡ k → is_held (keeping (k ∷ []) held) n ≡ true
last_held held k n e = is_held-keeping held (k ∷ []) n ∙ or_right (is_held held n) (is_in n (k ∷ [])) (or_left (k == n) false (eq-eqb k n (sym e)))

pub still_held : (held : Held) (k n : ℕ) → is_held held n ≡ true → is_held (keeping (k ∷ []) held) n ≡ true
still_held held k n h = is_held-keeping held (k ∷ []) n ∙ or_left (is_held held n) (is_in n (k ∷ [])) h

-- ---- readiness

last_numbered : (n : ℕ) (row : PlainRow) (live : List NumberedRow) → is_numbered n (live ++ record { number = n; row = row } ∷ []) ≡ true
last_numbered n row [] = or_left (n == n) false (eq-eqb n n refl)
last_numbered n row (entry ∷ live) = or_right (entry.number == n) (is_numbered n (live ++ record { number = n; row = row } ∷ [])) (last_numbered n row live)

only_last : (n k : ℕ) (row : PlainRow) (live : List NumberedRow) → is_in n (k ∷ []) ≡ true → is_numbered n (live ++ record { number = k; row = row } ∷ []) ≡ true
only_last n k row live i = elim (or_cases (k == n) false i) [
  | inl e ↦ subst (λ (j : ℕ). is_numbered j (live ++ record { number = k; row = row } ∷ []) ≡ true) (eqb-true k n e) (last_numbered k row live)
  | inr e ↦ absurd (cc)
]

ready_solution : (v : ℤ) (row : PlainRow) (text : List ℕ) (d : Derived) → IsReady d → IsReady (with_solution v row text d)
ready_solution v row text d ready =
    let pushed : IsReady (with_new_row row text d) = ready_row row text d ready in
    record {
      unconcluded = ready.unconcluded;
      model_live = pushed.model_live;
      held_live = held_live-keeping d.held (d.state.next ∷ []) (d.state.live ++ record { number = d.state.next; row = row } ∷ []) (λ n i. only_last n d.state.next row d.state.live i) pushed.held_live;
    }

pub ready_logged : (size : ℕ) (id : RowNo) (old new : Derived) → Logs size id old new → IsReady old → IsReady new
ready_logged size id old new logs ready = subst IsReady (sym logs.is) (ready_solution _ _ _ old ready)

pub ready_closed : (size : ℕ) (bound larger id : RowNo) (old new : Derived) → Closes size bound larger id old new → IsReady old → IsReady new
ready_closed size bound larger id old new closes ready = subst IsReady (sym closes.is) (ready_row _ closes.text old ready)

-- ---- the rows

module _ (size : ℕ) (id : RowNo) (old new : Derived) (logs : Logs size id old new) where
  pub held_logged : new.held ≡ keeping (old.state.next ∷ []) old.held
  held_logged = ap (λ (d : Derived). d.held) logs.is

  pub larger_held : is_held new.held id.0 ≡ true
  larger_held = ap (λ (h : Held). is_held h id.0) held_logged ∙ last_held old.held old.state.next id.0 logs.number

  pub logged_live : (n : ℕ) (row : PlainRow) → row_of n old.state.live ≡ Some row → row_of n new.state.live ≡ Some row
  logged_live n row live = ap (λ (d : Derived). row_of n d.state.live) logs.is ∙ row_front n row old.state.live _ live

module _ (size : ℕ) (bound larger id : RowNo) (old new : Derived) (closes : Closes size bound larger id old new) where
  pub closed_live : (n : ℕ) (row : PlainRow) → row_of n old.state.live ≡ Some row → row_of n new.state.live ≡ Some row
  closed_live n row live = ap (λ (d : Derived). row_of n d.state.live) closes.is ∙ row_front n row old.state.live _ live

  pub last_live : IsInOrder old.state → row_of id.0 new.state.live ≡ Some (add (ceiling_row old.lists size) (larger_row old.lists size))
  last_live order = ap (λ (d : Derived). row_of id.0 d.state.live) closes.is ∙ ap (λ (n : ℕ). row_of n (with_new_row (add (ceiling_row old.lists size) (larger_row old.lists size)) closes.text old).state.live) closes.number ∙ row_last old.state.next _ old.state.live order
