-- What a search knows stays so while an analysis is made and its row is noted.
use Rattle.std.proofs.Common.{◌≡◌, ◌<◌, ◌≤◌, ℕ, List, [], ◌∷◌, length, refl, sym, ap, ◌∙◌, subst, arith}
use Rattle.std.specs.Prelude.{IsTrue, Some}
use Rattle.std.specs.List.{All}
use Rattle.std.proofs.lemmas.Bool.{or_left}
use Rattle.hrt_base.specs.declared.literal.Lit.{Lit}
use Rattle.hrt_base.specs.declared.numbered.PairNo.{PairNo}
use Rattle.hrt_base.specs.declared.numbered.RowNo.{RowNo}
use Rattle.pb_rows.specs.Terms.{PlainRow}
use Rattle.pb_rows.specs.Formula.{row_of}
use Rattle.rank_tables.specs.Instance.{Lists}
use Rattle.rank_tables.specs.Numbers.{is_in}
use Rattle.rank_tables.specs.Stability.{is_weakly_stable}
use Rattle.rank_tables.specs.Tables.{IsPairNo, numbers_of}
use Rattle.stability_model.specs.Model.{pair_row_no, rows}
use Rattle.proof_lines.specs.declared.note.Note.TheVariants.{Learn}
use Rattle.proof_rules.specs.Held.{Held, is_held}
use Rattle.proof_rules.specs.States.{IsInOrder as AreNumbersInOrder}
use Rattle.proof_rules.proofs.Numbers.{live_within}
use Rattle.derivation.specs.Derived.{Derived}
use Rattle.derivation.specs.Steps.{with_note}
use Rattle.agreement.proofs.Lines.{notes_hold}
use Rattle.conflict_cuts.specs.Learned.{Analyzes}
use Rattle.matching_log.specs.Logged.{ceiling_row, larger_row}
use Rattle.pb_search.specs.Knowing.{HoldsRow, IsFound, Knows}

pub found_kept : (pairs : List PairNo) (d made : Derived) → made.lists ≡ d.lists → made.state.least ≡ d.state.least → IsFound pairs d → IsFound pairs made
found_kept pairs d made lists least f = record {
  numbers = subst (λ (ls : Lists). All (λ (p : PairNo). IsPairNo ls p.0) pairs) (sym lists) f.numbers;
  rising = f.rising;
  stable = subst (λ (ls : Lists). IsTrue (is_weakly_stable ls (numbers_of pairs))) (sym lists) f.stable;
  least = least ∙ f.least;
}

-- ---- an analysis

live_kept : (id : RowNo) (row : PlainRow) (d made : Derived) → AreNumbersInOrder d.state → Analyzes d made → row_of id.0 d.state.live ≡ Some row → row_of id.0 made.state.live ≡ Some row
live_kept id row d made order a live = a.live id.0 (live_within id.0 d.state.next row d.state.live order live).1 ∙ live

holds_kept : (id : RowNo) (row : PlainRow) (d made : Derived) → AreNumbersInOrder d.state → Analyzes d made → HoldsRow id row d → HoldsRow id row made
holds_kept id row d made order a h = record { held = subst (λ (x : Held). IsTrue (is_held x id.0)) (sym a.held) h.held; live = live_kept id row d made order a h.live }

-- the row of the ceiling stays live
pub ceiling_live : (ceiling : ℕ) (bound : RowNo) (pairs : List PairNo) (d made : Derived) → AreNumbersInOrder d.state → Analyzes d made → Knows ceiling bound pairs d → row_of bound.0 made.state.live ≡ Some (ceiling_row made.lists ceiling)
ceiling_live ceiling bound pairs d made order a k = live_kept bound (ceiling_row d.lists ceiling) d made order a k.top.live ∙ ap (λ (ls : Lists). Some (ceiling_row ls ceiling)) (sym a.lists)

pub analyzed_knows : (ceiling : ℕ) (bound : RowNo) (pairs : List PairNo) (d made : Derived) → AreNumbersInOrder d.state → Analyzes d made → d.state.next ≤ made.state.next → Knows ceiling bound pairs d → Knows ceiling bound pairs made
analyzed_knows ceiling bound pairs d made order a later k = record {
  found = found_kept pairs d made a.lists a.least k.found;
  shorter = k.shorter;
  first = λ n some within. subst (λ (x : Held). IsTrue (is_in n x.kept)) (sym a.held) (k.first n some (subst (λ (ls : Lists). n ≤ pair_row_no ls 0) a.lists within));
  top = subst (λ (ls : Lists). HoldsRow bound (ceiling_row ls ceiling) made) (sym a.lists) (holds_kept bound (ceiling_row d.lists ceiling) d made order a k.top);
  improve = k.improve;
  larger = subst (λ (ls : Lists). HoldsRow k.improve (larger_row ls (length pairs)) made) (sym a.lists) (holds_kept k.improve (larger_row d.lists (length pairs)) d made order a k.larger);
  behind_model = subst (λ (ls : Lists). length (rows ls) < made.state.next) (sym a.lists) (omega (arith, k.behind_model, later));
}

-- ---- the note of a learned row

holds_noted : (id : RowNo) (row : PlainRow) (d : Derived) (note : RowNo) (decisions : List Lit) (l : Lit) → HoldsRow id row d → HoldsRow id row (with_note (Learn note decisions l) d)
holds_noted id row d note decisions l h = record {
  held = (notes_hold d (Learn note decisions l) tt).held id.0 ∙ or_left (is_held d.held id.0) (is_in id.0 (note.0 ∷ [])) h.held;
  live = h.live;
}

with_learned : (ceiling : ℕ) (bound : RowNo) (pairs : List PairNo) (d : Derived) (note : RowNo) (decisions : List Lit) (l : Lit) → Knows ceiling bound pairs d → Knows ceiling bound pairs (with_note (Learn note decisions l) d)
with_learned ceiling bound pairs d note decisions l k = record {
  found = found_kept pairs d (with_note (Learn note decisions l) d) refl refl k.found;
  shorter = k.shorter;
  first = k.first;
  top = holds_noted bound (ceiling_row d.lists ceiling) d note decisions l k.top;
  improve = k.improve;
  larger = holds_noted k.improve (larger_row d.lists (length pairs)) d note decisions l k.larger;
  behind_model = k.behind_model;
}

pub learned_knows : (ceiling : ℕ) (bound : RowNo) (pairs : List PairNo) (d noted : Derived) (note : RowNo) (decisions : List Lit) (l : Lit) → noted ≡ with_note (Learn note decisions l) d → Knows ceiling bound pairs d → Knows ceiling bound pairs noted
learned_knows ceiling bound pairs d noted note decisions l is k = subst (Knows ceiling bound pairs) (sym is) (with_learned ceiling bound pairs d note decisions l k)
