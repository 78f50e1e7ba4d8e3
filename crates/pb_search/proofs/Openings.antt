-- The rows of a derivation are added to an engine, one after another.
use Rattle.std.proofs.Common.{◌≡◌, ◌<◌, ◌≤◌, ◌+◌, ◌-◌, ℕ, zero, suc, List, [], ◌∷◌, ◌++◌, length, take, refl, sym, ap, ◌∙◌, subst, arith, append-nil, append_assoc}
use Rattle.std.specs.Prelude.{Option, Some, None, slice_index_or}
use Rattle.std.proofs.Math.Seq.{take-length}
use Rattle.std.proofs.lemmas.List.{map-append}
use Rattle.std.proofs.lemmas.List.Elements.{All-nil, All-push}
use Rattle.hrt_base.specs.declared.numbered.RowNo.{RowNo}
use Rattle.pb_rows.specs.Terms.{PlainRow}
use Rattle.pb_rows.specs.Formula.{row_of}
use Rattle.rank_tables.specs.Instance.{pair_count}
use Rattle.rank_tables.specs.Numbers.{is_distinct, is_in, numbers_to}
use Rattle.stability_model.specs.Model.{pair_row_no}
use Rattle.derivation.specs.Deletions.{Deletions, unit_row_no}
use Rattle.derivation.specs.Derived.{Derived}
use Rattle.row_arena.specs.Held.{Held}
use Rattle.pb_propagate.specs.Engines.{EngineState}
use Rattle.agreement.specs.Agreement.{Agree, IsHeldIn}
use Rattle.pb_search.specs.Knowing.{HoldsOpening, opening_numbers, unit_numbers}
use Rattle.pb_search.specs.Opening.{CanHold, HasOneMore, HasRows}

-- ---- one row

pub one_more : (d : Derived) (e f : EngineState) (n place tag : ℕ) (row : PlainRow) (due : List ℕ) → CanHold d n → row_of n d.state.live ≡ Some row → f ≡ record e { held = e.held ++ record { place = place; row = row; tag = tag } ∷ []; due_rows = due } → tag ≡ n → HasOneMore d n e f
one_more d e f n place tag row due can live made told numbers has =
    let added : Held = record { place = place; row = row; tag = n } in
    let one : IsHeldIn d added = record { held = can.held; row = record { live = live; formed = (can.short row live).formed } } in
    subst (λ (g : EngineState). HasRows d g (numbers ++ n ∷ [])) (sym made) (subst (λ (t : ℕ). HasRows d (record e { held = e.held ++ record { place = place; row = row; tag = t } ∷ []; due_rows = due }) (numbers ++ n ∷ [])) (sym told) (record {
      vars = has.vars;
      rows = All-push (IsHeldIn d) e.held added has.rows one;
      are = map-append (λ (h : Held). h.tag) e.held (added ∷ []) ∙ ap (λ (ns : List ℕ). ns ++ n ∷ []) has.are;
      start = has.start;
    }))

-- ---- the first rows

pub none_yet : (d : Derived) (e : EngineState) (vars : ℕ) → vars ≡ pair_count d.lists → e ≡ record { vars = vars; held = []; trail = []; due_rows = []; due_literals = [] } → HasRows d e []
none_yet d e vars same is = subst (λ (f : EngineState). HasRows d f []) (sym is) (record { vars = same; rows = All-nil (IsHeldIn d); are = refl; start = refl })

one_longer : (k : ℕ) → 1 ≤ k → numbers_to (k - 1) ++ k ∷ [] ≡ numbers_to (k + 1 - 1)
one_longer zero h = absurd (omega arith)
one_longer (suc n) h = let a : suc n - 1 ≡ n = omega arith in let b : suc n + 1 - 1 ≡ suc n = omega arith in ap (λ (m : ℕ). numbers_to m ++ suc n ∷ []) a ∙ sym (ap numbers_to b)

pub first_more : (d : Derived) (e f : EngineState) (k : ℕ) → 1 ≤ k → HasOneMore d k e f → HasRows d e (numbers_to (k - 1)) → HasRows d f (numbers_to (k + 1 - 1))
first_more d e f k first one has = subst (HasRows d f) (one_longer k first) (one (numbers_to (k - 1)) has)

-- ---- the rows of deleted pairs

-- those of the pairs below p
abbrev pub units_below : ℕ → Deletions → List ℕ
units_below p gone = unit_numbers (take (p - 1) gone)

units_taken : (k : ℕ) (gone : Deletions) → k < length gone → (o : Option RowNo) → slice_index_or gone k None ≡ o → unit_numbers (take (suc k) gone) ≡ unit_numbers (take k gone) ++ unit_numbers (o ∷ [])
units_taken k [] h o e = absurd (omega arith)
units_taken zero (None ∷ gone) h o e = subst (λ (x : Option RowNo). unit_numbers [] ≡ unit_numbers (x ∷ [])) e refl
units_taken zero (Some id ∷ gone) h o e = subst (λ (x : Option RowNo). id.0 ∷ [] ≡ unit_numbers (x ∷ [])) e refl
units_taken (suc k) (None ∷ gone) h o e = units_taken k gone (omega arith) o e
units_taken (suc k) (Some id ∷ gone) h o e = ap (λ (ns : List ℕ). id.0 ∷ ns) (units_taken k gone (omega arith) o e)

pub units_step : (p : ℕ) (gone : Deletions) (o : Option RowNo) → 1 ≤ p → p ≤ length gone → unit_row_no gone p ≡ o → units_below (p + 1) gone ≡ units_below p gone ++ unit_numbers (o ∷ [])
units_step zero gone o first last e = absurd (omega arith)
units_step (suc k) gone o first last e =
    let a : suc k - 1 ≡ k = omega arith in let b : suc k + 1 - 1 ≡ suc k = omega arith in
    ap (λ (n : ℕ). unit_numbers (take n gone)) b ∙ units_taken k gone (omega arith) o e ∙ ap (λ (n : ℕ). unit_numbers (take n gone) ++ unit_numbers (o ∷ [])) (sym a)

-- ---- all of them

pub all_held : (gone : Deletions) (ceiling : ℕ) (bound improve : RowNo) (d : Derived) (e : EngineState) → HoldsOpening gone bound improve d → HasRows d e (opening_numbers d.lists gone bound improve) → Agree e d
all_held gone ceiling bound improve d e opening has = record {
  vars = has.vars;
  rows = has.rows;
  once = ap is_distinct has.are ∙ opening.distinct;
  all = λ n h. ap (is_in n) has.are ∙ (sym (opening.holds n) ∙ h);
}

-- nothing is added for a pair that isn't deleted
pub none_more : (d : Derived) (e : EngineState) (numbers : List ℕ) (o : Option RowNo) → o ≡ None → HasRows d e numbers → HasRows d e (numbers ++ unit_numbers (o ∷ []))
none_more d e numbers o none has = subst (λ (x : Option RowNo). HasRows d e (numbers ++ unit_numbers (x ∷ []))) (sym none) (subst (HasRows d e) (sym (append-nil numbers)) has)

pub some_more : (d : Derived) (e f : EngineState) (numbers : List ℕ) (o : Option RowNo) (id : RowNo) → o ≡ Some id → HasOneMore d id.0 e f → HasRows d e numbers → HasRows d f (numbers ++ unit_numbers (o ∷ []))
some_more d e f numbers o id some one has = subst (λ (x : Option RowNo). HasRows d f (numbers ++ unit_numbers (x ∷ []))) (sym some) (one numbers has)

-- the rows of the pairs below one, and then its own
pub next_units : (d : Derived) (e f : EngineState) (numbers : List ℕ) (p : ℕ) (gone : Deletions) → 1 ≤ p → p ≤ length gone → HasRows d e (numbers ++ units_below p gone) →
    ((ns : List ℕ) → HasRows d e ns → HasRows d f (ns ++ unit_numbers (unit_row_no gone p ∷ []))) → HasRows d f (numbers ++ units_below (p + 1) gone)
next_units d e f numbers p gone first last has more =
    subst (HasRows d f) (append_assoc numbers (units_below p gone) (unit_numbers (unit_row_no gone p ∷ [])) ∙ ap (λ (ns : List ℕ). numbers ++ ns) (sym (units_step p gone (unit_row_no gone p) first last refl))) (more (numbers ++ units_below p gone) has)

pub all_units : (d : Derived) (e : EngineState) (numbers : List ℕ) (p : ℕ) (gone : Deletions) → p ≡ length gone + 1 → HasRows d e (numbers ++ units_below p gone) → HasRows d e (numbers ++ unit_numbers gone)
all_units d e numbers p gone end has = let all : take (p - 1) gone ≡ gone = ap (λ (n : ℕ). take n gone) (omega (arith, end)) ∙ take-length gone in subst (λ (g : Deletions). HasRows d e (numbers ++ unit_numbers g)) all has

-- the four parts, one after another
pub opened : (gone : Deletions) (bound improve : RowNo) (d : Derived) (a b c e : EngineState) → HasRows d a (numbers_to (pair_row_no d.lists 0)) →
    ((ns : List ℕ) → HasRows d a ns → HasRows d b (ns ++ unit_numbers gone)) → HasOneMore d bound.0 b c → HasOneMore d improve.0 c e → HasRows d e (opening_numbers d.lists gone bound improve)
opened gone bound improve d a b c e first units third fourth =
    let firsts = numbers_to (pair_row_no d.lists 0) in
    subst (HasRows d e)
    (append_assoc (firsts ++ unit_numbers gone) (bound.0 ∷ []) (improve.0 ∷ []) ∙ append_assoc firsts (unit_numbers gone) (bound.0 ∷ improve.0 ∷ []))
    (fourth ((firsts ++ unit_numbers gone) ++ bound.0 ∷ []) (third (firsts ++ unit_numbers gone) (units firsts first)))
