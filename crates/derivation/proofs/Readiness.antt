-- A derivation stays ready for more rows.
use Rattle.std.proofs.Common.{◌≡◌, ℕ, zero, suc, ◌+◌, ◌-◌, ◌<◌, ◌≤◌, ◌==◌, Bool, true, false, not, ◌||◌, ◌&&◌, List, [], ◌∷◌, ◌++◌, if◌then◌else◌, length, map, filter, get_or, refl, sym, ap, ◌∙◌, subst, inl, inr, arith, length-append}
use Rattle.std.specs.Prelude.{slice_get, Option, Some, None}
use Rattle.std.specs.List.{All}
use Rattle.std.proofs.lemmas.Bool.{eq-eqb, eqb-true, ne_eqb, or_cases}
use Rattle.std.proofs.lemmas.List.{append_assoc, length-map}
use Rattle.std.proofs.lemmas.List.Elements.{All-head, All-tail}
use Rattle.std.proofs.lemmas.Option.{slice_get-get_or}
use Rattle.hrt_base.specs.declared.numbered.RowNo.{RowNo}
use Rattle.pb_rows.specs.Terms.{PlainRow}
use Rattle.pb_rows.specs.Points.{Point}
use Rattle.pb_rows.specs.Rows.{in_normal_form}
use Rattle.pb_rows.specs.Formula.{NumberedRow, is_numbered, numbered_from, row_of}
use Rattle.rank_tables.specs.Numbers.{is_in, numbers_to}
use Rattle.rank_tables.specs.Instance.{Lists, pair_count}
use Rattle.rank_tables.specs.Tables.{IsPairNo}
use Rattle.rank_tables.proofs.Below.{length-numbers_to}
use Rattle.rank_tables.proofs.Numbers.{is_in-filter}
use Rattle.rank_tables.proofs.Ranks.{is_in-append}
use Rattle.stability_model.specs.Model.{hospital_rows, pair_row, pair_row_no, point_of_pairs, resident_rows, rows, written_rows}
use Rattle.proof_lines.specs.declared.note.Note.{Note}
use Rattle.proof_lines.specs.declared.note.Note.TheVariants.{Unit as UnitRow, Bound as BoundRow, Load, Learn, Drop}
use Rattle.proof_rules.specs.States.{AreNumbered}
use Rattle.proof_rules.specs.Held.{Held, HeldAreLive, ModelIsLive, NoneIsDeleted, row_numbers}
use Rattle.proof_rules.specs.Notes.{IsBroken, IsTrueNote}
use Rattle.proof_rules.proofs.HeldLive.{held_live-first, held_live-keeping, held_live-push}
use Rattle.proof_rules.proofs.Numbers.{none-from}
use Rattle.derivation.specs.Derived.{Derived}
use Rattle.derivation.specs.Ready.{IsReady}
use Rattle.derivation.specs.Steps.{first_derived, with_new_row, with_note}

-- ---- rows by number, where more stand behind

front_step : (b : Bool) (entry : NumberedRow) (one more : Option PlainRow) (row : PlainRow) → (one ≡ Some row → more ≡ Some row) → (if b then Some entry.row else one) ≡ Some row → (if b then Some entry.row else more) ≡ Some row
front_step true entry one more row h e = e
front_step false entry one more row h e = h e

pub row_front : (n : ℕ) (row : PlainRow) (live more : List NumberedRow) → row_of n live ≡ Some row → row_of n (live ++ more) ≡ Some row
row_front n row [] more e = absurd (cc)
row_front n row (entry ∷ live) more e = front_step (entry.number == n) entry (row_of n live) (row_of n (live ++ more)) row (row_front n row live more) e

behind_step : (b : Bool) (entry : NumberedRow) (one rest more : Option PlainRow) → (one ≡ None → rest ≡ more) → (if b then Some entry.row else one) ≡ None → (if b then Some entry.row else rest) ≡ more
behind_step true entry one rest more h e = absurd (cc)
behind_step false entry one rest more h e = h e

row_behind : (n : ℕ) (live more : List NumberedRow) → row_of n live ≡ None → row_of n (live ++ more) ≡ row_of n more
row_behind n [] more e = refl
row_behind n (entry ∷ live) more e = behind_step (entry.number == n) entry (row_of n live) (row_of n (live ++ more)) (row_of n more) (row_behind n live more) e

-- the row that was made last has the number that was next
pub row_last : (next : ℕ) (row : PlainRow) (live : List NumberedRow) → AreNumbered 1 next live → row_of next (live ++ record { number = next; row = row } ∷ []) ≡ Some row
row_last next row live order =
    row_behind next live (record { number = next; row = row } ∷ []) (none-from next 1 next live (omega arith) order)
    ∙ ap (λ (b : Bool). if b then Some row else None) (eq-eqb next next refl)

found_step : (b c : Bool) (entry : NumberedRow) (rest : Option PlainRow) (row : PlainRow) → (rest ≡ Some row → c ≡ true) → (if b then Some entry.row else rest) ≡ Some row → (b || c) ≡ true
found_step true c entry rest row h e = refl
found_step false c entry rest row h e = h e

-- a number with a row is that of a live one
pub row_numbered : (n : ℕ) (row : PlainRow) (live : List NumberedRow) → row_of n live ≡ Some row → is_numbered n live ≡ true
row_numbered n row [] e = absurd (cc)
row_numbered n row (entry ∷ live) e = found_step (entry.number == n) (is_numbered n live) entry (row_of n live) row (row_numbered n row live) e

-- ---- the start

row_from : (n i : ℕ) (d : PlainRow) (rs : List PlainRow) → i < length rs → row_of (n + i) (numbered_from n rs) ≡ Some (get_or rs i d)
row_from n i d [] h = absurd (omega arith)
row_from n zero d (row ∷ rs) h = let same : n ≡ n + zero = omega arith in ap (λ (b : Bool). if b then Some row else row_of (n + zero) (numbered_from (n + 1) rs)) (eq-eqb n (n + zero) same)
row_from n (suc i) d (row ∷ rs) h =
    let other : n ≡ n + suc i → ⊥ = λ e. omega arith in
    let same : n + suc i ≡ n + 1 + i = omega arith in
    ap (λ (b : Bool). if b then Some row else row_of (n + suc i) (numbered_from (n + 1) rs)) (ne_eqb n (n + suc i) other)
    ∙ ap (λ (k : ℕ). row_of k (numbered_from (n + 1) rs)) same ∙ row_from (n + 1) i d rs (omega arith)

model_row : (rs : List PlainRow) (d : PlainRow) (k : ℕ) → 1 ≤ k → k ≤ length rs → row_of k (numbered_from 1 rs) ≡ slice_get rs (k - 1)
model_row rs d k first last =
    let same : k ≡ 1 + (k - 1) = omega arith in
    ap (λ (n : ℕ). row_of n (numbered_from 1 rs)) same ∙ row_from 1 (k - 1) d rs (omega arith) ∙ sym (slice_get-get_or rs (k - 1) d (omega arith))

pub ready_first : (lists : Lists) → IsReady (first_derived lists)
ready_first lists = record { unconcluded = refl; model_live = model_row (rows lists) (record { terms = []; degree = 0 }); held_live = held_live-first lists }

-- ---- a row, and a note

-- the rows of the model stay live where more stand behind
pub model_live-push : (lists : Lists) (live more : List NumberedRow) → ModelIsLive lists live → ModelIsLive lists (live ++ more)
model_live-push lists live more model k first last =
    let none : PlainRow = record { terms = []; degree = 0 } in
    let at : slice_get (rows lists) (k - 1) ≡ Some (get_or (rows lists) (k - 1) none) = slice_get-get_or (rows lists) (k - 1) none (omega arith) in
    row_front k (get_or (rows lists) (k - 1) none) live more (model k first last ∙ at) ∙ sym at

pub none_deleted-push : (lists : Lists) (live more : List NumberedRow) (held : Held) → NoneIsDeleted lists live held → NoneIsDeleted lists (live ++ more) held
none_deleted-push lists live more held all = record { model_live = model_live-push lists live more all.model_live; held_live = held_live-push held live more all.held_live }

pub ready_row : (row : PlainRow) (text : List ℕ) (d : Derived) → IsReady d → IsReady (with_new_row row text d)
ready_row row text d ready = record {
  unconcluded = ready.unconcluded;
  model_live = model_live-push d.lists d.state.live (record { number = d.state.next; row = row } ∷ []) ready.model_live;
  held_live = held_live-push d.held d.state.live (record { number = d.state.next; row = row } ∷ []) ready.held_live;
}

only_one : (n k : ℕ) (live : List NumberedRow) → is_numbered k live ≡ true → is_in n (k ∷ []) ≡ true → is_numbered n live ≡ true
only_one n k live h i = elim (or_cases (k == n) false i) [
  | inl e ↦ subst (λ (j : ℕ). is_numbered j live ≡ true) (eqb-true k n e) h
  | inr e ↦ absurd (cc)
]

pub rows_count : (lists : Lists) → length (rows lists) ≡ pair_row_no lists 0 + pair_count lists
rows_count lists =
    let a = length-map (written_rows lists) in_normal_form in
    let b = length-append (resident_rows lists ++ hospital_rows lists) (map (pair_row lists) (numbers_to (pair_count lists))) in
    let c = length-append (resident_rows lists) (hospital_rows lists) in
    let d = length-map (numbers_to (pair_count lists)) (pair_row lists) in
    let e = length-numbers_to (pair_count lists) in
    omega arith

-- the row of a pair is live
pair_live : (lists : Lists) (live : List NumberedRow) → ModelIsLive lists live → (k p : ℕ) → IsPairNo lists p → k ≡ pair_row_no lists p → is_numbered k live ≡ true
pair_live lists live model k p number is =
    let none : PlainRow = record { terms = []; degree = 0 } in
    let first : 1 ≤ k = omega (arith, number.0, is) in
    let last : k ≤ length (rows lists) = omega (arith, number.1, is, rows_count lists) in
    row_numbered k (get_or (rows lists) (k - 1) none) live (model k first last ∙ slice_get-get_or (rows lists) (k - 1) none (omega arith))

-- the rows that an honest load names are live
loaded_live : (lists : Lists) (point : Point) (live : List NumberedRow) → ModelIsLive lists live →
    (ids : List RowNo) → All (IsBroken lists point) ids → (n : ℕ) → is_in n (row_numbers ids) ≡ true → is_numbered n live ≡ true
loaded_live lists point live model [] broken n i = absurd (cc)
loaded_live lists point live model (id ∷ ids) broken n i =
    let first = All-head (IsBroken lists point) id ids broken in
    elim (or_cases (id.0 == n) (is_in n (row_numbers ids)) i) [
      | inl e ↦ subst (λ (k : ℕ). is_numbered k live ≡ true) (eqb-true id.0 n e) (pair_live lists live model id.0 first.0 first.1 first.2)
      | inr e ↦ loaded_live lists point live model ids (All-tail (IsBroken lists point) id ids broken) n e
    ]

learned_live : (held : Held) (k : ℕ) (live : List NumberedRow) → is_numbered k live ≡ true → HeldAreLive live held → HeldAreLive live (record held { learned = held.learned ++ k ∷ []; learn_notes = held.learn_notes + 1 })
learned_live held k live l h n i =
    let parts : is_in n (held.kept ++ (held.learned ++ k ∷ [])) ≡ (is_in n (held.kept ++ held.learned) || is_in n (k ∷ [])) =
    ap (is_in n) (sym (append_assoc held.kept held.learned (k ∷ []))) ∙ is_in-append n (held.kept ++ held.learned) (k ∷ []) in
    elim (or_cases (is_in n (held.kept ++ held.learned)) (is_in n (k ∷ [])) (sym parts ∙ i)) [ inl s ↦ h n s | inr s ↦ only_one n k live l s ]

fewer : (a b c d : Bool) → (a || (b && c)) ≡ true → (a || b) ≡ true
fewer true b c d h = refl
fewer false true c d h = refl
fewer false false c d h = absurd (cc)

dropped_live : (held : Held) (test : ℕ → Bool) (live : List NumberedRow) → HeldAreLive live held → HeldAreLive live (record held { learned = filter test held.learned })
dropped_live held test live h n i =
    let parts : is_in n (held.kept ++ filter test held.learned) ≡ (is_in n held.kept || (is_in n held.learned && test n)) =
    is_in-append n held.kept (filter test held.learned) ∙ ap (λ (b : Bool). is_in n held.kept || b) (is_in-filter test n held.learned) in
    h n (is_in-append n held.kept held.learned ∙ fewer (is_in n held.kept) (is_in n held.learned) (test n) true (sym parts ∙ i))

pub ready_note : (note : Note) (d : Derived) → IsTrueNote d.lists d.state.live d.held note → IsReady d → IsReady (with_note note d)
ready_note (UnitRow id) d so ready =
    record { unconcluded = ready.unconcluded; model_live = ready.model_live; held_live = held_live-keeping d.held (id.0 ∷ []) d.state.live (λ n. only_one n id.0 d.state.live so) ready.held_live }
ready_note (BoundRow id) d so ready =
    record { unconcluded = ready.unconcluded; model_live = ready.model_live; held_live = held_live-keeping d.held (id.0 ∷ []) d.state.live (λ n. only_one n id.0 d.state.live so) ready.held_live }
ready_note (Load trues ids) d so ready = record {
  unconcluded = ready.unconcluded;
  model_live = ready.model_live;
  held_live = held_live-keeping d.held (row_numbers ids) d.state.live (loaded_live d.lists (point_of_pairs trues) d.state.live ready.model_live ids so.broken) ready.held_live;
}
ready_note (Learn id decisions l) d so ready = record {
  unconcluded = ready.unconcluded;
  model_live = ready.model_live;
  held_live = learned_live d.held id.0 d.state.live (row_numbered id.0 so.0 d.state.live so.1) ready.held_live;
}
ready_note (Drop id) d so ready = record { unconcluded = ready.unconcluded; model_live = ready.model_live; held_live = dropped_live d.held (λ n. not (n == id.0)) d.state.live ready.held_live }

-- and so after the call that adds it
pub noted_ready : (note : Note) (old new : Derived) → IsTrueNote old.lists old.state.live old.held note → new ≡ with_note note old → IsReady old → IsReady new
noted_ready note old new so is ready = subst IsReady (sym is) (ready_note note old so ready)
