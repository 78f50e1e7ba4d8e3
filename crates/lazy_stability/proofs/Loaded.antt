-- After the rows of pairs that block the candidate were added and noted, engine and derivation agree again.
use Rattle.std.proofs.Common.{◌≡◌, ℕ, ◌-◌, ◌<◌, ◌==◌, Bool, true, false, not, List, [], ◌∷◌, length, refl, sym, ap, ◌∙◌, subst, inl, inr, arith}
use Rattle.std.specs.Prelude.{Some}
use Rattle.std.specs.List.{All}
use Rattle.std.proofs.lemmas.Bool.{and_from, and_parts, eqb-true, eq-eqb, or_cases}
use Rattle.std.proofs.lemmas.List.{length-map}
use Rattle.std.proofs.lemmas.List.Elements.{All-cons, All-get_or, All-head, All-nil, All-tail}
use Rattle.std.proofs.lemmas.Option.{get_or_from_slice_get, slice_get_within}
use Rattle.hrt_base.specs.declared.numbered.PairNo.{PairNo}
use Rattle.pb_rows.specs.Terms.{PlainRow}
use Rattle.pb_rows.specs.Rows.{holds, in_normal_form}
use Rattle.pb_rows.specs.Closure.{Falsified}
use Rattle.pb_rows.specs.Formula.{row_of}
use Rattle.rank_tables.specs.Numbers.{is_distinct, is_in}
use Rattle.rank_tables.specs.Instance.{Lists, pair_count}
use Rattle.rank_tables.specs.Stability.{blocks, is_matching}
use Rattle.rank_tables.specs.Tables.{IsPairNo, numbers_of}
use Rattle.stability_model.specs.Model.{AreShortRows, IsShortRow, pair_row, pair_row_no, point_of_pairs, rows}
use Rattle.stability_model.proofs.Growing.{is_pair_row, rows_count}
use Rattle.proof_rules.specs.States.{IsInOrder as IsStateInOrder, State}
use Rattle.propagation.specs.Following.{IsOver}
use Rattle.proof_lines.specs.Spelling.{row_no}
use Rattle.proof_lines.specs.declared.note.Note.{Note}
use Rattle.proof_rules.specs.Held.{Held as HeldNumbers, held_rows, is_held, row_numbers}
use Rattle.proof_rules.specs.Notes.{HonestLoad}
use Rattle.derivation.specs.Derived.{Derived}
use Rattle.derivation.specs.Ready.{IsReady}
use Rattle.derivation.specs.Steps.{with_note}
use Rattle.row_arena.specs.declared.arena.Place.{Place}
use Rattle.pb_propagate.specs.Engines.{EngineState, IsIdle}
use Rattle.pb_propagate.specs.Entries.{set_of}
use Rattle.pb_propagate.specs.Moments.{IsInOrder, IsSound}
use Rattle.agreement.specs.Agreement.{Agree, IsLiveIn, tags}
use Rattle.agreement.proofs.Growing.{grown}
use Rattle.agreement.proofs.Lines.{notes_hold}
use Rattle.agreement.proofs.Numbers.{or_first, or_second}
use Rattle.lazy_stability.specs.Candidates.{AreBlocking, IsFull, candidate}
use Rattle.lazy_stability.specs.Loads.{AreFalsified, AreNotHeld, LoadsRows, load_note, place_numbers, row_numbers_of, rows_at}
use Rattle.lazy_stability.proofs.Full.{broken_falsified, candidate_point}
use Rattle.lazy_stability.proofs.Honest.{broken_not_held, honest, pair_broken}

-- ---- numbers of rows

-- the numbers of the rows of pairs, as plain numbers
abbrev rows_of_pairs : Lists → List PairNo → List ℕ
rows_of_pairs lists pairs = row_numbers (row_numbers_of lists pairs)

-- no two pairs have one row
among_rows : (lists : Lists) (p : ℕ) (pairs : List PairNo) → is_in (pair_row_no lists p) (rows_of_pairs lists pairs) ≡ true → is_in p (numbers_of pairs) ≡ true
among_rows lists p [] i = absurd (cc)
among_rows lists p (q ∷ pairs) i = elim (or_cases (pair_row_no lists q.0 == pair_row_no lists p) (is_in (pair_row_no lists p) (rows_of_pairs lists pairs)) i) [
  | inl s ↦ or_first (q.0 == p) (is_in p (numbers_of pairs)) (eq-eqb q.0 p (same_pair (eqb-true (pair_row_no lists q.0) (pair_row_no lists p) s)))
  | inr s ↦ or_second (q.0 == p) (is_in p (numbers_of pairs)) (among_rows lists p pairs s)
]
  where
    same_pair : pair_row_no lists q.0 ≡ pair_row_no lists p → q.0 ≡ p
    same_pair e = omega (arith, e)

distinct_rows : (lists : Lists) (pairs : List PairNo) → is_distinct (numbers_of pairs) ≡ true → is_distinct (rows_of_pairs lists pairs) ≡ true
distinct_rows lists [] h = refl
distinct_rows lists (p ∷ pairs) h =
    let parts = and_parts (not (is_in p.0 (numbers_of pairs))) (is_distinct (numbers_of pairs)) h in
    and_from (not (is_in (pair_row_no lists p.0) (rows_of_pairs lists pairs))) (is_distinct (rows_of_pairs lists pairs))
    (fewer (is_in (pair_row_no lists p.0) (rows_of_pairs lists pairs)) (is_in p.0 (numbers_of pairs)) (among_rows lists p.0 pairs) parts.0) (distinct_rows lists pairs parts.1)
  where
    fewer : (a b : Bool) → (a ≡ true → b ≡ true) → not b ≡ true → not a ≡ true
    fewer true true g i = i
    fewer true false g i = absurd (cc (g refl))
    fewer false b g i = refl

tags_are : (lists : Lists) (pairs : List PairNo) (places : List ℕ) → length places ≡ length pairs → tags (rows_at lists pairs places) ≡ rows_of_pairs lists pairs
tags_are lists [] places e = refl
tags_are lists (p ∷ pairs) [] e = absurd (omega (arith, e))
tags_are lists (p ∷ pairs) (place ∷ places) e = ap (λ (ns : List ℕ). pair_row_no lists p.0 ∷ ns) (tags_are lists pairs places (omega (arith, e)))

-- ---- rows of pairs

-- the row of a pair is live under its number
pub pair_live : (d : Derived) (p : ℕ) → IsReady d → IsPairNo d.lists p → row_of (pair_row_no d.lists p) d.state.live ≡ Some (in_normal_form (pair_row d.lists p))
pair_live d p ready number =
    let at = is_pair_row d.lists p number in
    let within = slice_get_within (rows d.lists) (pair_row_no d.lists p - 1) (in_normal_form (pair_row d.lists p)) at in
    ready.model_live (pair_row_no d.lists p) (omega (arith, number.0)) (omega (arith, number.1, rows_count d.lists)) ∙ at

-- and it is short
pub pair_short : (lists : Lists) (p : ℕ) → AreShortRows (pair_count lists) (rows lists) → IsPairNo lists p → IsShortRow (pair_count lists) (in_normal_form (pair_row lists p))
pair_short lists p short number =
    let at = is_pair_row lists p number in
    let k : ℕ = pair_row_no lists p - 1 in
    let row : PlainRow = in_normal_form (pair_row lists p) in
    let P : PlainRow → Type 0 = IsShortRow (pair_count lists) in
    subst P (get_or_from_slice_get (rows lists) k row row at) (All-get_or P (rows lists) k row (slice_get_within (rows lists) k row at) short.each)

-- the rows at the places are live under their numbers
rows_live : (d new : Derived) (pairs : List PairNo) (places : List ℕ) → new.state ≡ d.state → IsReady d → AreShortRows (pair_count d.lists) (rows d.lists) → All (λ (p : PairNo). IsPairNo d.lists p.0) pairs → All (IsLiveIn new) (rows_at d.lists pairs places)
rows_live d new [] places same ready short known = All-nil (IsLiveIn new)
rows_live d new (p ∷ pairs) [] same ready short known = All-nil (IsLiveIn new)
rows_live d new (p ∷ pairs) (place ∷ places) same ready short known =
    let P : PairNo → Type 0 = λ q. IsPairNo d.lists q.0 in
    let number = All-head P p pairs known in
    All-cons (IsLiveIn new) (record { place = place; row = in_normal_form (pair_row d.lists p.0); tag = pair_row_no d.lists p.0 }) (rows_at d.lists pairs places)
    (record { live = ap (λ (s : State). row_of (pair_row_no d.lists p.0) s.live) same ∙ pair_live d p.0 ready number; formed = (pair_short d.lists p.0 short number).formed })
    (rows_live d new pairs places same ready short (All-tail P p pairs known))

-- what isn't held by pairs isn't held by numbers
numbers_not_held : (lists : Lists) (held : HeldNumbers) (pairs : List PairNo) → AreNotHeld lists held pairs → All (λ (n : ℕ). is_held held n ≡ false) (rows_of_pairs lists pairs)
numbers_not_held lists held [] none = All-nil (λ (n : ℕ). is_held held n ≡ false)
numbers_not_held lists held (p ∷ pairs) none =
    let P : PairNo → Type 0 = λ q. is_held held (pair_row_no lists q.0) ≡ false in
    All-cons (λ (n : ℕ). is_held held n ≡ false) (pair_row_no lists p.0) (rows_of_pairs lists pairs) (All-head P p pairs none) (numbers_not_held lists held pairs (All-tail P p pairs none))

-- ---- the load

-- what stands before a load
pub record CanLoad (e : EngineState) (d : Derived) (pairs : List PairNo) : Type 0 where
  pub agree : Agree e d
  pub order : IsStateInOrder d.state
  pub ready : IsReady d
  pub full : IsFull e
  pub sound : IsSound e
  pub idle : IsIdle e
  pub short : AreShortRows (pair_count d.lists) (rows d.lists)
  pub matching : is_matching d.lists (candidate d.lists e) ≡ true
  pub block : AreBlocking d.lists (candidate d.lists e) pairs

-- the model's rows are those of the derivation's instance
pub can_load : (lists : Lists) (e : EngineState) (d : Derived) (pairs : List PairNo) → lists ≡ d.lists → Agree e d → IsStateInOrder d.state → IsReady d → IsFull e → IsInOrder e → IsIdle e → AreShortRows (pair_count lists) (rows lists) →
    is_matching d.lists (candidate d.lists e) ≡ true → AreBlocking d.lists (candidate d.lists e) pairs → CanLoad e d pairs
can_load lists e d pairs same agree order ready full moment idle short matching block = record {
  agree = agree;
  order = order;
  ready = ready;
  full = full;
  sound = moment.sound;
  idle = idle;
  short = subst (λ (l : Lists). AreShortRows (pair_count l) (rows l)) same short;
  matching = matching;
  block = block;
}

module _ (e : EngineState) (d : Derived) (pairs : List PairNo) (can : CanLoad e d pairs) where
  pub known : All (λ (p : PairNo). IsPairNo d.lists p.0) pairs
  known = λ k p l. (can.block.each k p l).0

  -- at the candidate the row of each pair doesn't hold
  broken : (p : ℕ) → blocks d.lists (candidate d.lists e) p ≡ true → holds (point_of_pairs (candidate d.lists e)) (in_normal_form (pair_row d.lists p)) ≡ false
  broken p b = pair_broken d.lists (candidate d.lists e) p can.matching b

  pub load_honest : 0 < length pairs → HonestLoad d.lists (held_rows d.state.live d.held) (candidate d.lists e) (row_numbers_of d.lists pairs)
  load_honest some = honest e d can.agree can.order can.full can.sound can.idle pairs can.matching (omega (arith, some, length-map pairs (λ (p : PairNo). row_no (pair_row_no d.lists p.0)))) can.block

  pub not_held : AreNotHeld d.lists d.held pairs
  not_held = λ k p l.
      let one = can.block.each k p l in
      broken_not_held e d can.agree can.order can.full can.sound can.idle (pair_row_no d.lists _) (in_normal_form (pair_row d.lists _)) (pair_live d _ can.ready one.0) (broken _ one.1)

  falsified_row : (p : ℕ) → IsPairNo d.lists p → blocks d.lists (candidate d.lists e) p ≡ true → Falsified (set_of e.trail) (in_normal_form (pair_row d.lists p))
  falsified_row p number b =
      let row : PlainRow = in_normal_form (pair_row d.lists p) in
      broken_falsified e.vars (set_of e.trail) (point_of_pairs (candidate d.lists e)) can.full (λ v first last. candidate_point d.lists e v first (omega (arith, last, can.agree.vars))) row
      (subst (λ (n : ℕ). IsOver n row) (sym can.agree.vars) (pair_short d.lists p can.short number).over) (broken p b)

  pub falsified : AreFalsified d.lists (set_of e.trail) pairs
  falsified = λ k p l. falsified_row _ (can.block.each k p l).0 (can.block.each k p l).1

  pub agree_again : (f : EngineState) (places : List Place) → LoadsRows d.lists pairs places e f → Agree f (with_note (load_note d.lists (candidate d.lists e) pairs) d)
  agree_again f places loads =
      let note : Note = load_note d.lists (candidate d.lists e) pairs in
      let same : length (place_numbers places) ≡ length pairs = length-map places (λ (x : Place). x.0) ∙ loads.count in
      grown e f d (with_note note d) (rows_at d.lists pairs (place_numbers places)) (rows_of_pairs d.lists pairs) can.agree (notes_hold d note tt)
      (record {
        tags_are = tags_are d.lists pairs (place_numbers places) same;
        distinct = distinct_rows d.lists pairs can.block.distinct;
        not_held = numbers_not_held d.lists d.held pairs not_held;
        live = rows_live d (with_note note d) pairs (place_numbers places) refl can.ready can.short known;
      })
      (record { vars = ap (λ (x : EngineState). x.vars) loads.is; held = ap (λ (x : EngineState). x.held) loads.is })
