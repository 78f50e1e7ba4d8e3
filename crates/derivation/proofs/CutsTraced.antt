-- What a text tells after the lines of an analysis.
use Rattle.std.proofs.Common.{◌≡◌, ℕ, ◌+◌, ◌<◌, ◌≤◌, ◌==◌, Bool, true, false, ◌||◌, List, [], ◌∷◌, ◌++◌, length, get_or, refl, sym, ap, ◌∙◌, subst, inl, inr, arith}
use Rattle.std.specs.Prelude.{IsTrue, Option, Some, Result, Ok, Err}
use Rattle.std.specs.List.{All}
use Rattle.std.proofs.lemmas.Bool.{cases_lt, eq-eqb, eqb-true, false_from_ne_true, or_cases}
use Rattle.std.proofs.lemmas.List.Elements.{All-head, All-tail}
use Rattle.hrt_base.specs.declared.numbered.RowNo.{RowNo}
use Rattle.pb_rows.specs.Terms.{PlainRow}
use Rattle.pb_rows.specs.Formula.{NumberedRow, is_numbered}
use Rattle.rank_tables.specs.Instance.{Lists, pair_count}
use Rattle.rank_tables.specs.Numbers.{is_in}
use Rattle.stability_model.specs.Model.{rows}
use Rattle.proof_lines.specs.declared.line.Line.TheVariants.{Header, Count, Pol, Rup, Soli, Del, Output, Conclusion, End, Comment, Blank}
use Rattle.proof_lines.specs.declared.line.PolStep.{PolStep}
use Rattle.proof_rules.specs.Refusals.{Refusal, and_then}
use Rattle.proof_rules.specs.Pol.{pol_row}
use Rattle.proof_rules.specs.States.{AreNumbered, State, deleted, with_row}
use Rattle.proof_rules.specs.Valid.{Proving}
use Rattle.proof_rules.specs.Told.{Told}
use Rattle.proof_rules.specs.Held.{Held, NoneIsDeleted, is_held}
use Rattle.proof_rules.proofs.Held.{is_in-append}
use Rattle.derivation.specs.Derived.{Derived}
use Rattle.derivation.specs.Traces.{IsKnownStep, IsLawfulPol, Trace, most_between}
use Rattle.derivation.specs.Pieces.{ALine, ANote, Adds, CutsStayTraced, IsCutPiece, IsLawfulPiece, Piece, StandsTraced, TakesLine, TakesPiece, traced}
use Rattle.derivation.proofs.Forgotten.{MayGo, del_leads, none_deleted-left}
use Rattle.derivation.proofs.InOrder.{end_above}
use Rattle.derivation.proofs.NoneDeleted.{model_below}
use Rattle.derivation.proofs.Readiness.{none_deleted-push}
use Rattle.derivation.proofs.Traced.{open_place, piece_traced}

-- ---- what a line makes of a state

pol_leads : (r : Result PlainRow Refusal) (s t : State) → and_then r (λ row. Ok (with_row s row)) ≡ Ok t → (row : PlainRow) × (t ≡ with_row s row)
pol_leads (Ok row) s t e = (row, cc)
pol_leads (Err why) s t e = absurd (cc)

-- ---- what stays so

-- what holds between the lines of an analysis that began with this number and these held rows: the held rows are these and live, each
-- below the number; the rows made since are those of `pol` lines; and none was loaded
record Cuts (first : ℕ) (held : Held) (lists : Lists) (units loaded made : List ℕ) (d : Derived) (t : Trace) : Type 0 where
  lists_are : d.lists ≡ lists
  held_are : d.held ≡ held
  told_are : t.told.held ≡ held
  live : NoneIsDeleted lists d.state.live held
  next : first ≤ d.state.next
  since : t.since ≡ Some first
  units_are : t.units ≡ units
  loaded_are : t.loaded ≡ loaded
  made_here : (n : ℕ) → first ≤ n → n < d.state.next → is_in n t.made ≡ true
  made_before : (n : ℕ) → is_in n made ≡ true → is_in n t.made ≡ true

abbrev AreBelow : ℕ → Held → Type 0
AreBelow first held = (n : ℕ) → IsTrue (is_held held n) → n < first

may_go : (first : ℕ) (held : Held) (lists : Lists) (ids : List RowNo) → AreBelow first held → length (rows lists) < first → All (λ (id : RowNo). first ≤ id.0) ids → All (MayGo lists held) ids
may_go first held lists ids low behind all = λ i d k.
    let at = all i d k in
    (false_from_ne_true (is_held held (get_or ids i d).0) (λ h. let below = low (get_or ids i d).0 h in omega (arith, at, below)), omega (arith, at, behind))

-- ---- rows are never unmade

next_grows : (piece : Piece) (first : ℕ) (held : Held) (old new : Derived) → IsCutPiece held first piece → TakesPiece piece old new → old.state.next ≤ new.state.next
next_grows (ALine (Pol steps)) first held old new cut takes =
    let made = pol_leads (pol_row (pair_count old.lists) old.state.live steps) old.state new.state takes.takes.step.leads in
    let is : new.state.next ≡ old.state.next + 1 = ap (λ (s : State). s.next) made.1 in
    omega (arith, is)
next_grows (ALine (Del ids)) first held old new cut takes =
    let made = del_leads (deleted ids old.state.live) old.state new.state takes.takes.step.leads in
    let is : new.state.next ≡ old.state.next = ap (λ (s : State). s.next) made.2 in
    omega (arith, is)
next_grows (ALine Header) first held old new cut takes = absurd cut
next_grows (ALine (Count n)) first held old new cut takes = absurd cut
next_grows (ALine (Rup w)) first held old new cut takes = absurd cut
next_grows (ALine (Soli ls)) first held old new cut takes = absurd cut
next_grows (ALine Output) first held old new cut takes = absurd cut
next_grows (ALine (Conclusion c)) first held old new cut takes = absurd cut
next_grows (ALine End) first held old new cut takes = absurd cut
next_grows (ALine Comment) first held old new cut takes = absurd cut
next_grows (ALine Blank) first held old new cut takes = absurd cut
next_grows (ANote note) first held old new cut takes = absurd cut

all_grow : (pieces : List Piece) (first : ℕ) (held : Held) (old new : Derived) → All (IsCutPiece held first) pieces → Adds pieces old new → old.state.next ≤ new.state.next
all_grow [] first held old new cuts adds = let is : new.state.next ≡ old.state.next = ap (λ (d : Derived). d.state.next) adds in omega (arith, is)
all_grow (piece ∷ pieces) first held old new cuts adds =
    let one = next_grows piece first held old adds.0 (All-head (IsCutPiece held first) piece pieces cuts) adds.1 in
    let more = all_grow pieces first held adds.0 new (All-tail (IsCutPiece held first) piece pieces cuts) adds.2 in
    omega (arith, one, more)

-- ---- one line

module _ (first : ℕ) (held : Held) (lists : Lists) (units loaded made : List ℕ) (low : AreBelow first held) (behind : length (rows lists) < first) where
  spared : (d : Derived) (t : Trace) → Cuts first held lists units loaded made d t → NoneIsDeleted d.lists d.state.live d.held
  spared d t c = subst (λ (l : Lists). NoneIsDeleted l d.state.live d.held) (sym c.lists_are) (subst (NoneIsDeleted lists d.state.live) (sym c.held_are) c.live)

  pol_law : (steps : List PolStep) (old new : Derived) (t : Trace) → Cuts first held lists units loaded made old t → All (IsKnownStep held first) steps → TakesLine (Pol steps) old new → new.state.next ≤ first + most_between lists → IsLawfulPiece old t (ALine (Pol steps))
  pol_law steps old new t c known takes few =
      let row = pol_leads (pol_row (pair_count old.lists) old.state.live steps) old.state new.state takes.takes.step.leads in
      let is : new.state.next ≡ old.state.next + 1 = ap (λ (s : State). s.next) row.1 in
      let less : old.state.next < first + most_between lists = omega (arith, is, few) in (
        spared old t c,
        subst (λ (l : Lists). IsLawfulPol l old.state.next t.told.held t.since steps) (sym c.lists_are)
            (subst (λ (h : Held). IsLawfulPol lists old.state.next h t.since steps) (sym c.told_are)
            (subst (λ (o : Option ℕ). IsLawfulPol lists old.state.next held o steps) (sym c.since) (known, less))),
      )

  pol_cuts : (steps : List PolStep) (old new : Derived) (t : Trace) → Cuts first held lists units loaded made old t → TakesLine (Pol steps) old new → Cuts first held lists units loaded made new (traced (ALine (Pol steps)) old new t)
  pol_cuts steps old new t c takes =
      let row = pol_leads (pol_row (pair_count old.lists) old.state.live steps) old.state new.state takes.takes.step.leads in
      let is : new.state.next ≡ old.state.next + 1 = ap (λ (s : State). s.next) row.1 in
      let live_is : new.state.live ≡ old.state.live ++ record { number = old.state.next; row = row.0 } ∷ [] = ap (λ (s : State). s.live) row.1 in
      let held_now : new.held ≡ old.held = ap (λ (d : Derived). d.held) takes.takes.is in
      record {
        lists_are = ap (λ (d : Derived). d.lists) takes.takes.is ∙ c.lists_are;
        held_are = held_now ∙ c.held_are;
        told_are = held_now ∙ c.held_are;
        live = subst (λ (l : List NumberedRow). NoneIsDeleted lists l held) (sym live_is) (none_deleted-push lists old.state.live (record { number = old.state.next; row = row.0 } ∷ []) held c.live);
        next = omega (arith, is, c.next);
        since = c.since;
        units_are = c.units_are;
        loaded_are = c.loaded_are;
        made_here = λ n f l. is_in-append n t.made (old.state.next ∷ []) ∙ here n f (omega (arith, l, is));
        made_before = λ n i. is_in-append n t.made (old.state.next ∷ []) ∙ or_first (is_in n t.made) (is_in n (old.state.next ∷ [])) (c.made_before n i);
      }
    where
      or_first : (a b : Bool) → a ≡ true → (a || b) ≡ true
      or_first true b h = refl
      or_first false b h = absurd (cc)

      or_second : (a b : Bool) → b ≡ true → (a || b) ≡ true
      or_second true b h = refl
      or_second false b h = h

      here : (n : ℕ) → first ≤ n → n < old.state.next + 1 → (is_in n t.made || is_in n (old.state.next ∷ [])) ≡ true
      here n f l = elim (cases_lt n old.state.next) [
        | inl lt ↦ or_first (is_in n t.made) (is_in n (old.state.next ∷ [])) (c.made_here n f lt)
        | inr ge ↦ or_second (is_in n t.made) (is_in n (old.state.next ∷ [])) (or_first (old.state.next == n) false (eq-eqb old.state.next n (omega (arith, ge, l))))
      ]

  del_law : (ids : List RowNo) (old new : Derived) (t : Trace) → Cuts first held lists units loaded made old t → IsLawfulPiece old t (ALine (Del ids))
  del_law ids old new t c = (spared old t c, tt)

  del_cuts : (ids : List RowNo) (old new : Derived) (t : Trace) → Cuts first held lists units loaded made old t → All (λ (id : RowNo). first ≤ id.0) ids → TakesLine (Del ids) old new → Cuts first held lists units loaded made new (traced (ALine (Del ids)) old new t)
  del_cuts ids old new t c above takes =
      let gone = del_leads (deleted ids old.state.live) old.state new.state takes.takes.step.leads in
      let is : new.state.next ≡ old.state.next = ap (λ (s : State). s.next) gone.2 in
      let live_is : new.state.live ≡ gone.0 = ap (λ (s : State). s.live) gone.2 in
      let held_now : new.held ≡ old.held = ap (λ (d : Derived). d.held) takes.takes.is in
      record {
        lists_are = ap (λ (d : Derived). d.lists) takes.takes.is ∙ c.lists_are;
        held_are = held_now ∙ c.held_are;
        told_are = held_now ∙ c.held_are;
        live = subst (λ (l : List NumberedRow). NoneIsDeleted lists l held) (sym live_is) (none_deleted-left lists held ids old.state.live gone.0 (may_go first held lists ids low behind above) gone.1 c.live);
        next = omega (arith, is, c.next);
        since = c.since;
        units_are = c.units_are;
        loaded_are = c.loaded_are;
        made_here = λ n f l. c.made_here n f (omega (arith, l, is));
        made_before = c.made_before;
      }

  -- ---- all lines

  all_cuts : (text : List ℕ) (pieces : List Piece) (old new : Derived) (t : Trace) → StandsTraced text old t → Cuts first held lists units loaded made old t → All (IsCutPiece held first) pieces → Adds pieces old new → new.state.next ≤ first + most_between lists →
      (u : Trace) × StandsTraced text new u × Cuts first held lists units loaded made new u
  all_cuts text [] old new t st c cuts adds few =
      (t, subst (λ (d : Derived). StandsTraced text d t) (sym adds) st, subst (λ (d : Derived). Cuts first held lists units loaded made d t) (sym adds) c)
  all_cuts text (piece ∷ pieces) old new t st c cuts adds few =
      let more = all_grow pieces first held adds.0 new (All-tail (IsCutPiece held first) piece pieces cuts) adds.2 in
      let step = one piece (All-head (IsCutPiece held first) piece pieces cuts) adds.1 (omega (arith, more, few)) in
      all_cuts text pieces adds.0 new (traced piece old adds.0 t) (piece_traced text old adds.0 t piece st adds.1 step.0) step.1 (All-tail (IsCutPiece held first) piece pieces cuts) adds.2 few
    where
      one : (piece : Piece) → IsCutPiece held first piece → TakesPiece piece old adds.0 → adds.0.state.next ≤ first + most_between lists → IsLawfulPiece old t piece × Cuts first held lists units loaded made adds.0 (traced piece old adds.0 t)
      one (ALine (Pol steps)) cut takes low = (pol_law steps old adds.0 t c cut takes low, pol_cuts steps old adds.0 t c takes)
      one (ALine (Del ids)) cut takes low = (del_law ids old adds.0 t c, del_cuts ids old adds.0 t c cut takes)
      one (ALine Header) cut takes low = absurd cut
      one (ALine (Count n)) cut takes low = absurd cut
      one (ALine (Rup w)) cut takes low = absurd cut
      one (ALine (Soli ls)) cut takes low = absurd cut
      one (ALine Output) cut takes low = absurd cut
      one (ALine (Conclusion claim)) cut takes low = absurd cut
      one (ALine End) cut takes low = absurd cut
      one (ALine Comment) cut takes low = absurd cut
      one (ALine Blank) cut takes low = absurd cut
      one (ANote note) cut takes low = absurd cut

-- ---- an analysis that begins at a mark

-- the number of a live row is below the next one
numbered_below : (n low high : ℕ) (live : List NumberedRow) → AreNumbered low high live → is_numbered n live ≡ true → n < high
numbered_below n low high [] order i = absurd (cc)
numbered_below n low high (entry ∷ live) order i = elim (or_cases (entry.number == n) (is_numbered n live) i) [
  | inl e ↦ let is : entry.number ≡ n = eqb-true entry.number n e in let top = end_above (entry.number + 1) high live order.1 in omega (arith, is, top)
  | inr e ↦ numbered_below n (entry.number + 1) high live order.1 e
]

pub cuts_stay_traced : CutsStayTraced
cuts_stay_traced text old new t st begun order live since cuts =
    let told : t.told ≡ record { place = Proving old.state; held = old.held } = open_place text old t st begun in
    let low : AreBelow old.state.next old.held = λ n h. numbered_below n 1 old.state.next old.state.live order (live.held_live n h) in
    let behind : length (rows old.lists) < old.state.next = model_below old (record { unconcluded = begun; model_live = live.model_live; held_live = live.held_live }) order in
    let start : Cuts old.state.next old.held old.lists t.units t.loaded t.made old t = record {
      lists_are = refl;
      held_are = refl;
      told_are = ap (λ (x : Told). x.held) told;
      live = live;
      next = omega arith;
      since = since;
      units_are = refl;
      loaded_are = refl;
      made_here = λ n f l. absurd (omega (arith, f, l));
      made_before = λ n i. i;
    } in
    let all = all_cuts old.state.next old.held old.lists t.units t.loaded t.made low behind text cuts.pieces old new t st start cuts.cuts cuts.adds cuts.few in
    (all.0, all.1, record { since = all.2.since ∙ sym since; units = all.2.units_are; loaded = all.2.loaded_are; made_before = all.2.made_before; made_here = all.2.made_here })
