-- The lines of a bound and of a first matching keep the law of a written proof, and so does the whole.
use Rattle.std.proofs.Common.{◌≡◌, ℕ, zero, suc, ◌+◌, ◌<◌, ◌==◌, true, false, ℤ, List, [], ◌∷◌, ◌++◌, nat_le, length, refl, sym, ap, ◌∙◌, subst, inl, inr, arith}
use Rattle.std.specs.Prelude.{is_some, Option, Some, None}
use Rattle.std.specs.List.{All}
use Rattle.std.proofs.lemmas.Bool.{eq-eqb, eqb-true, or_cases, or_left, or_right}
use Rattle.std.proofs.lemmas.List.Elements.{All-cons, All-nil}
use Rattle.hrt_base.specs.declared.literal.Lit.{Lit}
use Rattle.hrt_base.specs.declared.numbered.RowNo.{RowNo}
use Rattle.pb_rows.specs.Terms.{PlainRow}
use Rattle.pb_rows.specs.Formula.{NumberedRow, is_numbered}
use Rattle.rank_tables.specs.Numbers.{is_in}
use Rattle.rank_tables.specs.Instance.{Lists}
use Rattle.stability_model.specs.Gone.{AreGone}
use Rattle.stability_model.specs.Model.{formula, rows}
use Rattle.proof_lines.specs.declared.line.Claim.{Claim}
use Rattle.proof_lines.specs.declared.line.Line.TheVariants.{Conclusion, Count, Pol, Soli}
use Rattle.proof_lines.specs.declared.line.PolStep.TheVariants.{Id, Add}
use Rattle.proof_lines.specs.declared.note.Note.TheVariants.{Bound as BoundRow}
use Rattle.proof_rules.specs.Claims.{Shows}
use Rattle.proof_rules.specs.Valid.{Done, Proving}
use Rattle.proof_rules.specs.Told.{Told}
use Rattle.proof_rules.specs.Held.{Held, is_held, keeping}
use Rattle.proof_rules.proofs.Held.{is_held-keeping}
use Rattle.proof_rules.proofs.HeldLive.{held_live-keeping}
use Rattle.derivation.specs.Deletions.{Deletions, is_deleted}
use Rattle.derivation.specs.Derived.{Derived, StandsFor}
use Rattle.derivation.specs.Pieces.{ALine, ANote, Piece, StandsTraced, opened, traced}
use Rattle.derivation.specs.Ready.{IsReady}
use Rattle.derivation.specs.Steps.{IsWritable, concluded, first_derived, with_new_row, with_solution}
use Rattle.derivation.specs.Traces.{AreAllGone, IsKnownStep, IsLawfulPol, IsLawfulProof, IsLawfulText, Trace, since_line, trace_of}
use Rattle.derivation.proofs.EndsTraced.{ends_lawful, starts_traced}
use Rattle.derivation.proofs.NoneDeleted.{none_deleted}
use Rattle.derivation.proofs.Readiness.{ready_row}
use Rattle.derivation.proofs.Traced.{open_place, pieces_traced}
use Rattle.pair_reduction.specs.Added.{TellsUnits}
use Rattle.pair_reduction.specs.Reduced.{GoesOn, HoldsUnits}
use Rattle.capacity_bound.specs.Bound.{AddsBound, AddsBoundLawfully, DerivesBound}
use Rattle.matching_log.specs.Logged.{Closes, Logs}
use Rattle.hrt_solve.specs.Gauged.{HasBoundRow}
use Rattle.hrt_solve.specs.Lawful.{IsLawfulSoFar, IsLawfulWith, IsMarked}

-- ---- a row that is held

last_held : (held : Held) (k n : ℕ) → n ≡ k → is_held (keeping (k ∷ []) held) n ≡ true
last_held held k n e = is_held-keeping held (k ∷ []) n ∙ or_right (is_held held n) (is_in n (k ∷ [])) (or_left (k == n) false (eq-eqb k n (sym e)))

still_held : (held : Held) (k n : ℕ) → is_held held n ≡ true → is_held (keeping (k ∷ []) held) n ≡ true
still_held held k n h = is_held-keeping held (k ∷ []) n ∙ or_left (is_held held n) (is_in n (k ∷ [])) h

-- ---- the deletions and the bound row

none_told : (p : ℕ) → is_in p [] ≡ is_deleted [] p
none_told zero = refl
none_told (suc k) = refl

module _ (lists : Lists) (map : Deletions) (first reduced : Derived) (is_first : first ≡ first_derived lists) (count : IsWritable (Count (length (rows lists)))) (stands : StandsFor [] first) (are : AreGone lists (is_deleted map)) (on : GoesOn first reduced) (units : HoldsUnits first reduced map) where
  opened_tells : TellsUnits [] (opened lists)
  opened_tells = record { since = refl; units = none_told }

  begun : StandsTraced [] first (opened lists)
  begun = subst (λ (d : Derived). StandsTraced [] d (opened lists)) (sym is_first) (starts_traced lists count (subst (StandsFor []) is_first stands))

  reduced_told : Trace
  reduced_told = (units.notes.lawful (opened lists) opened_tells).0

  reduced_stands : StandsTraced [] reduced reduced_told
  unfolding reduced_told
  reduced_stands = pieces_traced [] units.notes.pieces first reduced (opened lists) reduced_told begun (units.notes.lawful (opened lists) opened_tells).1

  reduced_tells : TellsUnits map reduced_told
  unfolding reduced_told
  reduced_tells = (units.notes.lawful (opened lists) opened_tells).2

  all_gone : AreAllGone lists reduced_told.units
  all_gone p gone = reduced_tells.units p ∙ are.all p gone

  behind_first : length (rows reduced.lists) < reduced.state.next
  behind_first =
      let next : first.state.next ≡ length (rows lists) + 1 = ap (λ (d : Derived). d.state.next) is_first in
      let same : length (rows reduced.lists) ≡ length (rows lists) = ap (λ (l : Lists). length (rows l)) (on.lists ∙ ap (λ (d : Derived). d.lists) is_first) in
      omega (arith, next, same, on.later)

  pub lawful_bound : (id : Option RowNo) (new : Derived) → DerivesBound lists map id reduced new → AddsBoundLawfully lists map id reduced new → IsReady new → IsLawfulWith lists id new
  lawful_bound None new derived adds ready =
      subst (IsLawfulWith lists None) (sym adds) (record { told = reduced_told; stands = reduced_stands; ready = subst IsReady adds ready; behind_model = behind_first; units = all_gone; marked = reduced_tells.since })
  lawful_bound (Some id) new derived adds ready =
      let bound : AddsBound id reduced new reduced_told = adds are reduced_told reduced_tells.since in
      let next : new.state.next ≡ reduced.state.next + 1 = ap (λ (d : Derived). d.state.next) derived.is in
      let same : length (rows new.lists) ≡ length (rows reduced.lists) = ap (λ (d : Derived). length (rows d.lists)) derived.is in
      let held : new.held ≡ keeping (reduced.state.next ∷ []) reduced.held = ap (λ (d : Derived). d.held) derived.is in
      let number : id.0 ≡ reduced.state.next = ap (λ (r : RowNo). r.0) derived.number in
      record {
        told = bound.told;
        stands = pieces_traced [] (ALine (Pol bound.steps) ∷ ANote (BoundRow id) ∷ []) reduced new reduced_told bound.told reduced_stands bound.lawful;
        ready = ready;
        behind_model = omega (arith, next, same, behind_first);
        units = λ p gone. ap (is_in p) bound.units ∙ all_gone p gone;
        marked = (bound.since, ap (λ (h : Held). is_held h id.0) held ∙ last_held reduced.held reduced.state.next id.0 number);
      }

-- ---- the matching

last_numbered : (n : ℕ) (row : PlainRow) (live : List NumberedRow) → is_numbered n (live ++ record { number = n; row = row } ∷ []) ≡ true
last_numbered n row [] = or_left (n == n) false (eq-eqb n n refl)
last_numbered n row (entry ∷ live) = or_right (entry.number == n) (is_numbered n (live ++ record { number = n; row = row } ∷ [])) (last_numbered n row live)

only_last : (n k : ℕ) (row : PlainRow) (live : List NumberedRow) → is_in n (k ∷ []) ≡ true → is_numbered n (live ++ record { number = k; row = row } ∷ []) ≡ true
only_last n k row live i = elim (or_cases (k == n) false i) [
  | inl e ↦ subst (λ (j : ℕ). is_numbered j (live ++ record { number = k; row = row } ∷ []) ≡ true) (eqb-true k n e) (last_numbered k row live)
  | inr e ↦ absurd (cc)
]

ready_solution : (v : ℤ) (row : PlainRow) (text : List ℕ) (d : Derived) → IsReady d → IsReady (with_solution v row text d)
ready_solution v row text d ready =
    let pushed : IsReady (with_new_row row text d) = ready_row row text d ready in
    record {
      unconcluded = ready.unconcluded;
      model_live = pushed.model_live;
      held_live = held_live-keeping d.held (d.state.next ∷ []) (d.state.live ++ record { number = d.state.next; row = row } ∷ []) (λ n i. only_last n d.state.next row d.state.live i) pushed.held_live;
    }

-- a mark that makes a row: no row was made behind it
marked_again : (id : Option RowNo) (ls : List Lit) (old new : Derived) (t u : Trace) → new.state.next ≡ old.state.next + 1 → new.held ≡ keeping (old.state.next ∷ []) old.held → u.since ≡ since_line old.state.next (Soli ls) t.since → IsMarked id old t → IsMarked id new u
marked_again None ls old new t u next held is marked = is ∙ ap (since_line old.state.next (Soli ls)) marked
marked_again (Some id) ls old new t u next held is marked =
    (is ∙ ap (since_line old.state.next (Soli ls)) marked.0 ∙ ap (λ (n : ℕ). Some n) (sym next), ap (λ (h : Held). is_held h id.0) held ∙ still_held old.held old.state.next id.0 marked.1)

module _ (lists : Lists) (id : Option RowNo) (size : ℕ) (larger : RowNo) (old new : Derived) (logged : Logs size larger old new) where
  next_logged : new.state.next ≡ old.state.next + 1
  next_logged = ap (λ (d : Derived). d.state.next) logged.is

  held_logged : new.held ≡ keeping (old.state.next ∷ []) old.held
  held_logged = ap (λ (d : Derived). d.held) logged.is

  pub larger_held : is_held new.held larger.0 ≡ true
  larger_held = ap (λ (h : Held). is_held h larger.0) held_logged ∙ last_held old.held old.state.next larger.0 logged.number

  pub lawful_logged : IsLawfulWith lists id old → IsLawfulWith lists id new
  lawful_logged l =
      let ls : List Lit = logged.adds.0 in
      let told : Trace = traced (ALine (Soli ls)) old new l.told in
      let same : length (rows new.lists) ≡ length (rows old.lists) = ap (λ (d : Derived). length (rows d.lists)) logged.is in
      record {
        told = told;
        stands = pieces_traced [] (ALine (Soli ls) ∷ []) old new l.told told l.stands (new, logged.adds.1, (none_deleted old l.ready, l.behind_model), (refl, refl));
        ready = subst IsReady (sym logged.is) (ready_solution _ _ _ old l.ready);
        behind_model = omega (arith, same, next_logged, l.behind_model);
        units = l.units;
        marked = marked_again id ls old new l.told told next_logged held_logged refl l.marked;
      }

-- ---- the line that closes the bound

pub lawful_gauged : (lists : Lists) (n : ℕ) (id : Option RowNo) (d : Derived) → IsLawfulWith lists id d → HasBoundRow lists n id d → IsLawfulSoFar lists d
lawful_gauged lists n None d l has = record { told = l.told; stands = l.stands; ready = l.ready; units = l.units; bound = λ some. absurd (omega (arith, has, some)) }
lawful_gauged lists n (Some id) d l has = record { told = l.told; stands = l.stands; ready = l.ready; units = l.units; bound = λ some. ap is_some l.marked.0 }

module _ (lists : Lists) (size : ℕ) (id larger sum : RowNo) (old new : Derived) (l : IsLawfulWith lists (Some id) old) (held : is_held old.held larger.0 ≡ true) (closes : Closes size id larger sum old new) where
  before : l.told.told ≡ record { place = Proving old.state; held = old.held }
  before = open_place [] old l.told l.stands l.ready.unconcluded

  same_held : (n : ℕ) → is_held old.held n ≡ true → is_held l.told.told.held n ≡ true
  same_held n h = ap (λ (x : Told). is_held x.held n) before ∙ h

  known : All (IsKnownStep l.told.told.held old.state.next) (Id id ∷ Id larger ∷ Add ∷ [])
  known =
      let P = IsKnownStep l.told.told.held old.state.next in
      All-cons P (Id id) (Id larger ∷ Add ∷ []) (or_left (is_held l.told.told.held id.0) (nat_le old.state.next id.0) (same_held id.0 l.marked.1))
      (All-cons P (Id larger) (Add ∷ []) (or_left (is_held l.told.told.held larger.0) (nat_le old.state.next larger.0) (same_held larger.0 held)) (All-cons P Add [] tt (All-nil P)))

  law : IsLawfulPol old.lists old.state.next l.told.told.held l.told.since (Id id ∷ Id larger ∷ Add ∷ [])
  law =
      subst (λ (s : Option ℕ). IsLawfulPol old.lists old.state.next l.told.told.held s (Id id ∷ Id larger ∷ Add ∷ [])) (sym l.marked.0)
      (known, omega arith)

  pub lawful_closed : IsLawfulSoFar lists new
  lawful_closed =
      let line : Piece = ALine (Pol (Id id ∷ Id larger ∷ Add ∷ [])) in
      let told : Trace = traced line old new l.told in
      record {
        told = told;
        stands = pieces_traced [] (line ∷ []) old new l.told told l.stands (new, closes.adds, (none_deleted old l.ready, law), (refl, refl));
        ready = subst IsReady (sym closes.is) (ready_row _ closes.text old l.ready);
        units = l.units;
        bound = λ some. ap (λ (s : Option ℕ). is_some (since_line old.state.next (Pol (Id id ∷ Id larger ∷ Add ∷ [])) s)) l.marked.0;
      }

-- ---- the whole text

pub lawful_proof : (lists : Lists) (claim : Claim) (d new : Derived) → d.lists ≡ lists → IsLawfulSoFar lists d → IsWritable (Conclusion claim) → Shows (formula d.lists) d.state claim → new ≡ concluded claim d → IsLawfulProof lists new.pending
lawful_proof lists claim d new same l writable shown end =
    let ends : StandsTraced [] (concluded claim d) (record l.told { told = record { place = Done claim; held = d.held } }) = ends_lawful [] d l.told claim l.stands l.ready.unconcluded (none_deleted d l.ready) writable shown in
    let trace : trace_of lists (concluded claim d).pending ≡ record l.told { told = record { place = Done claim; held = d.held } } = ap (λ (x : Lists). trace_of x (concluded claim d).pending) (sym same) ∙ ends.trace in
    subst (λ (x : Derived). IsLawfulProof lists x.pending) (sym end) (record {
      lawful = subst (λ (x : Lists). IsLawfulText x (concluded claim d).pending) same ends.lawful;
      units = λ p gone. ap (λ (t : Trace). is_in p t.units) trace ∙ l.units p gone;
      bound = λ some. ap (λ (t : Trace). is_some t.since) trace ∙ l.bound some;
    })
