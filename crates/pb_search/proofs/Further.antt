-- After a candidate was tried a search knows what it must, and has less to do.
use Rattle.std.proofs.Common.{◌≡◌, ◌<◌, ◌≤◌, ◌+◌, ◌-◌, ◌||◌, ◌==◌, ℕ, Bool, true, false, not, nat_le, if◌then◌else◌, List, [], ◌∷◌, length, get_or, map, count_by, refl, sym, ap, ◌∙◌, subst, inl, inr, arith}
use Rattle.std.specs.Prelude.{Some, Option, ℤ, is_some, int_lt}
use Rattle.std.specs.List.{All}
use Rattle.std.specs.List.Sorted.{IsStrictlyIncreasing}
use Rattle.std.proofs.lemmas.Bool.{and_from, cases_lt, eq-eqb, le-leb, or_left}
use Rattle.std.proofs.lemmas.Bool.Decides.{nat_tests}
use Rattle.std.proofs.lemmas.Int.{ints}
use Rattle.std.proofs.lemmas.List.Elements.{All-cons, All-nil}
use Rattle.hrt_base.specs.declared.literal.Lit.{Lit}
use Rattle.hrt_base.specs.declared.numbered.PairNo.{PairNo}
use Rattle.hrt_base.specs.declared.numbered.RowNo.{RowNo}
use Rattle.pb_rows.specs.Terms.{PlainRow}
use Rattle.pb_rows.specs.Rows.{IsWellFormedRow, add}
use Rattle.pb_rows.specs.Formula.{row_of}
use Rattle.rank_tables.specs.Instance.{Lists, pair_count}
use Rattle.rank_tables.specs.Numbers.{is_in, numbers_to}
use Rattle.rank_tables.specs.Stability.{is_weakly_stable}
use Rattle.rank_tables.specs.Tables.{IsPairNo, numbers_of}
use Rattle.rank_tables.proofs.Numbers.{is_in-numbers_to}
use Rattle.stability_model.specs.Model.{pair_row_no, rows}
use Rattle.proof_lines.specs.declared.line.Line.TheVariants.{Pol, Soli}
use Rattle.proof_lines.specs.declared.line.PolStep.{PolStep}
use Rattle.proof_lines.specs.declared.line.PolStep.TheVariants.{Id, Add}
use Rattle.proof_lines.specs.declared.note.Note.{Note}
use Rattle.proof_rules.specs.Held.{Held as Noted, is_held}
use Rattle.proof_rules.specs.States.{IsInOrder as IsStateInOrder, smaller}
use Rattle.proof_rules.specs.Valid.{Proving}
use Rattle.proof_rules.specs.Told.{Told}
use Rattle.proof_rules.proofs.Held.{is_held-keeping, is_in-append}
use Rattle.proof_rules.proofs.Numbers.{none-from, numbered-push}
use Rattle.derivation.specs.Derived.{Derived, StaysValid}
use Rattle.derivation.specs.Pieces.{ALine, ANote, Piece, traced}
use Rattle.derivation.specs.Ready.{IsReady}
use Rattle.derivation.specs.Traces.{IsKnownStep, IsLawfulPol, Trace, since_line}
use Rattle.derivation.proofs.NoneDeleted.{none_deleted}
use Rattle.derivation.proofs.Rising.{numbered_is}
use Rattle.derivation.proofs.Traced.{open_place, pieces_traced}
use Rattle.conflict_bound.proofs.SetSizes.{count-fewer, count-more}
use Rattle.row_arena.specs.Held.{Held}
use Rattle.pb_propagate.specs.Engines.{EngineState}
use Rattle.agreement.specs.Agreement.{Agree, IsLiveIn}
use Rattle.agreement.specs.Kept.{HoldsBesides}
use Rattle.agreement.proofs.Growing.{grown}
use Rattle.agreement.proofs.Lines.{notes_hold}
use Rattle.agreement.proofs.Numbers.{or_first, or_second}
use Rattle.lazy_stability.specs.Candidates.{candidate}
use Rattle.lazy_stability.specs.Loads.{load_note, row_numbers_of}
use Rattle.lazy_stability.proofs.Lazy.{loads_lawful}
use Rattle.lazy_stability.proofs.Matched.{first_kept}
use Rattle.search_measure.specs.Recorded.{GoesOn}
use Rattle.matching_log.specs.Logged.{Closes, Logs, ceiling_row, larger_row, value_of}
use Rattle.matching_log.proofs.LoggedMatching.{larger_live}
use Rattle.matching_log.proofs.AfterLog.{closed_live, held_logged, larger_held, last_live, logged_live, ready_closed, ready_logged, still_held}
use Rattle.pb_search.specs.declared.moves.Move.{Move}
use Rattle.pb_search.specs.declared.moves.Move.TheVariants.{On, Best, Bounded}
use Rattle.pb_search.specs.Improving.{Improves, LogsLargest, LogsShorter}
use Rattle.pb_search.specs.Knowing.{HoldsRow, IsFound, Knows, work_left}
use Rattle.pb_search.specs.Loading.{LoadsBroken}
use Rattle.pb_search.specs.Searching.{AreJoined}
use Rattle.pb_search.specs.Tried.{GoesFurther, ReachesCeiling, StaysLawful, StaysMarked, TriesCandidate}
use Rattle.pb_search.proofs.Known.{found_kept}
use Rattle.pb_search.proofs.Lawful.{goes_note, goes_then, lawful_then}
use Rattle.pb_search.proofs.OpeningRows.{larger_short}

-- ---- work

-- where more is held, there are no more rows to load
no_more_rows : (d made : Derived) → made.lists ≡ d.lists → ((n : ℕ) → is_held d.held n ≡ true → is_held made.held n ≡ true) →
    count_by (λ p. not (is_held made.held (pair_row_no made.lists p))) (numbers_to (pair_count made.lists)) ≤ count_by (λ p. not (is_held d.held (pair_row_no d.lists p))) (numbers_to (pair_count d.lists))
no_more_rows d made lists more =
    subst (λ (l : Lists). count_by (λ p. not (is_held made.held (pair_row_no l p))) (numbers_to (pair_count l)) ≤ count_by (λ p. not (is_held d.held (pair_row_no d.lists p))) (numbers_to (pair_count d.lists))) (sym lists)
    (count-more (λ p. not (is_held made.held (pair_row_no d.lists p))) (λ p. not (is_held d.held (pair_row_no d.lists p))) (λ p out. unheld (is_held d.held (pair_row_no d.lists p)) (is_held made.held (pair_row_no d.lists p)) (more (pair_row_no d.lists p)) out) (numbers_to (pair_count d.lists)))
  where
    unheld : (b c : Bool) → (b ≡ true → c ≡ true) → not c ≡ true → not b ≡ true
    unheld true true h out = absurd (cc)
    unheld true false h out = absurd (let no_ = h refl in cc)
    unheld false c h out = refl

-- ---- a load

module _ (budget ceiling : ℕ) (bound : RowNo) (found pairs : List PairNo) (e new : EngineState) (d made : Derived) (joined : AreJoined budget e d) (knows : Knows ceiling bound found d) (some : 0 < length pairs)
    (each : All (λ (p : PairNo). IsPairNo d.lists p.0) pairs) (loads : LoadsBroken pairs e new d made) where
  note : Note
  note = load_note d.lists (candidate d.lists e) pairs

  same_lists : made.lists ≡ d.lists
  same_lists = ap (λ (x : Derived). x.lists) loads.note.is

  same_state : made.state ≡ d.state
  same_state = ap (λ (x : Derived). x.state) loads.note.is

  same_notes : made.held.learn_notes ≡ d.held.learn_notes
  same_notes = ap (λ (x : Derived). x.held.learn_notes) loads.note.is

  held_is : (n : ℕ) → is_held made.held n ≡ (is_held d.held n || is_in n (map (λ (id : RowNo). id.0) (row_numbers_of d.lists pairs)))
  held_is n = ap (λ (x : Derived). is_held x.held n) loads.note.is ∙ (notes_hold d (load_note d.lists (candidate d.lists e) pairs) tt).held n

  still : (n : ℕ) → is_held d.held n ≡ true → is_held made.held n ≡ true
  still n h = held_is n ∙ or_first (is_held d.held n) (is_in n (map (λ (id : RowNo). id.0) (row_numbers_of d.lists pairs))) h

  holds_still : (id : RowNo) (row : PlainRow) → HoldsRow id row d → HoldsRow id row made
  holds_still id row h = record { held = still id.0 h.held; live = ap (λ (x : Derived). row_of id.0 x.state.live) loads.note.is ∙ h.live }

  load_knows : Knows ceiling bound found made
  load_knows = record {
    found = found_kept found d made same_lists (ap (λ (x : Derived). x.state.least) loads.note.is) knows.found;
    shorter = knows.shorter;
    first = subst (λ (x : Derived). (n : ℕ) → 1 ≤ n → n ≤ pair_row_no x.lists 0 → is_in n x.held.kept ≡ true) (sym loads.note.is) (first_kept d (load_note d.lists (candidate d.lists e) pairs) knows.first);
    top = subst (λ (l : Lists). HoldsRow bound (ceiling_row l ceiling) made) (sym same_lists) (holds_still bound _ knows.top);
    improve = knows.improve;
    larger = subst (λ (l : Lists). HoldsRow knows.improve (larger_row l (length found)) made) (sym same_lists) (holds_still knows.improve _ knows.larger);
    behind_model = omega (arith, knows.behind_model, ap (λ (x : Derived). x.state.next) loads.note.is, ap (λ (l : Lists). length (rows l)) same_lists);
  }

  load_marked : StaysMarked d made
  load_marked text t stands since =
      let lawful = loads_lawful d made t (candidate d.lists e) pairs joined.ready (ap is_some since) loads.note in
      (_, pieces_traced text (ANote (load_note d.lists (candidate d.lists e) pairs) ∷ []) d made t _ stands lawful, ap (λ (x : Derived). Some x.state.next) (sym loads.note.is), refl)

  first_loaded : (ps : List PairNo) → 0 < length ps → is_in (pair_row_no d.lists (get_or ps 0 (record { 0 = 0 })).0) (map (λ (id : RowNo). id.0) (row_numbers_of d.lists ps)) ≡ true
  first_loaded [] h = absurd (omega arith)
  first_loaded (p ∷ ps) h = or_first (pair_row_no d.lists p.0 == pair_row_no d.lists p.0) (is_in (pair_row_no d.lists p.0) (map (λ (id : RowNo). id.0) (row_numbers_of d.lists ps))) (eq-eqb (pair_row_no d.lists p.0) (pair_row_no d.lists p.0) refl)

  load_less : work_left ceiling found made < work_left ceiling found d
  load_less =
      let none : PairNo = record { 0 = 0 } in
      let p : ℕ = (get_or pairs 0 none).0 in
      let range = each 0 none some in
      let out : is_held d.held (pair_row_no d.lists p) ≡ false = loads.fresh 0 none some in
      let now : is_held made.held (pair_row_no d.lists p) ≡ true = held_is (pair_row_no d.lists p) ∙ or_second (is_held d.held (pair_row_no d.lists p)) (is_in (pair_row_no d.lists p) (map (λ (id : RowNo). id.0) (row_numbers_of d.lists pairs))) (first_loaded pairs some) in
      let fewer = count-fewer (λ q. not (is_held made.held (pair_row_no d.lists q))) (λ q. not (is_held d.held (pair_row_no d.lists q))) (λ q gone. unheld (is_held d.held (pair_row_no d.lists q)) (is_held made.held (pair_row_no d.lists q)) (still (pair_row_no d.lists q)) gone) p
      (ap not now) (ap not out) (numbers_to (pair_count d.lists)) (is_in-numbers_to (pair_count d.lists) p ∙ and_from (nat_le 1 p) (nat_le p (pair_count d.lists)) (le-leb 1 p range.0) (le-leb p (pair_count d.lists) range.1)) in
      subst (λ (l : Lists). count_by (λ q. not (is_held made.held (pair_row_no l q))) (numbers_to (pair_count l)) + (ceiling - length found) < work_left ceiling found d) (sym same_lists) (omega (arith, fewer))
    where
      unheld : (b c : Bool) → (b ≡ true → c ≡ true) → not c ≡ true → not b ≡ true
      unheld true true h out = absurd (cc)
      unheld true false h out = absurd (let no_ = h refl in cc)
      unheld false c h out = refl

  pub loads_further : GoesFurther budget ceiling bound found found e new d made
  loads_further = record {
    level = loads.level;
    adds = loads.adds;
    joined = record { ready = loads.ready; agree = loads.agree; within = omega (arith, same_notes, joined.within) };
    goes_on = goes_note (load_note d.lists (candidate d.lists e) pairs) d made loads.note loads.valid;
    marked = load_marked;
    unlearned = same_notes;
    knows = load_knows;
    less = load_less;
  }

-- ---- a larger matching

smaller_is : (n k : ℕ) → n < k → (o : Option ℤ) → o ≡ Some (value_of n) → smaller o (value_of k) ≡ value_of k
smaller_is n k less o is = subst (λ (x : Option ℤ). smaller x (value_of k) ≡ value_of k) (sym is) (ap (λ (b : Bool). if b then value_of k else value_of n) (below n k less))
  where
    below : (n k : ℕ) → n < k → int_lt (value_of k) (value_of n) ≡ true
    below n k less = grind (arith, ints, nat_tests)

module _ (budget ceiling : ℕ) (bound : RowNo) (before pairs : List PairNo) (e : EngineState) (d made : Derived) (larger : RowNo) (joined : AreJoined budget e d) (order : IsStateInOrder d.state) (knows : Knows ceiling bound before d) (each : All (λ (p : PairNo). IsPairNo d.lists p.0) pairs)
    (rising : IsStrictlyIncreasing (numbers_of pairs)) (stable : is_weakly_stable d.lists (numbers_of pairs) ≡ true) (longer : length before < length pairs) (logs : Logs (length pairs) larger d made) (valid : StaysValid d made) where
  logged_lists : made.lists ≡ d.lists
  logged_lists = ap (λ (x : Derived). x.lists) logs.is

  logged_next : made.state.next ≡ d.state.next + 1
  logged_next = ap (λ (x : Derived). x.state.next) logs.is

  logged_notes : made.held.learn_notes ≡ d.held.learn_notes
  logged_notes = ap (λ (x : Derived). x.held.learn_notes) logs.is

  logged_still : (n : ℕ) → is_held d.held n ≡ true → is_held made.held n ≡ true
  logged_still n h = ap (λ (x : Noted). is_held x n) (held_logged (length pairs) larger d made logs) ∙ still_held d.held d.state.next n h

  logged_holds : (id : RowNo) (row : PlainRow) → HoldsRow id row d → HoldsRow id row made
  logged_holds id row h = record { held = logged_still id.0 h.held; live = logged_live (length pairs) larger d made logs id.0 row h.live }

  pub logged_goes : GoesOn d made
  logged_goes = record { lists = logged_lists; more = logs.text; pending = ap (λ (x : Derived). x.pending) logs.is; valid = valid }

  pub logged_found : IsFound pairs made
  logged_found = record {
    numbers = subst (λ (l : Lists). All (λ (p : PairNo). IsPairNo l p.0) pairs) (sym logged_lists) each;
    rising = rising;
    stable = subst (λ (l : Lists). is_weakly_stable l (numbers_of pairs) ≡ true) (sym logged_lists) stable;
    least = ap (λ (x : Derived). x.state.least) logs.is ∙ ap (λ (v : ℤ). Some v) (smaller_is (length before) (length pairs) longer d.state.least knows.found.least);
  }

  pub logged_marked : StaysMarked d made
  logged_marked text t stands since =
      let ls : List Lit = logs.adds.0 in
      let told : Trace = traced (ALine (Soli ls)) d made t in (
        told,
        pieces_traced text (ALine (Soli ls) ∷ []) d made t told stands (made, logs.adds.1, (none_deleted d joined.ready, knows.behind_model), (refl, refl)),
        ap (since_line d.state.next (Soli ls)) since ∙ ap (λ (n : ℕ). Some n) (sym logged_next),
        refl,
      )

  pub logged_knows : length pairs < ceiling → Knows ceiling bound pairs made
  logged_knows shorter = record {
    found = logged_found;
    shorter = shorter;
    first = λ n first last. ap (λ (x : Noted). is_in n x.kept) (held_logged (length pairs) larger d made logs) ∙ is_in-append n d.held.kept (d.state.next ∷ []) ∙ or_first (is_in n d.held.kept) (is_in n (d.state.next ∷ [])) (knows.first n first (subst (λ (l : Lists). n ≤ pair_row_no l 0) logged_lists last));
    top = subst (λ (l : Lists). HoldsRow bound (ceiling_row l ceiling) made) (sym logged_lists) (logged_holds bound _ knows.top);
    improve = larger;
    larger = record { held = larger_held (length pairs) larger d made logs; live = larger_live (length pairs) larger d made logs order };
    behind_model = omega (arith, knows.behind_model, logged_next, ap (λ (l : Lists). length (rows l)) logged_lists);
  }

  pub logged_ceiling : row_of bound.0 made.state.live ≡ Some (ceiling_row made.lists ceiling)
  logged_ceiling = logged_live (length pairs) larger d made logs bound.0 _ knows.top.live ∙ ap (λ (l : Lists). Some (ceiling_row l ceiling)) (sym logged_lists)

-- a number that isn't below the next one is no live row's
below_next : (n : ℕ) (d : Derived) → IsStateInOrder d.state → IsReady d → is_held d.held n ≡ true → n < d.state.next
below_next n d order ready h = elim (cases_lt n d.state.next) [
  | inl less ↦ less
  | inr more ↦ absurd (numbered_is n d.state.live (ready.held_live n h) (none-from n 1 d.state.next d.state.live more order))
]

same_row : (a b : PlainRow) → Some a ≡ Some b → a ≡ b
same_row a b e = cc

-- ---- it is shorter than the ceiling

module _ (budget ceiling : ℕ) (bound : RowNo) (before pairs : List PairNo) (e new : EngineState) (d made : Derived) (joined : AreJoined budget e d) (order : IsStateInOrder d.state) (knows : Knows ceiling bound before d) (each : All (λ (p : PairNo). IsPairNo d.lists p.0) pairs)
    (rising : IsStrictlyIncreasing (numbers_of pairs)) (stable : is_weakly_stable d.lists (numbers_of pairs) ≡ true) (longer : length before < length pairs) (few : pair_count d.lists ≤ 100000) (s : LogsShorter ceiling pairs e new d made) where
  id : RowNo
  id = s.larger

  added : Held
  added = record { place = s.adds.place; row = s.adds.row; tag = s.larger.0 }

  lists_are : made.lists ≡ d.lists
  lists_are = logged_lists budget ceiling bound before pairs e d made s.larger joined order knows each rising stable longer s.logs s.valid

  unheld : is_held d.held s.larger.0 ≡ false
  unheld = by (is_held d.held s.larger.0) refl
    where
      by : (b : Bool) → is_held d.held s.larger.0 ≡ b → b ≡ false
      by false e = refl
      by true e = absurd (let under = below_next s.larger.0 d order joined.ready e in omega (arith, under, s.logs.number))

  besides : HoldsBesides (s.larger.0 ∷ []) d made
  besides = record {
    lists = lists_are;
    held = λ n. ap (λ (x : Noted). is_held x n) (held_logged (length pairs) s.larger d made s.logs) ∙ is_held-keeping d.held (d.state.next ∷ []) n ∙ ap (λ (k : ℕ). is_held d.held n || is_in n (k ∷ [])) (sym s.logs.number);
    rows = λ n row h live. logged_live (length pairs) s.larger d made s.logs n row live;
  }

  row_is : larger_row made.lists (length pairs) ≡ s.adds.row
  row_is = same_row (larger_row made.lists (length pairs)) s.adds.row (sym (larger_live (length pairs) s.larger d made s.logs order) ∙ s.adds.live)

  formed : IsLiveIn made added
  unfolding added
  formed = record {
    live = s.adds.live;
    formed = subst IsWellFormedRow row_is (subst (λ (l : Lists). IsWellFormedRow (larger_row l (length pairs))) (sym lists_are) (larger_short d.lists pairs few stable).formed);
  }

  agree_again : Agree new made
  unfolding added
  agree_again =
      grown e new d made (added ∷ []) (s.larger.0 ∷ []) joined.agree besides
      (record { tags_are = refl; distinct = refl; not_held = All-cons (λ (n : ℕ). is_held d.held n ≡ false) s.larger.0 [] unheld (All-nil (λ (n : ℕ). is_held d.held n ≡ false)); live = All-cons (IsLiveIn made) added [] formed (All-nil (IsLiveIn made)) })
      (record { vars = s.adds.vars; held = s.adds.held })

  pub shorter_further : GoesFurther budget ceiling bound before pairs e new d made
  shorter_further = record {
    level = s.adds.level;
    adds = s.adds.adds;
    joined = record { ready = ready_logged (length pairs) s.larger d made s.logs joined.ready; agree = agree_again; within = omega (arith, joined.within, ap (λ (x : Derived). x.held.learn_notes) s.logs.is) };
    goes_on = logged_goes budget ceiling bound before pairs e d made s.larger joined order knows each rising stable longer s.logs s.valid;
    marked = logged_marked budget ceiling bound before pairs e d made s.larger joined order knows each rising stable longer s.logs s.valid;
    unlearned = logged_notes budget ceiling bound before pairs e d made s.larger joined order knows each rising stable longer s.logs s.valid;
    knows = logged_knows budget ceiling bound before pairs e d made s.larger joined order knows each rising stable longer s.logs s.valid s.shorter;
    less = omega (arith, longer, s.shorter, no_more_rows d made lists_are (logged_still budget ceiling bound before pairs e d made s.larger joined order knows each rising stable longer s.logs s.valid));
  }

-- ---- it is as large as the ceiling

module _ (size : ℕ) (bound larger last : RowNo) (d made : Derived) (ready : IsReady d) (bound_held : is_held d.held bound.0 ≡ true) (larger_is_held : is_held d.held larger.0 ≡ true) (closes : Closes size bound larger last d made) where
  steps : List PolStep
  steps = Id bound ∷ Id larger ∷ Add ∷ []

  closed_lawful : StaysLawful d made
  unfolding steps
  closed_lawful text t stands since =
      let line : Piece = ALine (Pol steps) in
      let told : Trace = traced line d made t in
      (told, pieces_traced text (line ∷ []) d made t told stands (made, closes.adds, (none_deleted d ready, law), (refl, refl)), ap (λ (s : Option ℕ). is_some (since_line d.state.next (Pol steps) s)) since, refl)
    where
      place : t.told ≡ record { place = Proving d.state; held = d.held }
      place = open_place text d t stands ready.unconcluded

      same_held : (n : ℕ) → is_held d.held n ≡ true → is_held t.told.held n ≡ true
      same_held n h = ap (λ (x : Told). is_held x.held n) place ∙ h

      known : All (IsKnownStep t.told.held d.state.next) steps
      known =
          let P = IsKnownStep t.told.held d.state.next in
          All-cons P (Id bound) (Id larger ∷ Add ∷ []) (or_left (is_held t.told.held bound.0) (nat_le d.state.next bound.0) (same_held bound.0 bound_held))
          (All-cons P (Id larger) (Add ∷ []) (or_left (is_held t.told.held larger.0) (nat_le d.state.next larger.0) (same_held larger.0 larger_is_held)) (All-cons P Add [] tt (All-nil P)))

      law : IsLawfulPol d.lists d.state.next t.told.held t.since steps
      law = subst (λ (s : Option ℕ). IsLawfulPol d.lists d.state.next t.told.held s steps) (sym since) (known, omega arith)

  closed_goes : StaysValid d made → GoesOn d made
  closed_goes valid = record { lists = ap (λ (x : Derived). x.lists) closes.is; more = closes.text; pending = ap (λ (x : Derived). x.pending) closes.is; valid = valid }

module _ (budget ceiling : ℕ) (bound : RowNo) (before pairs : List PairNo) (e : EngineState) (d made : Derived) (joined : AreJoined budget e d) (order : IsStateInOrder d.state) (knows : Knows ceiling bound before d) (each : All (λ (p : PairNo). IsPairNo d.lists p.0) pairs)
    (rising : IsStrictlyIncreasing (numbers_of pairs)) (stable : is_weakly_stable d.lists (numbers_of pairs) ≡ true) (longer : length before < length pairs) (l : LogsLargest ceiling bound pairs d made) where
  mid_ready : IsReady l.logged
  mid_ready = ready_logged (length pairs) l.larger d l.logged l.logs joined.ready

  mid_held : is_held l.logged.held bound.0 ≡ true
  mid_held = logged_still budget ceiling bound before pairs e d l.logged l.larger joined order knows each rising stable longer l.logs l.logged_valid bound.0 knows.top.held

  mid_order : IsStateInOrder l.logged.state
  mid_order = subst (λ (x : Derived). IsStateInOrder x.state) (sym l.logs.is) (numbered-push 1 d.state.next d.state.live (larger_row d.lists (length pairs)) order)

  lists_after : made.lists ≡ l.logged.lists
  lists_after = ap (λ (x : Derived). x.lists) l.closes.is

  pub largest_reaches : ReachesCeiling ceiling bound pairs d made
  largest_reaches = record {
    goes_on = goes_then d l.logged made (logged_goes budget ceiling bound before pairs e d l.logged l.larger joined order knows each rising stable longer l.logs l.logged_valid)
        (closed_goes (length pairs) bound l.larger l.last l.logged made mid_ready mid_held (larger_held (length pairs) l.larger d l.logged l.logs) l.closes l.closed_valid);
    lawful = lawful_then d l.logged made (logged_marked budget ceiling bound before pairs e d l.logged l.larger joined order knows each rising stable longer l.logs l.logged_valid)
        (closed_lawful (length pairs) bound l.larger l.last l.logged made mid_ready mid_held (larger_held (length pairs) l.larger d l.logged l.logs) l.closes);
    unlearned = ap (λ (x : Derived). x.held.learn_notes) l.closes.is ∙ ap (λ (x : Derived). x.held.learn_notes) l.logs.is;
    ready = ready_closed (length pairs) bound l.larger l.last l.logged made l.closes mid_ready;
    found = found_kept pairs l.logged made lists_after (ap (λ (x : Derived). x.state.least) l.closes.is) (logged_found budget ceiling bound before pairs e d l.logged l.larger joined order knows each rising stable longer l.logs l.logged_valid);
    met = l.met;
    bound_live = closed_live (length pairs) bound l.larger l.last l.logged made l.closes bound.0 _ (logged_ceiling budget ceiling bound before pairs e d l.logged l.larger joined order knows each rising stable longer l.logs l.logged_valid)
        ∙ ap (λ (x : Lists). Some (ceiling_row x ceiling)) (sym lists_after);
    contradiction = record { id = l.last; row = add (ceiling_row l.logged.lists (length pairs)) (larger_row l.logged.lists (length pairs)); live = last_live (length pairs) bound l.larger l.last l.logged made l.closes mid_order; contradicts = l.closes.contradicts };
  }

-- ---- by the move

pub tried : (budget ceiling : ℕ) (bound : RowNo) (before pairs : List PairNo) (e new : EngineState) (d made : Derived) (move : Move) → AreJoined budget e d → IsStateInOrder d.state → Knows ceiling bound before d → All (λ (p : PairNo). IsPairNo d.lists p.0) pairs →
    IsStrictlyIncreasing (numbers_of pairs) → is_weakly_stable d.lists (numbers_of pairs) ≡ true → length before < length pairs → pair_count d.lists ≤ 100000 → Improves ceiling bound pairs e new d made move → TriesCandidate budget ceiling bound before pairs e new d made move
tried budget ceiling bound before pairs e new d made On joined order knows each rising stable longer few s = shorter_further budget ceiling bound before pairs e new d made joined order knows each rising stable longer few s
tried budget ceiling bound before pairs e new d made Best joined order knows each rising stable longer few l = largest_reaches budget ceiling bound before pairs e d made joined order knows each rising stable longer l
tried budget ceiling bound before pairs e new d made Bounded joined order knows each rising stable longer few b = absurd b
