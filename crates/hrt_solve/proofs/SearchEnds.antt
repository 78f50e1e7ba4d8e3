-- What a search starts from, and what it ends in: what can be claimed then, and what is told.
use Rattle.std.proofs.Common.{◌≡◌, ℕ, ◌-◌, ◌<◌, ◌≤◌, ◌^◌, Bool, true, false, List, [], ◌∷◌, ◌++◌, append-nil, length, pos, neg_ℤ, ◌≤ℤ◌, refl, sym, ap, ◌∙◌, subst, arith}
use Rattle.std.specs.Prelude.{Option, Some, IsTrue}
use Rattle.std.specs.List.{All}
use Rattle.std.specs.List.Sorted.{IsStrictlyIncreasing}
use Rattle.std.proofs.lemmas.Bool.{eq-eqb, true≢false}
use Rattle.std.proofs.lemmas.Int.{ints}
use Rattle.std.proofs.lemmas.List.{length-map}
use Rattle.std.proofs.lemmas.Nat.{pow_pos}
use Rattle.hrt_base.specs.declared.numbered.PairNo.{PairNo}
use Rattle.hrt_base.specs.declared.numbered.RowNo.{RowNo}
use Rattle.pb_rows.specs.Formula.{row_of}
use Rattle.rank_tables.specs.Instance.{Lists, pair_count}
use Rattle.rank_tables.specs.Numbers.{is_in}
use Rattle.rank_tables.specs.Stability.{Best, is_weakly_stable}
use Rattle.rank_tables.specs.Tables.{IsPairNo, numbers_of}
use Rattle.stability_model.specs.Model.{formula}
use Rattle.proof_lines.specs.declared.line.Claim.{Claim}
use Rattle.proof_rules.specs.Notes.{LearnedRow}
use Rattle.proof_rules.specs.Texts.{IsValidText}
use Rattle.proof_rules.specs.Told.{Tells, learned_rows, notes_of}
use Rattle.proof_rules.specs.Valid.{Proving}
use Rattle.proof_rules.proofs.Matchings.{verified_bounds}
use Rattle.derivation.specs.Derived.{Derived, StandsFor, place_of}
use Rattle.derivation.specs.Steps.{end_lines}
use Rattle.conflict_bound.specs.Conflicts.{AreLater}
use Rattle.conflict_bound.proofs.Counted.{notes_counted, notes_fresh}
use Rattle.conflict_bound.proofs.Stretches.{stretches_short}
use Rattle.lazy_stability.specs.Laws.{AreRowsLazy}
use Rattle.search_measure.proofs.Recorded.{learn_nothing}
use Rattle.matching_log.specs.Logged.{ceiling_row, larger_row, value_of}
use Rattle.pb_search.specs.declared.found.Found.{Found}
use Rattle.pb_search.specs.declared.found.Found.TheVariants as found
use Rattle.pb_search.specs.Knowing.{CanSearch, HoldsOpening, IsFound}
use Rattle.pb_search.specs.Tried.{Finds, Searches}
use Rattle.hrt_solve.specs.declared.ends.SolveEnd.{SolveEnd}
use Rattle.hrt_solve.specs.declared.starting.Started.{Started}
use Rattle.hrt_solve.specs.Gauged.{AreNumbersOf, HasBoundRow, IsMost, found_claim}
use Rattle.hrt_solve.specs.Lawful.{IsLawfulSoFar, IsLawfulWith}
use Rattle.hrt_solve.specs.Started.{HoldsBeside, IsStarted, bound_numbers}
use Rattle.hrt_solve.specs.Claimed.{AreParts, CanClaim, EndsAt, EndsProof}
use Rattle.hrt_solve.specs.Searched.{IsSolveEnd, IsSolveProof, LearnsLater, LeavesOpen, solve_claim}
use Rattle.hrt_solve.specs.Writing.{IsProof, IsQuickEnd}
use Rattle.hrt_solve.proofs.Claiming.{best_shown, found_shown, found_writable}

-- ---- the start

module _ (lists : Lists) (s : Started) (d : Derived) (bound : RowNo) (st : IsStarted lists s d) (row_is : s.gauged.row ≡ Some bound) where
  bound_live_first : row_of bound.0 d.state.live ≡ Some (ceiling_row lists s.gauged.end.ceiling)
  bound_live_first = subst (λ (id : Option RowNo). HasBoundRow lists s.gauged.end.ceiling id d) row_is st.gauged.bound

  opening : HoldsOpening s.gauged.gone bound s.larger d
  opening =
      let holds : HoldsBeside s.gauged.gone (bound.0 ∷ s.larger.0 ∷ []) d = subst (λ (id : Option RowNo). HoldsBeside s.gauged.gone (bound_numbers id ++ s.larger.0 ∷ []) d) row_is st.holds in
      record { pairs = holds.pairs; units = holds.units; distinct = holds.distinct; holds = holds.holds; unlearned = holds.unlearned }

  first_found : IsFound s.pairs.items d
  first_found = record {
    numbers = subst (λ (l : Lists). All (λ p. IsPairNo l p.0) s.pairs.items) (sym st.gauged.lists_are) st.first.numbers;
    rising = st.first.rising;
    stable = subst (λ (l : Lists). IsTrue (is_weakly_stable l (numbers_of s.pairs.items))) (sym st.gauged.lists_are) st.first.stable;
    least = st.least ∙ ap (λ (n : ℕ). Some (value_of n)) st.first.size_is;
  }

  pub can_search : (first : List PairNo) → first ≡ s.pairs.items → s.size < s.gauged.end.ceiling → CanSearch s.gauged.gone s.gauged.end.ceiling bound s.larger first d
  can_search first is shorter = subst (λ (ps : List PairNo). CanSearch s.gauged.gone s.gauged.end.ceiling bound s.larger ps d) (sym is) (record {
    ready = st.lawful.ready;
    opening = opening;
    found = first_found;
    shorter = omega (arith, shorter, st.first.size_is);
    few = subst (λ (l : Lists). s.gauged.end.ceiling ≤ pair_count l) (sym st.gauged.lists_are) st.few;
    first_held = st.holds.first;
    top = bound_live_first ∙ ap (λ (l : Lists). Some (ceiling_row l s.gauged.end.ceiling)) (sym st.gauged.lists_are);
    larger = st.asks ∙ ap (λ (l : Lists). Some (larger_row l s.size)) (sym st.gauged.lists_are) ∙ ap (λ (n : ℕ). Some (larger_row d.lists n)) st.first.size_is;
    behind_model = st.lawful.behind_model;
  })

-- ---- what was found

pub parts_are : (budget top : ℕ) (d : Derived) (f : Found) (pairs : List PairNo) (best : Bool) → AreParts f pairs best → Finds budget top d f → IsFound pairs d × EndsAt budget top (length pairs) d best
parts_are budget top d (found.Best v) pairs best is finds =
    (subst (λ (ps : List PairNo). IsFound ps d) (sym is.0) finds.0, subst (λ (b : Bool). EndsAt budget top (length pairs) d b) (sym is.1) finds.1)
parts_are budget top d (found.Bounded v) pairs best is finds = (
  subst (λ (ps : List PairNo). IsFound ps d) (sym is.0) finds.0,
  subst (λ (b : Bool). EndsAt budget top (length pairs) d b) (sym is.1) (subst (λ (ps : List PairNo). length ps < top) (sym is.0) finds.1, finds.2),
)

no_larger : (n k : ℕ) → pos n ≤ℤ neg_ℤ (value_of k) → n ≤ k
no_larger n k h = omega (arith, ints)

-- ---- what can be claimed

module _ (budget : ℕ) (lists : Lists) (s : Started) (d now : Derived) (bound : RowNo) (st : IsStarted lists s d) (row_is : s.gauged.row ≡ Some bound) (searches : Searches budget s.gauged.end.ceiling bound d now) where
  searched_lists : now.lists ≡ lists
  searched_lists = searches.goes_on.lists ∙ st.gauged.lists_are

  searched_so_far : IsLawfulSoFar lists now
  searched_so_far =
      let l : IsLawfulWith lists (Some bound) d = subst (λ (id : Option RowNo). IsLawfulWith lists id d) row_is st.lawful in
      let r = searches.lawful [] l.told l.stands l.marked.0 in
      record { told = r.0; stands = r.1; ready = searches.ready; units = λ p gone. ap (is_in p) r.3 ∙ l.units p gone; bound = λ _. r.2 }

  searched_bound : HasBoundRow lists s.gauged.end.ceiling (Some bound) now
  searched_bound = searches.bound_live ∙ ap (λ (l : Lists). Some (ceiling_row l s.gauged.end.ceiling)) searched_lists

  module _ (pairs : List PairNo) (is_found : IsFound pairs now) where
    found_stable : IsTrue (is_weakly_stable lists (numbers_of pairs))
    found_stable = subst (λ (l : Lists). IsTrue (is_weakly_stable l (numbers_of pairs))) searched_lists is_found.stable

    pub found_within : length pairs ≤ s.gauged.end.ceiling
    found_within = omega (arith, length-map pairs (λ p. p.0), st.most (numbers_of pairs) found_stable)

    claims_by : (best : Bool) → EndsAt budget s.gauged.end.ceiling (length pairs) now best → CanClaim lists (solve_claim best s.gauged.end.ceiling (length pairs)) now
    claims_by true ends = record {
      lists_are = searched_lists;
      so_far = searched_so_far;
      shown = best_shown lists (length pairs) now ends is_found.least;
      writable = found_writable (length pairs) (length pairs) (omega (arith, st.small, found_within)) (omega (arith, st.small, found_within));
    }
    claims_by false ends = record {
      lists_are = searched_lists;
      so_far = searched_so_far;
      shown = found_shown lists s.gauged.end.ceiling (length pairs) (Some bound) now searched_bound is_found.least found_within;
      writable = found_writable s.gauged.end.ceiling (length pairs) (omega (arith, st.small)) (omega (arith, st.small, found_within));
    }

    pub claims_found : (best : Bool) (size : ℕ) (claim : Claim) → size ≡ length pairs → claim ≡ solve_claim best s.gauged.end.ceiling size → EndsAt budget s.gauged.end.ceiling (length pairs) now best → CanClaim lists claim now
    claims_found best size claim size_is is ends =
        subst (λ (c : Claim). CanClaim lists c now) (sym (is ∙ ap (solve_claim best s.gauged.end.ceiling) size_is)) (claims_by best ends)

    -- ---- the proof that is ended

    module _ (best : Bool) (claim : Claim) (done : Derived) (ends : EndsAt budget s.gauged.end.ceiling (length pairs) now best) (ended : EndsProof lists claim now done) where
      stands_now : StandsFor [] now
      stands_now = searched_so_far.stands.stands

      -- the last lines learn nothing
      same_learned : learned_rows (notes_of lists done.pending) ≡ learned_rows (notes_of lists now.pending)
      same_learned =
          let none = learn_nothing now done (record { lists = ap (λ (x : Derived). x.lists) ended.is; more = end_lines claim; pending = ap (λ (x : Derived). x.pending) ended.is; valid = ended.valid }) (ap (λ (x : Derived). x.held.learn_notes) ended.is) [] stands_now in
          subst (λ (l : Lists). learned_rows (notes_of l done.pending) ≡ learned_rows (notes_of l now.pending)) searched_lists (none ∙ append-nil (learned_rows (notes_of now.lists now.pending)))

      learns_later : LearnsLater lists done.pending
      learns_later =
          subst (AreLater (pair_count lists)) (sym same_learned)
          (subst (λ (l : Lists). AreLater (pair_count l) (learned_rows (notes_of l now.pending))) searched_lists (searches.later [] st.lawful.stands.stands))

      learned_few : now.held.learn_notes ≤ 2 ^ pair_count lists - 1
      learned_few =
          subst (λ (n : ℕ). n ≤ 2 ^ pair_count lists - 1) (notes_counted lists done.pending ended.is_proof.notes_true ∙ ended.is_proof.learned_are)
          (stretches_short (pair_count lists) (learned_rows (notes_of lists done.pending)) (notes_fresh lists done.pending ended.is_proof.notes_true) learns_later)

      spent : (b : Bool) → EndsAt budget s.gauged.end.ceiling (length pairs) now b → b ≡ false → now.held.learn_notes ≡ budget
      spent true e false_is = absurd (cc)
      spent false e false_is = e.1.spent

      told_here : Tells lists now.pending (Proving now.state) now.held
      told_here =
          subst (λ (l : Lists). Tells l now.pending (Proving now.state) now.held) searched_lists
          (subst (λ (c : Option Claim). Tells now.lists now.pending (place_of c now.state) now.held) searches.ready.unconcluded stands_now.tells)

      leaves_open : (b : Bool) → EndsAt budget s.gauged.end.ceiling (length pairs) now b → b ≡ false → LeavesOpen lists done.pending
      leaves_open true e false_is = absurd (cc)
      leaves_open false e false_is = record {
        front = now.pending;
        claim = claim;
        is = ap (λ (x : Derived). x.pending) ended.is;
        state = now.state;
        held = now.held;
        tells = told_here;
        unrefuted = e.1.unrefuted;
      }

      pub solve_proved : (size learned : ℕ) → claim ≡ solve_claim best s.gauged.end.ceiling size → size ≡ length pairs → learned ≡ now.held.learn_notes → IsSolveProof lists budget s.gauged.end.ceiling (length pairs) learned best done.pending
      solve_proved size learned claim_is size_is learned_is = subst (λ (n : ℕ). IsSolveProof lists budget s.gauged.end.ceiling (length pairs) n best done.pending) (sym learned_is) (record {
        is_proof = subst (λ (c : Claim). IsProof lists done.pending c now.held.learn_notes) (claim_is ∙ ap (solve_claim best s.gauged.end.ceiling) size_is) ended.is_proof;
        lazy = ended.lazy;
        later = learns_later;
        few = learned_few;
        within = searches.within;
        spent = spent best ends;
        left_open = leaves_open best ends;
      })

      -- ---- what is told

      found_best : claim ≡ found_claim (length pairs) (length pairs) → Best lists (numbers_of pairs)
      found_best is = record {
        stable = found_stable;
        largest = λ m stable.
            let valid : IsValidText (formula lists) done.pending (found_claim (length pairs) (length pairs)) = subst (IsValidText (formula lists) done.pending) is ended.is_proof.valid in
            let most : length m ≤ length pairs = no_larger (length m) (length pairs) ((verified_bounds lists done.pending (found_claim (length pairs) (length pairs)) valid).0 m stable) in
            omega (arith, most, length-map pairs (λ p. p.0));
      }

      best_by : (b : Bool) → claim ≡ solve_claim b s.gauged.end.ceiling (length pairs) → b ≡ true → Best lists (numbers_of pairs)
      best_by true is e = found_best is
      best_by false is e = absurd (cc)

      shorter_by : (b : Bool) → EndsAt budget s.gauged.end.ceiling (length pairs) now b → b ≡ false → length pairs < s.gauged.end.ceiling
      shorter_by true e false_is = absurd (cc)
      shorter_by false e false_is = e.0

      settles_by : (b : Bool) → EndsAt budget s.gauged.end.ceiling (length pairs) now b → 2 ^ pair_count lists ≤ budget → b ≡ true
      settles_by true e enough = refl
      settles_by false e enough = absurd (omega (arith, learned_few, e.1.spent, enough, pow_pos (pair_count lists)))

      pub solve_ends : (end : SolveEnd) (size : ℕ) → s.size < s.gauged.end.ceiling → claim ≡ solve_claim best s.gauged.end.ceiling size → size ≡ length pairs → end.deleted ≡ s.gauged.end.deleted → end.ceiling ≡ s.gauged.end.ceiling → end.first ≡ s.size →
          end.pairs.items ≡ pairs → end.best ≡ best → IsSolveEnd lists budget end
      solve_ends end size shorter claim_is size_is deleted ceiling first pairs_are best_is = record {
        numbers = subst (λ (n : ℕ). AreNumbersOf lists end.deleted n) (sym ceiling) (subst (λ (n : ℕ). AreNumbersOf lists n s.gauged.end.ceiling) (sym deleted) st.numbers);
        most = subst (IsMost lists) (sym ceiling) st.most;
        first_is = first ∙ st.first.size_is ∙ sym (length-map s.pairs.items (λ p. p.0)) ∙ ap length st.first.are;
        unsearched = λ met. absurd (omega (arith, met, first, ceiling, shorter));
        stable = subst (λ (ps : List PairNo). IsTrue (is_weakly_stable lists (numbers_of ps))) (sym pairs_are) found_stable;
        rising = subst (λ (ps : List PairNo). IsStrictlyIncreasing (numbers_of ps)) (sym pairs_are) is_found.rising;
        best = λ is. subst (λ (ps : List PairNo). Best lists (numbers_of ps)) (sym pairs_are) (best_by best (claim_is ∙ ap (solve_claim best s.gauged.end.ceiling) size_is) (sym best_is ∙ is));
        shorter = λ is. let short = shorter_by best ends (sym best_is ∙ is) in omega (arith, short, ap length pairs_are, ceiling);
        settles = λ enough. best_is ∙ settles_by best ends enough;
      }

-- ---- where no search is entered

module _ (budget : ℕ) (lists : Lists) (s : Started) (d done : Derived) (end : SolveEnd) (st : IsStarted lists s d) (met : s.size ≡ s.gauged.end.ceiling) (said : IsQuickEnd lists end) (proof : IsProof lists done.pending (found_claim end.ceiling (length end.pairs.items)) end.conflicts) where
  same_ceiling : end.ceiling ≡ s.gauged.end.ceiling
  same_ceiling = said.numbers.ceiling_is.of_each st.numbers.gone st.numbers.are ∙ sym (st.numbers.ceiling_is.of_each st.numbers.gone st.numbers.are)

  same_size : length end.pairs.items ≡ s.size
  same_size = sym (length-map end.pairs.items (λ p. p.0)) ∙ ap length (said.pairs_are ∙ sym st.first.are) ∙ length-map s.pairs.items (λ p. p.0) ∙ sym st.first.size_is

  at_ceiling : length end.pairs.items ≡ end.ceiling
  at_ceiling = same_size ∙ met ∙ sym same_ceiling

  first_best : end.best ≡ true
  first_best = said.best_is ∙ eq-eqb (length end.pairs.items) end.ceiling at_ceiling

  nothing_learned : (rows : List LearnedRow) → length rows ≡ 0 → AreLater (pair_count lists) rows
  nothing_learned [] e = tt
  nothing_learned (row ∷ rows) e = absurd (omega (arith, e))

  pub first_proved : AreRowsLazy lists done.pending → IsSolveProof lists budget end.ceiling (length end.pairs.items) end.conflicts end.best done.pending
  first_proved lazy = record {
    is_proof = subst (λ (b : Bool). IsProof lists done.pending (solve_claim b end.ceiling (length end.pairs.items)) end.conflicts) (sym first_best)
        (subst (λ (n : ℕ). IsProof lists done.pending (found_claim n (length end.pairs.items)) end.conflicts) (sym at_ceiling) proof);
    lazy = lazy;
    later = nothing_learned (learned_rows (notes_of lists done.pending)) (notes_counted lists done.pending proof.notes_true ∙ proof.learned_are ∙ said.conflicts_are);
    few = omega (arith, said.conflicts_are);
    within = omega (arith, said.conflicts_are);
    spent = λ is. absurd (true≢false (sym first_best ∙ is));
    left_open = λ is. absurd (true≢false (sym first_best ∙ is));
  }

  pub first_ends : IsSolveEnd lists budget end
  first_ends = record {
    numbers = said.numbers;
    most = said.most;
    first_is = said.first_is ∙ sym (length-map end.pairs.items (λ p. p.0)) ∙ ap length said.pairs_are;
    unsearched = λ _. record { pairs_are = said.pairs_are; conflicts_are = said.conflicts_are; best = first_best };
    stable = said.stable;
    rising = subst IsStrictlyIncreasing (st.first.are ∙ sym said.pairs_are) st.first.rising;
    best = λ _. record { stable = said.stable; largest = λ m stable. omega (arith, said.most m stable, at_ceiling, length-map end.pairs.items (λ p. p.0)) };
    shorter = λ is. absurd (true≢false (sym first_best ∙ is));
    settles = λ _. first_best;
  }
