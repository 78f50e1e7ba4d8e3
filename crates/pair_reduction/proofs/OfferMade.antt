-- What the call that makes an offer's row asks for, and what it does.
use Rattle.std.proofs.Common.{◌≡◌, ℕ, ◌+◌, ◌-◌, ◌*◌, ◌<◌, ◌≤◌, ◌^◌, Bool, true, ◌==◌, take, List, [], ◌∷◌, ◌++◌, if◌then◌else◌, length, count_by, refl, sym, ap, ap₂, ◌∙◌, subst, arith}
use Rattle.std.specs.Prelude.{flat_map, Option, Some, None, Result, Ok, IsOk, is_ok, slice_get}
use Rattle.std.proofs.lemmas.Bool.{and_from, eq-eqb}
use Rattle.std.proofs.lemmas.Option.{slice_get_within}
use Rattle.std.proofs.lemmas.List.{take_all}
use Rattle.std.proofs.lemmas.List.Sums.{count_by-le-length, length-filter}
use Rattle.pb_rows.specs.Terms.{PlainRow, Written}
use Rattle.pb_rows.specs.Rows.{in_normal_form}
use Rattle.pb_rows.specs.Formula.{row_of}
use Rattle.rank_tables.specs.Numbers.{below, is_in, numbers_to}
use Rattle.rank_tables.specs.Instance.{Lists, capacity_of, pair_at, pair_count, rising_pairs_of_hospital, pairs_of_resident}
use Rattle.hrt_base.specs.declared.numbered.PairNo.{PairNo}
use Rattle.rank_tables.specs.Tables.{IsPairNo, numbers_of}
use Rattle.rank_tables.specs.WellFormed.{IsWellFormed}
use Rattle.rank_tables.proofs.Below.{length-numbers_to}
use Rattle.rank_tables.proofs.Numbers.{is_in-filter}
use Rattle.stability_model.specs.Model.{IsRow, has_any, hospital_has_pair, hospital_row, hospital_row_no, pair_row, pair_row_no, resident_rows, rows}
use Rattle.stability_model.specs.Gone.{has_only}
use Rattle.rank_tables.proofs.PairNumbers.{is_pair, pair_listed}
use Rattle.stability_model.proofs.Places.{names_hospital_row}
use Rattle.proof_lines.specs.declared.line.PolStep.{PolStep}
use Rattle.proof_lines.specs.declared.line.PolStep.TheVariants.{Id, Add}
use Rattle.proof_lines.specs.declared.line.Line.TheVariants.{Pol}
use Rattle.proof_lines.specs.Spelling.{row_no}
use Rattle.proof_lines.specs.Texts.{line_text}
use Rattle.proof_rules.specs.Refusals.{Refusal, and_then}
use Rattle.proof_rules.specs.Pol.{pol_row}
use Rattle.proof_rules.specs.States.{IsInOrder, State, with_row}
use Rattle.derivation.specs.Deletions.{AreUnitRows, Deletions, is_deleted}
use Rattle.derivation.specs.Derived.{Derived}
use Rattle.derivation.specs.Pieces.{TakesLine}
use Rattle.derivation.specs.Ready.{IsReady}
use Rattle.derivation.specs.Steps.{IsWritable, Takes, with_new_row}
use Rattle.pair_reduction.specs.Offers.{before_steps, is_before, offer_row, offer_steps, row_steps}
use Rattle.pair_reduction.proofs.OfferRow.{offer_made}
use Rattle.derivation.proofs.Writable.{AreGood, good_append, good_writable, live_good}
use Rattle.pair_reduction.proofs.Writable.{each_good}

-- ---- live rows of the model

got_within : (xs : List PlainRow) (i : ℕ) (x : PlainRow) → slice_get xs i ≡ Some x → i < length xs
got_within xs i x e = slice_get_within xs i x e

pub model_row : (lists : Lists) (d : Derived) (k : ℕ) (w : Written) → lists ≡ d.lists → IsReady d → 1 ≤ k → IsRow lists k w → row_of k d.state.live ≡ Some (in_normal_form w)
model_row lists d k w same ready first is =
    let is_so : slice_get (rows d.lists) (k - 1) ≡ Some (in_normal_form w) = ap (λ (l : Lists). slice_get (rows l) (k - 1)) (sym same) ∙ is in
    ready.model_live k first (let l = got_within (rows d.lists) (k - 1) (in_normal_form w) is_so in omega arith) ∙ is_so

pub has_one : (q : ℕ) (ps : List ℕ) → is_in q ps ≡ true → has_any ps ≡ true
has_one q [] i = absurd (cc)
has_one q (p ∷ ps) i = refl

-- ---- the steps

pub steps_done : (lists inst : Lists) (deletions : Deletions) (q r h i : ℕ) (pairs : List PairNo) (so_far final : List PolStep) (number : Option ℕ) → inst ≡ lists → final ≡ so_far ++ row_steps number →
    so_far ≡ Id (row_no (pair_row_no lists q)) ∷ flat_map (before_steps inst deletions q) (numbers_of (take i pairs)) → length pairs ≤ i → numbers_of pairs ≡ pairs_of_resident inst r → r ≡ (pair_at inst q).resident →
    number ≡ hospital_row_no lists h → h ≡ (pair_at inst q).hospital → final ≡ offer_steps lists deletions q
steps_done lists inst deletions q r h i pairs so_far final number same is so all numbers resident row hospital =
    let list : numbers_of (take i pairs) ≡ pairs_of_resident inst (pair_at inst q).resident = ap numbers_of (take_all i pairs all) ∙ numbers ∙ ap (pairs_of_resident inst) resident in
    is ∙ ap₂ (λ (xs ys : List PolStep). xs ++ ys)
    (so ∙ ap (λ (ps : List ℕ). Id (row_no (pair_row_no lists q)) ∷ flat_map (before_steps inst deletions q) ps) list
    ∙ ap (λ (l : Lists). Id (row_no (pair_row_no lists q)) ∷ flat_map (before_steps l deletions q) (pairs_of_resident l (pair_at l q).resident)) same)
    (ap row_steps (row ∙ ap (hospital_row_no lists) (hospital ∙ ap (λ (l : Lists). (pair_at l q).hospital) same)))

-- a line whose row is known
pub taken_row : (steps : List PolStep) (old new : Derived) (row : PlainRow) → pol_row (pair_count old.lists) old.state.live steps ≡ Ok row → Takes (Pol steps) old new → new ≡ with_new_row row (line_text (Pol steps)) old
taken_row steps old new row made taken =
    let ok : ◌≡◌ {A = Result State Refusal} (Ok (with_row old.state row)) (Ok new.state) = sym (ap (λ (r : Result PlainRow Refusal). and_then r (λ made. Ok (with_row old.state made))) made) ∙ taken.step.leads in
    let state : new.state ≡ with_row old.state row = cc in
    taken.is ∙ ap (λ (s : State). record old { state = s; pending = old.pending ++ line_text (Pol steps) }) state

-- ---- within the limits

pub record Limits (lists : Lists) (q : ℕ) : Type 0 where
  pub formed : IsWellFormed lists
  pub most : pair_count lists ≤ 100000
  pub most_posts : capacity_of lists (pair_at lists q).hospital ≤ 20000
  pub declared : (pair_at lists q).hospital < length lists.hospitals

pub limits_of : (inst lists : Lists) (q pairs h posts : ℕ) → inst ≡ lists → IsWellFormed inst → pairs ≡ pair_count inst → pairs ≤ 100000 → h ≡ (pair_at inst q).hospital → h < length inst.hospitals → posts ≡ capacity_of inst h → posts ≤ 20000 → Limits lists q
limits_of inst lists q pairs h posts same formed count few hospital declared capacity most =
    let posts_are : posts ≡ capacity_of inst (pair_at inst q).hospital = capacity ∙ ap (capacity_of inst) hospital in
    subst (λ (l : Lists). Limits l q) same (record { formed = formed; most = omega arith; most_posts = omega arith; declared = omega arith })

module _ (lists : Lists) (formed : IsWellFormed lists) (q : ℕ) (q_is : IsPairNo lists q) (d : Derived) (same : lists ≡ d.lists) (ready : IsReady d) (order : IsInOrder d.state) (next : d.state.next < 10 ^ 18) (deletions : Deletions) (units : AreUnitRows d.state.live deletions) (only : has_only lists (is_deleted deletions) q ≡ true) (posts : 0 < capacity_of lists (pair_at lists q).hospital) (few : capacity_of lists (pair_at lists q).hospital ≤ length (rising_pairs_of_hospital lists (pair_at lists q).hospital)) (most : pair_count lists ≤ 100000) (most_posts : capacity_of lists (pair_at lists q).hospital ≤ 20000) (declared : (pair_at lists q).hospital < length lists.hospitals) (pair_is : IsRow lists (pair_row_no lists q) (pair_row lists q)) (steps : List PolStep) (are : steps ≡ offer_steps lists deletions q) where
  hospital_no : ℕ
  hospital_no = length (resident_rows lists) + count_by (hospital_has_pair lists) (below (pair_at lists q).hospital) + 1

  numbered : hospital_row_no lists (pair_at lists q).hospital ≡ Some hospital_no
  unfolding hospital_no
  numbered =
      ap (λ (b : Bool). if b then Some (length (resident_rows lists) + count_by (hospital_has_pair lists) (below (pair_at lists q).hospital) + 1) else None)
      (has_one q (rising_pairs_of_hospital lists (pair_at lists q).hospital)
      (is_in-filter (λ p. (pair_at lists p).hospital == (pair_at lists q).hospital) q (numbers_to (pair_count lists)) ∙ and_from (is_pair lists q) ((pair_at lists q).hospital == (pair_at lists q).hospital) (pair_listed lists q q_is) (eq-eqb (pair_at lists q).hospital (pair_at lists q).hospital refl)))

  hospital_live : row_of hospital_no d.state.live ≡ Some (in_normal_form (hospital_row lists (pair_at lists q).hospital))
  unfolding hospital_no
  hospital_live = model_row lists d hospital_no (hospital_row lists (pair_at lists q).hospital) same ready (omega arith) (names_hospital_row lists (pair_at lists q).hospital (Some hospital_no) declared (sym numbered))

  pair_live : row_of (pair_row_no lists q) d.state.live ≡ Some (in_normal_form (pair_row lists q))
  pair_live = model_row lists d (pair_row_no lists q) (pair_row lists q) same ready (omega (arith, q_is.0)) pair_is

  of_resident : length (pairs_of_resident lists (pair_at lists q).resident) ≤ 100000
  of_resident =
      let f = length-filter (λ p. (pair_at lists p).resident == (pair_at lists q).resident) (numbers_to (pair_count lists)) in
      omega (arith, f, count_by-le-length (λ p. (pair_at lists p).resident == (pair_at lists q).resident) (numbers_to (pair_count lists)), length-numbers_to (pair_count lists))

  hospital_good : AreGood (row_steps (hospital_row_no lists (pair_at lists q).hospital)) 21
  hospital_good =
      subst (λ (o : Option ℕ). AreGood (row_steps o) 21) (sym numbered)
      (good_append (Id (row_no hospital_no) ∷ []) (Add ∷ []) 19 2 (live_good d.state.live d.state.next order (omega arith) (row_no hospital_no) (in_normal_form (hospital_row lists (pair_at lists q).hospital)) hospital_live) (record { made = refl; small = refl; short = omega arith }))

  line_writable : IsWritable (Pol (offer_steps lists deletions q))
  line_writable =
      good_writable (Id (row_no (pair_row_no lists q))) (flat_map (before_steps lists deletions q) (pairs_of_resident lists (pair_at lists q).resident) ++ row_steps (hospital_row_no lists (pair_at lists q).hospital))
      (19 + (29 * length (pairs_of_resident lists (pair_at lists q).resident) + 21))
      (good_append (Id (row_no (pair_row_no lists q)) ∷ []) (flat_map (before_steps lists deletions q) (pairs_of_resident lists (pair_at lists q).resident) ++ row_steps (hospital_row_no lists (pair_at lists q).hospital)) 19
      (29 * length (pairs_of_resident lists (pair_at lists q).resident) + 21)
      (live_good d.state.live d.state.next order (omega arith) (row_no (pair_row_no lists q)) (in_normal_form (pair_row lists q)) pair_live)
      (good_append (flat_map (before_steps lists deletions q) (pairs_of_resident lists (pair_at lists q).resident)) (row_steps (hospital_row_no lists (pair_at lists q).hospital)) (29 * length (pairs_of_resident lists (pair_at lists q).resident)) 21
      (each_good d.state.live d.state.next order (omega arith) (capacity_of lists (pair_at lists q).hospital) posts most_posts (is_before lists q) deletions units (pairs_of_resident lists (pair_at lists q).resident)) hospital_good))
      (omega (arith, of_resident))

  pub offer_writable : IsWritable (Pol steps)
  offer_writable = subst (λ (s : List PolStep). IsWritable (Pol s)) (sym are) line_writable

  pub made_here : pol_row (pair_count d.lists) d.state.live steps ≡ Ok (offer_row lists q)
  made_here =
      ap₂ (λ (l : Lists) (s : List PolStep). pol_row (pair_count l) d.state.live s) (sym same) are
      ∙ offer_made lists formed q q_is most most_posts few d.state.live deletions units only pair_live hospital_no hospital_live numbered line_writable.small

  pub offer_done : (new : Derived) → Takes (Pol steps) d new → new ≡ with_new_row (offer_row lists q) (line_text (Pol (offer_steps lists deletions q))) d
  offer_done new taken = taken_row steps d new (offer_row lists q) made_here taken ∙ ap (λ (s : List PolStep). with_new_row (offer_row lists q) (line_text (Pol s)) d) are

  pub offer_takes : (new : Derived) → Takes (Pol steps) d new → TakesLine (Pol (offer_steps lists deletions q)) d new
  offer_takes new taken = subst (λ (s : List PolStep). TakesLine (Pol s) d new) are (record { writable = offer_writable; unconcluded = ready.unconcluded; takes = taken })

pub record MakesOffer (lists : Lists) (q : ℕ) (d : Derived) (deletions : Deletions) (steps : List PolStep) : Type 0 where
  pub writable : IsWritable (Pol steps)
  pub made : IsOk (pol_row (pair_count d.lists) d.state.live steps)
  pub done : (new : Derived) → Takes (Pol steps) d new → new ≡ with_new_row (offer_row lists q) (line_text (Pol (offer_steps lists deletions q))) d
  pub takes : (new : Derived) → Takes (Pol steps) d new → TakesLine (Pol (offer_steps lists deletions q)) d new

pub makes_offer : (lists : Lists) (q : ℕ) (d : Derived) (deletions : Deletions) (steps : List PolStep) (k : ℕ) → Limits lists q → IsPairNo lists q → lists ≡ d.lists → IsReady d → IsInOrder d.state → d.state.next < 10 ^ 18 → AreUnitRows d.state.live deletions →
    has_only lists (is_deleted deletions) q ≡ true → 0 < capacity_of lists (pair_at lists q).hospital → capacity_of lists (pair_at lists q).hospital ≤ length (rising_pairs_of_hospital lists (pair_at lists q).hospital) →
    k ≡ pair_row_no lists q → IsRow lists k (pair_row lists q) → steps ≡ offer_steps lists deletions q → MakesOffer lists q d deletions steps
makes_offer lists q d deletions steps k limits q_is same ready order next units only posts few number row are =
    let pair_is : IsRow lists (pair_row_no lists q) (pair_row lists q) = subst (λ (j : ℕ). IsRow lists j (pair_row lists q)) number row in
    record {
      writable = offer_writable lists limits.formed q q_is d same ready order next deletions units only posts few limits.most limits.most_posts limits.declared pair_is steps are;
      made = ap (λ (r : Result PlainRow Refusal). is_ok r) (made_here lists limits.formed q q_is d same ready order next deletions units only posts few limits.most limits.most_posts limits.declared pair_is steps are);
      done = offer_done lists limits.formed q q_is d same ready order next deletions units only posts few limits.most limits.most_posts limits.declared pair_is steps are;
      takes = offer_takes lists limits.formed q q_is d same ready order next deletions units only posts few limits.most limits.most_posts limits.declared pair_is steps are;
    }
