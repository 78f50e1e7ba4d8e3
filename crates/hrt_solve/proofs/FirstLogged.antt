-- What stands once the first matching is logged, and what can be claimed then.
use Rattle.std.proofs.Common.{◌≡◌, ℕ, ◌+◌, ◌<◌, ◌≤◌, ◌^◌, ◌==◌, true, List, [], ◌∷◌, ◌++◌, ℤ, length, refl, sym, ap, ap₂, ◌∙◌, subst, arith}
use Rattle.std.specs.Prelude.{Option, Some, None, IsTrue}
use Rattle.std.specs.List.{All}
use Rattle.std.specs.List.Sorted.{IsStrictlyIncreasing}
use Rattle.std.proofs.lemmas.Bool.{eq-eqb, or_left, or_right}
use Rattle.std.proofs.lemmas.List.{length-map}
use Rattle.hrt_base.specs.declared.numbered.PairNo.{PairNo}
use Rattle.hrt_base.specs.declared.numbered.RowNo.{RowNo}
use Rattle.pb_rows.specs.Formula.{NumberedRow, row_of}
use Rattle.rank_tables.specs.Instance.{Lists, pair_count}
use Rattle.rank_tables.specs.Numbers.{is_in, numbers_to}
use Rattle.rank_tables.specs.Stability.{is_weakly_stable}
use Rattle.rank_tables.specs.Tables.{IsPairNo, numbers_of}
use Rattle.rank_tables.specs.WellFormed.{most_pairs}
use Rattle.stability_model.specs.Model.{pair_row_no}
use Rattle.proof_rules.specs.States.{IsInOrder, smaller}
use Rattle.proof_rules.specs.Held.{is_held}
use Rattle.proof_rules.proofs.Held.{is_in-append}
use Rattle.derivation.specs.Derived.{Derived}
use Rattle.derivation.proofs.Readiness.{row_front}
use Rattle.promotion_heuristic.specs.Promotion.{promotion}
use Rattle.matching_log.specs.Logged.{Closes, Logs, ceiling_row, larger_row, value_of}
use Rattle.pb_search.specs.Knowing.{unit_numbers}
use Rattle.hrt_solve.specs.declared.ends.SolveEnd.{SolveEnd}
use Rattle.hrt_solve.specs.declared.starting.Started.{Started}
use Rattle.hrt_solve.specs.Gauged.{AreNumbersOf, HasBoundRow, IsGauged, IsMost, found_claim}
use Rattle.hrt_solve.specs.Lawful.{IsLawfulWith}
use Rattle.hrt_solve.specs.Started.{HoldsBeside, IsPromoted, IsStarted, bound_numbers}
use Rattle.hrt_solve.specs.Claimed.{CanClaim}
use Rattle.hrt_solve.specs.Writing.{IsQuickEnd}
use Rattle.hrt_solve.proofs.Claiming.{found_shown, found_writable}
use Rattle.hrt_solve.proofs.Holding.{holds_more}
use Rattle.hrt_solve.proofs.KeepsLaw.{lawful_closed, lawful_gauged, lawful_logged}

-- ---- the first matching

pub promoted : (lists : Lists) (pairs : List PairNo) (size : ℕ) → All (λ p. IsPairNo lists p.0) pairs → numbers_of pairs ≡ promotion lists → IsStrictlyIncreasing (numbers_of pairs) → IsTrue (is_weakly_stable lists (numbers_of pairs)) → size ≡ length pairs →
    IsPromoted lists pairs size
promoted lists pairs size numbers are rising stable size_is = record { numbers = numbers; are = are; rising = rising; stable = stable; size_is = size_is }

pub within : (lists : Lists) (pairs : List PairNo) (top size : ℕ) → IsMost lists top → IsPromoted lists pairs size → size ≤ top
within lists pairs top size most first = omega (arith, first.size_is, length-map pairs (λ p. p.0), most (numbers_of pairs) first.stable)

-- ---- it is logged

bound_front : (lists : Lists) (n : ℕ) (id : Option RowNo) (old new : Derived) (more : List NumberedRow) → new.state.live ≡ old.state.live ++ more → HasBoundRow lists n id old → HasBoundRow lists n id new
bound_front lists n None old new more is has = has
bound_front lists n (Some id) old new more is has = ap (row_of id.0) is ∙ row_front id.0 (ceiling_row lists n) old.state.live more has

module _ (lists : Lists) (s : Started) (len : ℕ) (d1 d2 : Derived) (gauged : IsGauged lists s.gauged.end.ceiling s.gauged.row d1) (logs : Logs len s.larger d1 d2) where
  gauged_logged : IsGauged lists s.gauged.end.ceiling s.gauged.row d2
  gauged_logged = record {
    lists_are = ap (λ (d : Derived). d.lists) logs.is ∙ gauged.lists_are;
    unconcluded = ap (λ (d : Derived). d.claim) logs.is ∙ gauged.unconcluded;
    bound = bound_front lists s.gauged.end.ceiling s.gauged.row d1 d2 (record { number = d1.state.next; row = larger_row d1.lists len } ∷ []) (ap (λ (d : Derived). d.state.live) logs.is) gauged.bound;
  }

  least_logged : d1.state.least ≡ None → len ≡ s.size → d2.state.least ≡ Some (value_of s.size)
  least_logged none same = ap (λ (d : Derived). d.state.least) logs.is ∙ ap (λ (o : Option ℤ). Some (smaller o (value_of len))) none ∙ ap (λ (n : ℕ). Some (value_of n)) same

  pub started : AreNumbersOf lists s.gauged.end.deleted s.gauged.end.ceiling → IsMost lists s.gauged.end.ceiling → s.gauged.end.ceiling ≤ pair_count lists → s.gauged.end.ceiling ≤ most_pairs → IsLawfulWith lists s.gauged.row d1 → HoldsBeside s.gauged.gone (bound_numbers s.gauged.row) d1 →
      d1.state.least ≡ None → d1.state.next < 10 ^ 17 → IsInOrder d1.state → len ≡ s.size → IsPromoted lists s.pairs.items s.size → row_of s.larger.0 d2.state.live ≡ Some (larger_row d2.lists len) → IsStarted lists s d2
  started numbers most few small lawful holds none next order same first asks = record {
    numbers = numbers;
    most = most;
    few = few;
    small = small;
    gauged = gauged_logged;
    lawful = lawful_logged lists s.gauged.row len s.larger d1 d2 logs lawful;
    holds = subst (λ (n : ℕ). HoldsBeside s.gauged.gone (bound_numbers s.gauged.row ++ n ∷ []) d2) (sym logs.number)
        (holds_more s.gauged.gone (bound_numbers s.gauged.row) (larger_row d1.lists len) d1 d2 holds lawful.ready order (record {
          lists = ap (λ (d : Derived). d.lists) logs.is;
          live = ap (λ (d : Derived). d.state.live) logs.is;
          held = ap (λ (d : Derived). d.held) logs.is;
        }));
    first = first;
    asks = asks ∙ ap₂ (λ (l : Lists) (n : ℕ). Some (larger_row l n)) gauged_logged.lists_are same;
    least = least_logged none same;
    next = let one : d2.state.next ≡ d1.state.next + 1 = ap (λ (d : Derived). d.state.next) logs.is in omega (arith, next, one);
  }

-- ---- the bound is closed

-- the row that asks for a larger matching is held
last_in : (n : ℕ) (ns : List ℕ) → is_in n (ns ++ n ∷ []) ≡ true
last_in n ns = is_in-append n ns (n ∷ []) ∙ or_right (is_in n ns) (is_in n (n ∷ [])) (or_left (n == n) (is_in n []) (eq-eqb n n refl))

in_third : (n : ℕ) (a b c : List ℕ) → is_in n c ≡ true → is_in n (a ++ (b ++ c)) ≡ true
in_third n a b c i = is_in-append n a (b ++ c) ∙ or_right (is_in n a) (is_in n (b ++ c)) (is_in-append n b c ∙ or_right (is_in n b) (is_in n c) i)

module _ (lists : Lists) (s : Started) (d : Derived) (st : IsStarted lists s d) where
  pub larger_held : is_held d.held s.larger.0 ≡ true
  larger_held =
      st.holds.holds s.larger.0
      ∙ in_third s.larger.0 (numbers_to (pair_row_no d.lists 0)) (unit_numbers s.gauged.gone) (bound_numbers s.gauged.row ++ s.larger.0 ∷ []) (last_in s.larger.0 (bound_numbers s.gauged.row))

  pub first_within : s.size ≤ s.gauged.end.ceiling
  first_within = within lists s.pairs.items s.gauged.end.ceiling s.size st.most st.first

  -- what the call that closes the bound asks for
  pub top_live : (bound : RowNo) → s.gauged.row ≡ Some bound → s.size ≡ s.gauged.end.ceiling → row_of bound.0 d.state.live ≡ Some (ceiling_row d.lists s.size)
  top_live bound is met =
      let has : HasBoundRow lists s.gauged.end.ceiling (Some bound) d = subst (λ (id : Option RowNo). HasBoundRow lists s.gauged.end.ceiling id d) is st.gauged.bound in
      has ∙ ap₂ (λ (l : Lists) (n : ℕ). Some (ceiling_row l n)) (sym st.gauged.lists_are) (sym met)

  pub asks_live : row_of s.larger.0 d.state.live ≡ Some (larger_row d.lists s.size)
  asks_live = st.asks ∙ ap (λ (l : Lists). Some (larger_row l s.size)) (sym st.gauged.lists_are)

  pub claims_first : CanClaim lists (found_claim s.gauged.end.ceiling s.size) d
  claims_first = record {
    lists_are = st.gauged.lists_are;
    so_far = lawful_gauged lists s.gauged.end.ceiling s.gauged.row d st.lawful st.gauged.bound;
    shown = found_shown lists s.gauged.end.ceiling s.size s.gauged.row d st.gauged.bound st.least first_within;
    writable = found_writable s.gauged.end.ceiling s.size (omega (arith, st.small)) (omega (arith, st.small, first_within));
  }

  module _ (bound sum : RowNo) (new : Derived) (row_is : s.gauged.row ≡ Some bound) (closes : Closes s.size bound s.larger sum d new) where
    pub claims_closed : CanClaim lists (found_claim s.gauged.end.ceiling s.size) new
    claims_closed = record {
      lists_are = ap (λ (x : Derived). x.lists) closes.is ∙ st.gauged.lists_are;
      so_far = lawful_closed lists s.size bound s.larger sum d new (subst (λ (id : Option RowNo). IsLawfulWith lists id d) row_is st.lawful) larger_held closes;
      shown = found_shown lists s.gauged.end.ceiling s.size s.gauged.row new (bound_front lists s.gauged.end.ceiling s.gauged.row d new _ (ap (λ (x : Derived). x.state.live) closes.is) st.gauged.bound)
          (ap (λ (x : Derived). x.state.least) closes.is ∙ st.least) first_within;
      writable = found_writable s.gauged.end.ceiling s.size (omega (arith, st.small)) (omega (arith, st.small, first_within));
    }

    pub closed_unlearned : new.held.learn_notes ≡ 0
    closed_unlearned = ap (λ (x : Derived). x.held.learn_notes) closes.is ∙ st.holds.unlearned

  -- ---- what is told of it

  pub quick_end : (end : SolveEnd) → end.deleted ≡ s.gauged.end.deleted → end.ceiling ≡ s.gauged.end.ceiling → end.first ≡ s.size → end.pairs.items ≡ s.pairs.items → end.conflicts ≡ 0 → end.best ≡ (s.size == s.gauged.end.ceiling) → IsQuickEnd lists end
  quick_end end deleted ceiling size pairs conflicts best = record {
    numbers = subst (λ (n : ℕ). AreNumbersOf lists end.deleted n) (sym ceiling) (subst (λ (n : ℕ). AreNumbersOf lists n s.gauged.end.ceiling) (sym deleted) st.numbers);
    most = subst (IsMost lists) (sym ceiling) st.most;
    pairs_are = ap numbers_of pairs ∙ st.first.are;
    stable = subst (λ (ps : List PairNo). IsTrue (is_weakly_stable lists (numbers_of ps))) (sym pairs) st.first.stable;
    first_is = size ∙ st.first.size_is ∙ ap length (sym pairs);
    conflicts_are = conflicts;
    best_is = best ∙ ap₂ (λ (a b : ℕ). a == b) (st.first.size_is ∙ ap length (sym pairs)) (sym ceiling);
  }
