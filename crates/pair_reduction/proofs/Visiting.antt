-- The pairs of a list are tried one after another.
use Rattle.std.proofs.Common.{◌≡◌, ℕ, ◌-◌, ◌≤◌, Bool, true, false, not, ◌==◌, nat_le, List, [], ◌∷◌, ◌++◌, length, take, refl, sym, ap, ◌∙◌, subst, inl, inr, arith}
use Rattle.std.specs.Prelude.{◌⊎◌, slice_set}
use Rattle.std.proofs.lemmas.Bool.{eqb-true, or_cases, true≢false}
use Rattle.std.proofs.lemmas.List.{take_all}
use Rattle.std.proofs.lemmas.List.Folds.{list_any-append}
use Rattle.hrt_base.specs.declared.numbered.PairNo.{PairNo}
use Rattle.rank_tables.specs.Numbers.{is_in}
use Rattle.rank_tables.specs.Instance.{Lists}
use Rattle.rank_tables.specs.Tables.{IsPairNo, numbers_of}
use Rattle.stability_model.specs.Gone.{Pairs}
use Rattle.derivation.specs.Deletions.{Deletions, is_deleted}
use Rattle.pair_reduction.specs.declared.sides.Side.{Side}
use Rattle.pair_reduction.specs.declared.sides.Side.TheVariants.{Resident, Hospital}
use Rattle.pair_reduction.specs.declared.known.Known.{Known}
use Rattle.pair_reduction.specs.Flags.{is_marked, is_waiting}
use Rattle.pair_reduction.specs.Sides.{is_free, is_passed, list_of, other, pairs_on, places, rank_on}
use Rattle.pair_reduction.specs.Known.{ArePassed, Drops, IsKept, IsOneMore, IsListSettled, MarksFree, Pays, Waits, marks_on, waiting_on}
use Rattle.pair_reduction.specs.Ranks.{AreRisingRanks, count_within}
use Rattle.pair_reduction.specs.Visits.{TriesDelete, TriesMark}
use Rattle.pair_reduction.proofs.RankTests.{passed_by_ranks}
use Rattle.pair_reduction.proofs.TwoSides.{listed, other_twice, passed_grows}
use Rattle.pair_reduction.proofs.Settling.{kept_drops, kept_marks, mark_grows, mark_here, pays_drops, pays_marks, was_or_is}

-- ---- one pair is tried

pub tries_none : (side : Side) (lists : Lists) (old new : Known) (p : ℕ) → new ≡ old → IsKept lists old → (is_free side lists (is_deleted old.gone) p ≡ true → is_marked (marks_on side old) p ≡ true) → TriesMark side lists old new p
tries_none side lists old new p same kept done = subst (λ (k : Known). TriesMark side lists old k p) (sym same) (record {
  kept = kept;
  pays = omega arith;
  gone = refl;
  unmarked = refl;
  rests = refl;
  grows = λ q also h. h;
  done = done;
})

pub tries_mark : (side : Side) (lists : Lists) (old new : Known) (p : ℕ) → IsKept lists old → IsPairNo lists p → is_marked (marks_on side old) p ≡ false → is_free side lists (is_deleted old.gone) p ≡ true → MarksFree side lists old new p → TriesMark side lists old new p
tries_mark side lists old new p kept p_is unmarked free marks =
    let last : p ≤ length (marks_on side old) = omega (arith, p_is.1, kept.marks side) in
    record {
      kept = kept_marks side lists old new p kept p_is free marks;
      pays = pays_marks side lists old new p kept p_is unmarked marks;
      gone = marks.gone;
      unmarked = marks.unmarked;
      rests = marks.rests;
      grows = λ q also h. ap (λ (m : List Bool). is_marked m q) marks.marked ∙ mark_grows (marks_on side old) p q p_is.0 last also h;
      done = λ h. ap (λ (m : List Bool). is_marked m p) marks.marked ∙ mark_here (marks_on side old) p p_is.0 last;
    }

pub deletes_none : (side : Side) (lists : Lists) (old new : Known) (w : ℕ) → new ≡ old → IsKept lists old → (is_passed side lists (is_marked (marks_on (other side) old)) w ≡ true → is_deleted old.gone w ≡ true) → TriesDelete side lists old new w
deletes_none side lists old new w same kept done = subst (λ (k : Known). TriesDelete side lists old k w) (sym same) (record {
  kept = kept;
  pays = omega arith;
  unmarked = λ s. refl;
  rests = refl;
  grows = λ q h. h;
  done = done;
})

pub deletes_one : (side : Side) (lists : Lists) (old new : Known) (w : ℕ) → IsKept lists old → IsPairNo lists w → is_waiting (waiting_on side old) (list_of side lists w) ≡ true → Drops side lists old new w → TriesDelete side lists old new w
deletes_one side lists old new w kept w_is visited drops = record {
  kept = kept_drops side lists old new w kept w_is drops visited;
  pays = pays_drops side lists old new w kept w_is drops;
  unmarked = drops.unmarked;
  rests = drops.rests;
  grows = was_or_is old.gone new.gone w drops.more;
  done = λ h. drops.more.gone;
}

-- ---- the pairs of a list

pub one_of_more : (q p : ℕ) (ps more : List ℕ) → more ≡ ps ++ p ∷ [] → is_in q more ≡ true → (is_in q ps ≡ true) ⊎ (q ≡ p)
one_of_more q p ps more e i = elim (or_cases (is_in q ps) (is_in q (p ∷ [])) (sym (list_any-append (λ y. y == q) ps (p ∷ [])) ∙ ap (is_in q) (sym e) ∙ i)) [
  | inl f ↦ inl f
  | inr f ↦ elim (or_cases (p == q) false f) [
    | inl g ↦ inr (sym (eqb-true p q g))
    | inr g ↦ absurd (cc)
  ]
]

pub record Marking (side : Side) (lists : Lists) (start now : Known) (ps : List ℕ) : Type 0 where
  pub kept : IsKept lists now
  pub pays : Pays start now
  pub gone : now.gone ≡ start.gone
  pub unmarked : marks_on (other side) now ≡ marks_on (other side) start
  pub rests : waiting_on side now ≡ waiting_on side start
  pub done : (p : ℕ) → is_in p ps ≡ true → 1 ≤ p → is_free side lists (is_deleted start.gone) p ≡ true → is_marked (marks_on side now) p ≡ true

pub marking_none : (side : Side) (lists : Lists) (start : Known) → IsKept lists start → Marking side lists start start []
marking_none side lists start kept = record { kept = kept; pays = omega arith; gone = refl; unmarked = refl; rests = refl; done = λ p i also h. absurd (true≢false (sym i)) }

pub marking_more : (side : Side) (lists : Lists) (start now new : Known) (ps more : List ℕ) (p : ℕ) → more ≡ ps ++ p ∷ [] → Marking side lists start now ps → TriesMark side lists now new p → Marking side lists start new more
marking_more side lists start now new ps more p e marking tries = record {
  kept = tries.kept;
  pays = omega (arith, marking.pays, tries.pays);
  gone = tries.gone ∙ marking.gone;
  unmarked = tries.unmarked ∙ marking.unmarked;
  rests = tries.rests ∙ marking.rests;
  done = λ q i also h. elim (one_of_more q p ps more e i) [
    | inl f ↦ tries.grows q also (marking.done q f also h)
    | inr f ↦
        let free : is_free side lists (is_deleted now.gone) p ≡ true = ap (λ (m : Deletions). is_free side lists (is_deleted m) p) marking.gone ∙ ap (is_free side lists (is_deleted start.gone)) (sym f) ∙ h in
        ap (is_marked (marks_on side new)) f ∙ tries.done free
  ];
}

-- a pair of the list is among those that were tried
among : (side : Side) (lists : Lists) (n i p : ℕ) (ps : List PairNo) → length ps ≤ i → ((q : ℕ) → is_in q (numbers_of ps) ≡ is_in q (pairs_on side lists n)) → IsPairNo lists p → list_of side lists p ≡ n → is_in p (numbers_of (take i ps)) ≡ true
among side lists n i p ps all alike p_is on =
    ap (λ (qs : List PairNo). is_in p (numbers_of qs)) (take_all i ps all) ∙ alike p ∙ ap (λ (k : ℕ). is_in p (pairs_on side lists k)) (sym on) ∙ listed side lists p p_is

pub marking_done : (side : Side) (lists : Lists) (start now : Known) (n i : ℕ) (ps : List PairNo) → length ps ≤ i → ((q : ℕ) → is_in q (numbers_of ps) ≡ is_in q (pairs_on side lists n)) → ArePassed side lists start n → Marking side lists start now (numbers_of (take i ps)) → IsListSettled side lists now n
marking_done side lists start now n i ps all alike passed marking = record {
  marked = λ p p_is on h.
      marking.done p (among side lists n i p ps all alike p_is on) p_is.0 (ap (λ (m : Deletions). is_free side lists (is_deleted m) p) (sym marking.gone) ∙ h);
  passed = λ w w_is on h. ap (λ (m : Deletions). is_deleted m w) marking.gone ∙ passed w w_is on (ap (λ (m : List Bool). is_passed side lists (is_marked m) w) (sym marking.unmarked) ∙ h);
}

pub record Deleting (side : Side) (lists : Lists) (start now : Known) (ps : List ℕ) : Type 0 where
  pub kept : IsKept lists now
  pub pays : Pays start now
  pub unmarked : (s : Side) → marks_on s now ≡ marks_on s start
  pub rests : waiting_on side now ≡ waiting_on side start
  pub grows : (q : ℕ) → is_deleted start.gone q ≡ true → is_deleted now.gone q ≡ true
  pub done : (w : ℕ) → is_in w ps ≡ true → is_passed side lists (is_marked (marks_on (other side) start)) w ≡ true → is_deleted now.gone w ≡ true

pub deleting_none : (side : Side) (lists : Lists) (start : Known) → IsKept lists start → Deleting side lists start start []
deleting_none side lists start kept = record { kept = kept; pays = omega arith; unmarked = λ s. refl; rests = refl; grows = λ q h. h; done = λ w i h. absurd (true≢false (sym i)) }

pub deleting_more : (side : Side) (lists : Lists) (start now new : Known) (ps more : List ℕ) (w : ℕ) → more ≡ ps ++ w ∷ [] → Deleting side lists start now ps → TriesDelete side lists now new w → Deleting side lists start new more
deleting_more side lists start now new ps more w e deleting tries = record {
  kept = tries.kept;
  pays = omega (arith, deleting.pays, tries.pays);
  unmarked = λ s. tries.unmarked s ∙ deleting.unmarked s;
  rests = tries.rests ∙ deleting.rests;
  grows = λ q h. tries.grows q (deleting.grows q h);
  done = λ q i h. elim (one_of_more q w ps more e i) [
    | inl f ↦ tries.grows q (deleting.done q f h)
    | inr f ↦
        let passed : is_passed side lists (is_marked (marks_on (other side) now)) w ≡ true =
        ap (λ (m : List Bool). is_passed side lists (is_marked m) w) (deleting.unmarked (other side)) ∙ ap (is_passed side lists (is_marked (marks_on (other side) start))) (sym f) ∙ h in
        ap (is_deleted new.gone) f ∙ tries.done passed
  ];
}

pub deleting_done : (side : Side) (lists : Lists) (start now : Known) (n i : ℕ) (ps : List PairNo) → length ps ≤ i → ((q : ℕ) → is_in q (numbers_of ps) ≡ is_in q (pairs_on side lists n)) → Deleting side lists start now (numbers_of (take i ps)) → ArePassed side lists now n
deleting_done side lists start now n i ps all alike deleting w w_is on h =
    deleting.done w (among side lists n i w ps all alike w_is on) (ap (λ (m : List Bool). is_passed side lists (is_marked m) w) (sym (deleting.unmarked (other side))) ∙ h)

-- ---- from the calls

pub passed_test : (side : Side) (inst lists : Lists) (marked : Pairs) (w list most rank : ℕ) (ranks : List ℕ) (b : Bool) → inst ≡ lists → AreRisingRanks side lists marked (pairs_on side lists (list_of side lists w)) ranks → list ≡ list_of side inst w → most ≡ places side inst list → rank ≡ rank_on side inst w → 1 ≤ rank →
    b ≡ nat_le most (count_within ranks (rank - 1)) → b ≡ is_passed side lists marked w
passed_test side inst lists marked w list most rank ranks b same are here few value some test =
    test
    ∙ passed_by_ranks side lists marked (list_of side lists w) w most rank ranks are refl (few ∙ ap (places side inst) here ∙ ap (λ (l : Lists). places side l (list_of side l w)) same) (value ∙ ap (λ (l : Lists). rank_on side l w) same) some

-- marked pairs are free, so what they pass a rule shows
pub rule_of : (side : Side) (lists : Lists) (old mid : Known) (w : ℕ) → IsKept lists old → mid.gone ≡ old.gone → is_passed side lists (is_marked (marks_on (other side) old)) w ≡ true → is_passed side lists (is_free (other side) lists (is_deleted mid.gone)) w ≡ true
rule_of side lists old mid w kept same h =
    subst (λ (m : Deletions). is_passed side lists (is_free (other side) lists (is_deleted m)) w ≡ true) (sym same)
    (passed_grows side lists (is_marked (marks_on (other side) old)) (is_free (other side) lists (is_deleted old.gone)) w (λ q i e f. kept.sound (other side) q i f) h)

-- a list was told to wait, and the pair was deleted
pub dropped : (side across : Side) (inst lists : Lists) (old mid : Known) (after : Deletions) (w list : ℕ) → inst ≡ lists → across ≡ other side → list ≡ list_of across inst w → Waits across old mid list → IsOneMore mid.gone after w → Drops side lists old (record mid { gone = after }) w
dropped side across inst lists old mid after w list same far here waits more = record {
  more = subst (λ (m : Deletions). IsOneMore m after w) waits.gone more;
  unmarked = λ s. marks_same s ∙ waits.marks s;
  waits = flags_same (other side) ∙ told.waits ∙ ap (λ (n : ℕ). slice_set (waiting_on (other side) old) n true) (here ∙ ap (λ (s : Side). list_of s inst w) far ∙ ap (λ (l : Lists). list_of (other side) l w) same);
  rests = flags_same side ∙ subst (λ (s : Side). waiting_on s mid ≡ waiting_on s old) (other_twice side) told.rests;
}
  where
    told : Waits (other side) old mid list
    told = subst (λ (s : Side). Waits s old mid list) far waits

    marks_same : (s : Side) → marks_on s (record mid { gone = after }) ≡ marks_on s mid
    marks_same Resident = refl
    marks_same Hospital = refl

    flags_same : (s : Side) → waiting_on s (record mid { gone = after }) ≡ waiting_on s mid
    flags_same Resident = refl
    flags_same Hospital = refl

-- the ranks of the pairs that aren't gone are the same while none is deleted
pub ranks_now : (side : Side) (lists : Lists) (start now : Deletions) (n p : ℕ) (ranks same : List ℕ) → now ≡ start → list_of side lists p ≡ n → same ≡ ranks → AreRisingRanks side lists (λ q. not (is_deleted start q)) (pairs_on side lists n) ranks →
    AreRisingRanks side lists (λ q. not (is_deleted now q)) (pairs_on side lists (list_of side lists p)) same
ranks_now side lists start now n p ranks same e on f are =
    subst (λ (m : Deletions). AreRisingRanks side lists (λ q. not (is_deleted m q)) (pairs_on side lists (list_of side lists p)) same) (sym e)
    (subst (λ (k : ℕ). AreRisingRanks side lists (λ q. not (is_deleted start q)) (pairs_on side lists k) same) (sym on)
    (subst (λ (xs : List ℕ). AreRisingRanks side lists (λ q. not (is_deleted start q)) (pairs_on side lists n) xs) (sym f) are))

-- and those of the marked pairs while none is marked
pub marked_now : (side : Side) (inst lists : Lists) (start now : Known) (across : Side) (marks : List Bool) (n p : ℕ) (ranks same : List ℕ) → inst ≡ lists → across ≡ other side → marks ≡ marks_on across start → ((s : Side) → marks_on s now ≡ marks_on s start) → list_of side inst p ≡ n → same ≡ ranks →
    AreRisingRanks side inst (is_marked marks) (pairs_on side inst n) ranks → AreRisingRanks side lists (is_marked (marks_on (other side) now)) (pairs_on side lists (list_of side lists p)) same
marked_now side inst lists start now across marks n p ranks same e far is unmarked on f are =
    subst (λ (l : Lists). AreRisingRanks side l (is_marked (marks_on (other side) now)) (pairs_on side l (list_of side l p)) same) e
    (subst (λ (m : List Bool). AreRisingRanks side inst (is_marked m) (pairs_on side inst (list_of side inst p)) same) (is ∙ ap (λ (s : Side). marks_on s start) far ∙ sym (unmarked (other side)))
    (subst (λ (k : ℕ). AreRisingRanks side inst (is_marked marks) (pairs_on side inst k) same) (sym on)
    (subst (λ (xs : List ℕ). AreRisingRanks side inst (is_marked marks) (pairs_on side inst n) xs) (sym f) are)))
