-- What is claimed of the bound can be written, and is shown.
use Rattle.std.proofs.Common.{◌≡◌, ℕ, zero, suc, ◌+◌, ◌<◌, ◌≤◌, ◌^◌, ◌==◌, true, List, [], ◌∷◌, ◌++◌, length, length-append, ℤ, pos, negsuc, neg_ℤ, refl, sym, ap, ◌∙◌, subst, inl, inr, arith, add-one}
use Rattle.std.specs.Prelude.{Option, Some, None, Contains, ◌⊎◌, ◌-ℤ◌, ◌+ℤ◌, map, nat_abs, nat_le}
use Rattle.std.specs.Fmt.{signed_decimal}
use Rattle.std.proofs.lemmas.Bool.{cases_Bool, le-leb}
use Rattle.std.proofs.lemmas.Fmt.{length_signed_le}
use Rattle.std.proofs.lemmas.Int.{ints}
use Rattle.hrt_base.specs.declared.numbered.RowNo.{RowNo}
use Rattle.pb_rows.specs.Terms.{PlainRow, positive_part}
use Rattle.pb_rows.specs.Normal.{normal_form}
use Rattle.pb_rows.specs.Closure.{Implies, Refuted, none}
use Rattle.pb_rows.specs.Formula.{NumberedRow, row_of, rows_of}
use Rattle.rank_tables.specs.Numbers.{numbers_to}
use Rattle.rank_tables.specs.Instance.{Lists, pair_count}
use Rattle.stability_model.specs.Model.{formula, term}
use Rattle.proof_lines.specs.declared.line.Line.TheVariants.{Conclusion}
use Rattle.proof_lines.specs.declared.line.Claim.{Claim}
use Rattle.proof_rules.specs.States.{live_rows}
use Rattle.proof_rules.specs.Claims.{HasStronger, IsReached, IsUnpassed, Shows, at_least_row}
use Rattle.proof_rules.specs.Texts.{IsValidText}
use Rattle.proof_rules.specs.Told.{AreTrueNotes, held_by}
use Rattle.proof_rules.specs.Held.{Held}
use Rattle.proof_rules.proofs.FarBounds.{free-follows, refuted-follows, short-refutes}
use Rattle.derivation.specs.Derived.{Derived, IsConcludedValid, StaysValid}
use Rattle.derivation.specs.Steps.{IsWritable, concluded}
use Rattle.hrt_solve.specs.Gauged.{HasBoundRow, IsGauged, bound_claim, found_claim, value_of}
use Rattle.lazy_stability.specs.Laws.{LawfulRowsAreLazy}
use Rattle.pb_search.specs.Knowing.{HasContradiction}
use Rattle.hrt_solve.specs.Claimed.{CanClaim, EndsProof}
use Rattle.hrt_solve.specs.Lawful.{IsLawfulWith}
use Rattle.hrt_solve.specs.Writing.{IsProof}
use Rattle.hrt_solve.proofs.KeepsLaw.{lawful_gauged, lawful_proof}

-- ---- it can be written

number_short : (n : ℕ) → n < 2 ^ 32 → length (signed_decimal (value_of n)) ≤ 13
number_short zero h = length_signed_le 12 (pos 0) (omega arith) (omega arith)
number_short (suc n) h = length_signed_le 12 (negsuc n) (omega arith) (omega arith)

number_small : (n : ℕ) → n < 2 ^ 32 → nat_le (nat_abs (value_of n)) (2 ^ 120) ≡ true
number_small zero h = refl
number_small (suc n) h = le-leb (suc n) (2 ^ 120) (omega arith)

bound_writable : (n : ℕ) → n < 2 ^ 32 → IsWritable (Conclusion (bound_claim n))
bound_writable n h = record {
  made = refl;
  small = rw (number_small n h) refl;
  short = omega (arith, number_short n h, length-append (signed_decimal (value_of n) ++ 32 ∷ 73 ∷ 78 ∷ 70 ∷ []) (10 ∷ []), length-append (signed_decimal (value_of n)) (32 ∷ 73 ∷ 78 ∷ 70 ∷ []));
}

pub found_writable : (n size : ℕ) → n < 2 ^ 32 → size < 2 ^ 32 → IsWritable (Conclusion (found_claim n size))
found_writable n size h k = record {
  made = refl;
  small = rw (number_small n h, number_small size k) refl;
  short =
      let second : List ℕ = signed_decimal (value_of size) ++ [] in
      omega (arith, number_short n h, number_short size k, length-append (signed_decimal (value_of n) ++ 32 ∷ second) (10 ∷ []), length-append (signed_decimal (value_of n)) (32 ∷ second), length-append (signed_decimal (value_of size)) []);
}

-- ---- it is shown

row_contained : (entries : List NumberedRow) (n : ℕ) (r : PlainRow) → row_of n entries ≡ Some r → Contains (rows_of entries) r
row_contained [] n r h = absurd (cc)
row_contained (e ∷ es) n r h = elim (cases_Bool (e.number == n)) [
  | inl is ↦ let f : Some e.row ≡ Some r = rw is at h in (0, omega arith, cc)
  | inr not ↦ let c = row_contained es n r (rw not at h) in (c.0 + 1, omega arith, rw add-one c.2)
]

none_below : (n : ℕ) → positive_part (value_of n) ≡ 0
none_below zero = refl
none_below (suc n) = refl

no_terms : (n : ℕ) → (normal_form [] (value_of n)).degree ≡ 0
no_terms n = let same : (value_of n -ℤ pos 0) +ℤ pos 0 ≡ value_of n = omega (arith, ints) in ap positive_part same ∙ none_below n

-- without pairs the objective is 0
nothing_asked : (lists : Lists) (n : ℕ) → pair_count lists ≡ 0 → (at_least_row (formula lists) (value_of n)).degree ≡ 0
nothing_asked lists n e = ap (λ (k : ℕ). (normal_form (map (λ p. term (neg_ℤ (pos 1)) p) (numbers_to k)) (value_of n)).degree) e ∙ no_terms n

row_shown : (lists : Lists) (n : ℕ) (id : Option RowNo) (d : Derived) → HasBoundRow lists n id d →
    Implies (live_rows d.state) (at_least_row (formula lists) (value_of n)) ⊎ HasStronger d.state (at_least_row (formula lists) (value_of n))
row_shown lists n None d has = inl (free-follows (live_rows d.state) (at_least_row (formula lists) (value_of n)) (nothing_asked lists n has))
row_shown lists n (Some id) d has =
    let row : PlainRow = at_least_row (formula lists) (value_of n) in
    inr (row, row_contained d.state.live id.0 row has, refl, omega arith)

unlogged : (least : Option ℤ) (l : ℤ) → least ≡ None → IsUnpassed least l
unlogged None l e = tt
unlogged (Some v) l e = absurd (cc)

pub claims_bound : (lists : Lists) (n : ℕ) (claim : Claim) (id : Option RowNo) (d : Derived) → claim ≡ bound_claim n → n < 2 ^ 32 → IsGauged lists n id d → IsLawfulWith lists id d → d.state.least ≡ None → CanClaim lists claim d
claims_bound lists n claim id d is small gauged lawful least =
    subst (λ (c : Claim). CanClaim lists c d) (sym is) (record {
      lists_are = gauged.lists_are;
      so_far = lawful_gauged lists n id d lawful gauged.bound;
      shown = ((unlogged d.state.least (value_of n) least, row_shown lists n id d gauged.bound), tt);
      writable = bound_writable n small;
    })

unpassed : (least : Option ℤ) (n size : ℕ) → least ≡ Some (value_of size) → size ≤ n → IsUnpassed least (value_of n)
unpassed least n size e h = subst (λ (o : Option ℤ). IsUnpassed o (value_of n)) (sym e) (omega (arith, ints))

reached : (least : Option ℤ) (size : ℕ) → least ≡ Some (value_of size) → IsReached least (value_of size)
reached least size e = subst (λ (o : Option ℤ). IsReached o (value_of size)) (sym e) (omega (arith, ints))

-- a matching of so many pairs is the largest that was logged, and the bound row is live
pub found_shown : (lists : Lists) (n size : ℕ) (id : Option RowNo) (d : Derived) → HasBoundRow lists n id d → d.state.least ≡ Some (value_of size) → size ≤ n → Shows (formula lists) d.state (found_claim n size)
found_shown lists n size id d bound least h = ((unpassed d.state.least n size least h, row_shown lists n id d bound), reached d.state.least size least)

-- the same, and a live row holds nowhere: what it doesn't allow follows
pub best_shown : (lists : Lists) (size : ℕ) (d : Derived) → HasContradiction d → d.state.least ≡ Some (value_of size) → Shows (formula lists) d.state (found_claim size size)
best_shown lists size d c least =
    ((unpassed d.state.least size size least (omega arith), inl (refuted-follows (live_rows d.state) (at_least_row (formula lists) (value_of size)) refuted)), reached d.state.least size least)
  where
    refuted : Refuted (live_rows d.state) none
    refuted = short-refutes (live_rows d.state) c.row none (row_contained d.state.live c.id.0 c.row c.live) c.contradicts

-- ---- the whole text

module _ (lists : Lists) (claim : Claim) (old new : Derived) (can : CanClaim lists claim old) (end : new ≡ concluded claim old) (after : StaysValid old new) (valid : IsConcludedValid old new claim) where
  same : new.lists ≡ lists
  same = ap (λ (d : Derived). d.lists) end ∙ can.lists_are

  whole : IsProof lists new.pending claim old.held.learn_notes
  whole = record {
    lawful = lawful_proof lists claim old new can.lists_are can.so_far can.writable (subst (λ (l : Lists). Shows (formula l) old.state claim) (sym can.lists_are) can.shown) end;
    valid = subst (λ (l : Lists). IsValidText (formula l) new.pending claim) can.lists_are (valid [] can.so_far.stands.stands);
    notes_true = subst (λ (l : Lists). AreTrueNotes l new.pending) same (after [] can.so_far.stands.stands).notes_true;
    learned_are =
        ap (λ (l : Lists). (held_by l new.pending).learn_notes) (sym same)
        ∙ ap (λ (h : Held). h.learn_notes) (after [] can.so_far.stands.stands).tells.held_is
        ∙ ap (λ (d : Derived). d.held.learn_notes) end;
  }

  pub ends_proof : LawfulRowsAreLazy → EndsProof lists claim old new
  ends_proof lazy = record { is = end; valid = after; is_proof = whole; lazy = lazy lists new.pending whole.lawful.lawful whole.notes_true }
