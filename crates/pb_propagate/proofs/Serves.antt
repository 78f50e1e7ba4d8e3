-- Serving a row, one term after another.
use Rattle.std.proofs.Common.{◌≡◌, ◌||◌, ◌<◌, ◌≤◌, ◌+◌, ℕ, zero, suc, Bool, true, false, not, List, [], ◌∷◌, ◌++◌, length, take, get_or, refl, sym, ◌∙◌, ap, subst, arith, inl, inr, append_assoc, append-nil, Some}
use Rattle.std.specs.List.{All, Contains}
use Rattle.std.proofs.lemmas.Bool.{and_from, false_from_ne_true, or_cases, or_left, or_right}
use Rattle.std.proofs.lemmas.List.{get_or_default, map-append}
use Rattle.std.proofs.lemmas.List.Elements.{All-more, All-nil, All-push, All-weaker}
use Rattle.hrt_base.specs.declared.literal.Lit.{Lit}
use Rattle.hrt_base.specs.declared.literal.Term.{Term}
use Rattle.pb_rows.specs.Terms.{IsRisingFrom, PlainRow, opposite_lit}
use Rattle.pb_rows.specs.Closure.{is_same_lit, nonfalse_sum}
use Rattle.propagation.specs.Following.{IsOpenTerm, IsSettledAt}
use Rattle.propagation.proofs.Following.{Within, nonfalse_sum-anti, settled-more}
use Rattle.propagation.proofs.Sets.{lit_is, lit_itself}
use Rattle.row_arena.specs.Held.{Held, is_held, row_at}
use Rattle.pb_propagate.specs.Entries.{Entry, lits_of, opposites, set_of}
use Rattle.pb_propagate.specs.Open.{AreJustified, IsReasonOf, PropagatesLit}
use Rattle.pb_propagate.specs.Tables.{TrailState}
use Rattle.pb_propagate.specs.Visits.{IsDueTo}
use Rattle.pb_propagate.specs.Serving.{LeavesTerm, PropagatesTerm, ServesAt, TakesTerm}
use Rattle.pb_propagate.proofs.Levels.{lits-append, set-append, set-within}
use Rattle.pb_propagate.proofs.Justified.{justified-append}
use Rattle.pb_propagate.proofs.Kept.{AreUntouched, sum-same}

-- ---- one literal of each variable

rising-above : (low : ℕ) (ts : List Term) → IsRisingFrom low ts → (k : ℕ) (d : Term) → k < length ts → low ≤ (get_or ts k d).lit.var
rising-above low [] r k d h = absurd (omega (arith, h))
rising-above low (t ∷ ts) r zero d h = r.0
rising-above low (t ∷ ts) r (suc k) d h = omega (arith, r.0, rising-above (t.lit.var + 1) ts r.2 k d (omega (arith, h)))

one-lit : (low : ℕ) (ts : List Term) → IsRisingFrom low ts → (j k : ℕ) (d : Term) → j < length ts → k < length ts → (get_or ts j d).lit.var ≡ (get_or ts k d).lit.var → (get_or ts j d).lit ≡ (get_or ts k d).lit
one-lit low [] r j k d g h e = absurd (omega (arith, g))
one-lit low (t ∷ ts) r zero zero d g h e = refl
one-lit low (t ∷ ts) r zero (suc k) d g h e = absurd (omega (arith, e, rising-above (t.lit.var + 1) ts r.2 k d (omega (arith, h))))
one-lit low (t ∷ ts) r (suc j) zero d g h e = absurd (omega (arith, e, rising-above (t.lit.var + 1) ts r.2 j d (omega (arith, g))))
one-lit low (t ∷ ts) r (suc j) (suc k) d g h e = one-lit (t.lit.var + 1) ts r.2 j k d (omega (arith, g)) (omega (arith, h)) e

never-opposite : (l : Lit) → opposite_lit l ≡ l → ⊥
never-opposite l e = signs l.neg (ap (λ (a : Lit). a.neg) e)
  where
    signs : (b : Bool) → not b ≡ b → ⊥
    signs true e = cc
    signs false e = cc

-- ---- what some terms have made of a trail

-- the literal is of one of the terms
pub record IsOf (ts : List Term) (l : Lit) : Type 0 where
  pub term : Term
  pub has : Contains ts term
  pub lit : term.lit ≡ l

-- what the first i terms have made of a trail
pub record AreServed (held : List Held) (place sum i : ℕ) (old new : TrailState) : Type 0 where
  pub added : List Entry
  pub vars : new.vars ≡ old.vars
  pub entries : new.entries ≡ old.entries ++ added
  pub due : new.due ≡ old.due ++ opposites added
  pub reasons : All (IsDueTo place) added
  pub few : length new.entries ≤ new.vars
  pub fresh : All (λ (e : Entry). set_of old.entries e.lit ≡ false) added
  pub of_row : All (λ (e : Entry). IsOf (row_at place held).terms e.lit) added
  pub justified : AreJustified held (lits_of old.entries) added
  pub settled : All (IsSettledAt (set_of new.entries) sum (row_at place held).degree) (take i (row_at place held).terms)

pub served-none : (held : List Held) (place sum : ℕ) (old : TrailState) → length old.entries ≤ old.vars → AreServed held place sum 0 old old
served-none held place sum old few = record {
  few = few;
  added = [];
  vars = refl;
  entries = sym (append-nil old.entries);
  due = sym (append-nil old.due);
  reasons = All-nil (IsDueTo place);
  fresh = All-nil (λ (e : Entry). set_of old.entries e.lit ≡ false);
  of_row = All-nil (λ (e : Entry). IsOf (row_at place held).terms e.lit);
  justified = tt;
  settled = All-nil (IsSettledAt (set_of old.entries) sum (row_at place held).degree);
}

module _ (held : List Held) (place sum i : ℕ) (d : Term) (old mid new : TrailState) (stands : is_held place held ≡ true) (within : i < length (row_at place held).terms) (is_sum : sum ≡ nonfalse_sum (set_of old.entries) (row_at place held).terms) (a : AreServed held place sum i old mid) where
  abbrev row : PlainRow
  row = row_at place held

  abbrev here : Term
  here = get_or row.terms i d

  contains-here : Contains row.terms here
  contains-here = (i, within, get_or_default row.terms i here d within)

  old-mid : Within (set_of old.entries) (set_of mid.entries)
  old-mid l h = ap (λ (t : List Entry). set_of t l) a.entries ∙ set-within old.entries a.added l h

  untrue-old : (l : Lit) → set_of mid.entries l ≡ false → set_of old.entries l ≡ false
  untrue-old l h = false_from_ne_true _ (λ e. let f = old-mid l e in cc)

  abbrev entry : Entry
  entry = record { lit = here.lit; reason = Some place }

  here-propagates : IsOpenTerm (set_of mid.entries) sum row.degree here → PropagatesLit (set_of mid.entries) row here.lit
  here-propagates o = record {
    term = here;
    has = contains-here;
    lit = refl;
    propagates = record {
      free = and_from _ _ (ap not o.untrue) (ap not o.unfalse);
      exceeds = omega (arith, o.exceeds, is_sum, nonfalse_sum-anti (set_of old.entries) (set_of mid.entries) old-mid row.terms);
    };
  }

  served-propagates : PropagatesTerm sum row.degree place here mid new → AreServed held place sum (i + 1) old new
  served-propagates p =
      let entries : new.entries ≡ mid.entries ++ entry ∷ [] = ap (λ (t : TrailState). t.entries) p.is in
      let due : new.due ≡ mid.due ++ opposite_lit here.lit ∷ [] = ap (λ (t : TrailState). t.due) p.is in
      let grown : Within (set_of mid.entries) (set_of new.entries) = λ l h. ap (λ (t : List Entry). set_of t l) entries ∙ set-within mid.entries (entry ∷ []) l h in
      let lits : lits_of mid.entries ≡ lits_of old.entries ++ lits_of a.added = ap lits_of a.entries ∙ lits-append old.entries a.added in
      let reason : IsReasonOf held (lits_of mid.entries) place here.lit = record { stands = stands; propagates = here-propagates p.is_open } in
      record {
        few = p.few;
        added = a.added ++ entry ∷ [];
        vars = ap (λ (t : TrailState). t.vars) p.is ∙ a.vars;
        entries = entries ∙ ap (λ (t : List Entry). t ++ entry ∷ []) a.entries ∙ append_assoc old.entries a.added (entry ∷ []);
        due = due ∙ ap (λ (t : List Lit). t ++ opposite_lit here.lit ∷ []) a.due ∙ append_assoc old.due (opposites a.added) (opposite_lit here.lit ∷ [])
            ∙ ap (λ (t : List Lit). old.due ++ t) (sym (map-append (λ (e : Entry). opposite_lit e.lit) a.added (entry ∷ [])));
        reasons = All-push (IsDueTo place) a.added entry a.reasons refl;
        fresh = All-push (λ (e : Entry). set_of old.entries e.lit ≡ false) a.added entry a.fresh (untrue-old here.lit p.is_open.untrue);
        of_row = All-push (λ (e : Entry). IsOf row.terms e.lit) a.added entry a.of_row (record { term = here; has = contains-here; lit = refl });
        justified = justified-append held (lits_of old.entries) a.added (entry ∷ []) a.justified (subst (λ (ls : List Lit). IsReasonOf held ls place here.lit) lits reason, tt);
        settled = All-more (IsSettledAt (set_of new.entries) sum row.degree) row.terms i d within
            (All-weaker (IsSettledAt (set_of mid.entries) sum row.degree) (IsSettledAt (set_of new.entries) sum row.degree) (settled-more (set_of mid.entries) (set_of new.entries) grown sum row.degree) (take i row.terms) a.settled)
            (λ unfalse exceeds. ap (λ (t : List Entry). set_of t here.lit) entries ∙ last-true mid.entries here.lit);
      }
    where
      last-true : (es : List Entry) (l : Lit) → set_of (es ++ record { lit = l; reason = Some place } ∷ []) l ≡ true
      last-true es l = set-append es (record { lit = l; reason = Some place } ∷ []) l ∙ or_right _ _ (or_left _ _ (lit_itself l))

  served-leaves : LeavesTerm sum row.degree here mid new → AreServed held place sum (i + 1) old new
  served-leaves p =
      subst (λ (t : TrailState). AreServed held place sum (i + 1) old t) (sym p.same)
      (record {
        few = a.few;
        added = a.added;
        vars = a.vars;
        entries = a.entries;
        due = a.due;
        reasons = a.reasons;
        fresh = a.fresh;
        of_row = a.of_row;
        justified = a.justified;
        settled = All-more (IsSettledAt (set_of mid.entries) sum row.degree) row.terms i d within a.settled p.settled;
      })

  pub served-term : TakesTerm sum row.degree place here mid new → AreServed held place sum (i + 1) old new
  served-term s = elim s [ inl p ↦ served-propagates p | inr p ↦ served-leaves p ]

-- ---- all terms

opposite-of : (low : ℕ) (ts : List Term) → IsRisingFrom low ts → (k : ℕ) (d : Term) → k < length ts → (l : Lit) → IsOf ts l → opposite_lit (get_or ts k d).lit ≡ l → ⊥
opposite-of low ts r k d h l o e =
    let c = o.has in
    let x = get_or ts k d in
    let at : get_or ts c.0 d ≡ o.term = get_or_default ts c.0 d o.term c.1 ∙ c.2 in
    let vars : (get_or ts k d).lit.var ≡ (get_or ts c.0 d).lit.var = ap (λ (a : Lit). a.var) e ∙ sym (ap (λ (a : Lit). a.var) o.lit) ∙ sym (ap (λ (t : Term). t.lit.var) at) in
    let same : x.lit ≡ l = one-lit low ts r k c.0 d h c.1 vars ∙ ap (λ (t : Term). t.lit) at ∙ o.lit in
    never-opposite x.lit (e ∙ sym same)

not-among : (low : ℕ) (ts : List Term) → IsRisingFrom low ts → (added : List Entry) → All (λ (e : Entry). IsOf ts e.lit) added → (k : ℕ) (d : Term) → k < length ts → set_of added (opposite_lit (get_or ts k d).lit) ≡ false
not-among low ts r [] a k d h = refl
not-among low ts r (e ∷ added) a k d h =
    let P = λ (x : Entry). IsOf ts x.lit in
    false_from_ne_true _ (λ t. elim (or_cases (is_same_lit (opposite_lit (get_or ts k d).lit) e.lit) (set_of added (opposite_lit (get_or ts k d).lit)) t) [
      | inl here ↦ opposite-of low ts r k d h e.lit (a 0 e (omega arith)) (lit_is _ _ here)
      | inr there ↦ let f = not-among low ts r added (λ j x g. a (suc j) x (omega (arith, g))) k d h in absurd (let bad : false ≡ true = sym f ∙ there in cc)
    ])

pub serves-all : (held : List Held) (place sum i : ℕ) (old new : TrailState) → IsRisingFrom 0 (row_at place held).terms → sum ≡ nonfalse_sum (set_of old.entries) (row_at place held).terms → (row_at place held).degree ≤ sum
    → AreServed held place sum i old new → All (IsSettledAt (set_of new.entries) sum (row_at place held).degree) (row_at place held).terms → ServesAt held place old new
serves-all held place sum i old new rising is enough a settled =
    let row = row_at place held in
    let s = set_of old.entries in
    let t = set_of (old.entries ++ a.added) in
    let within : Within s t = set-within old.entries a.added in
    let untouched : AreUntouched s t row.terms = λ k d h unfalse.
    let x : Term = get_or row.terms k d in
    set-append old.entries a.added (opposite_lit x.lit) ∙ ap (λ b. b || set_of a.added (opposite_lit x.lit)) unfalse ∙ not-among 0 row.terms rising a.added a.of_row k d h in
    let more = sum-same s t row.terms untouched in
    let back : nonfalse_sum (set_of new.entries) row.terms ≡ nonfalse_sum t row.terms = ap (λ (es : List Entry). nonfalse_sum (set_of es) row.terms) a.entries in
    record {
      few = a.few;
      added = a.added;
      vars = a.vars;
      entries = a.entries;
      due = a.due;
      reasons = a.reasons;
      fresh = a.fresh;
      justified = a.justified;
      unfalsified = λ f. absurd (omega (arith, f, is, enough));
      kept = record {
        unfalsified = omega (arith, enough, is, more, back);
        settled = λ k d h unfalse exceeds. settled k d h unfalse (omega (arith, exceeds, is, more, back));
      };
    }
