-- Reasons: what the literals of a trail follow from.
use Rattle.std.proofs.Common.{◌≡◌, ℕ, Bool, true, false, not, List, [], ◌∷◌, ◌++◌, refl, sym, subst, arith, inl, inr, append-nil, append_assoc, Option, Some, None}
use Rattle.std.proofs.lemmas.Bool.{and_parts, cases_Bool, or_left, or_right}
use Rattle.hrt_base.specs.declared.literal.Lit.{Lit}
use Rattle.hrt_base.specs.declared.literal.Term.{Term}
use Rattle.pb_rows.specs.Terms.{PlainRow, opposite_lit}
use Rattle.pb_rows.specs.Closure.{Literals, Propagates, among, nonfalse_sum}
use Rattle.propagation.specs.Following.{Follows, IsOpenTerm}
use Rattle.propagation.proofs.Sets.{among-cases, lit_itself}
use Rattle.propagation.proofs.Following.{follows-open}
use Rattle.row_arena.specs.Held.{Held, held_rows, row_at}
use Rattle.row_arena.proofs.Places.{held-grown, row_at-contained, row_at-grown}
use Rattle.pb_propagate.specs.Entries.{Entry, decisions_of, is_decision, lits_of}
use Rattle.pb_propagate.specs.Open.{AreJustified, IsJustified, IsReasonOf, PropagatesLit}

pub justified-append : (held : List Held) (before : List Lit) (es fs : List Entry) → AreJustified held before es → AreJustified held (before ++ lits_of es) fs → AreJustified held before (es ++ fs)
justified-append held before [] fs a b = subst (λ (ls : List Lit). AreJustified held ls fs) (append-nil before) b
justified-append held before (e ∷ es) fs a b =
    (a.0, justified-append held (before ++ e.lit ∷ []) es fs a.1 (subst (λ (ls : List Lit). AreJustified held ls fs) (sym (append_assoc before (e.lit ∷ []) (lits_of es))) b))

pub justified-front : (held : List Held) (before : List Lit) (es fs : List Entry) → AreJustified held before (es ++ fs) → AreJustified held before es
justified-front held before [] fs a = tt
justified-front held before (e ∷ es) fs a = (a.0, justified-front held (before ++ e.lit ∷ []) es fs a.1)

reason-grown : (held more : List Held) (before : List Lit) (l : Lit) (r : Option ℕ) → IsJustified held before l r → IsJustified (held ++ more) before l r
reason-grown held more before l None j = tt
reason-grown held more before l (Some p) j = record {
  stands = held-grown held more p j.stands;
  propagates = subst (λ (r : PlainRow). PropagatesLit (among before) r l) (sym (row_at-grown held more p j.stands)) j.propagates;
}

-- reasons stay reasons where rows are added
pub justified-grown : (held more : List Held) (before : List Lit) (es : List Entry) → AreJustified held before es → AreJustified (held ++ more) before es
justified-grown held more before [] a = tt
justified-grown held more before (e ∷ es) a = (reason-grown held more before e.lit e.reason a.0, justified-grown held more (before ++ e.lit ∷ []) es a.1)

-- ---- what follows

not-true : (b : Bool) → not b ≡ true → b ≡ false
not-true true h = cc
not-true false h = refl

-- a term that a row propagates is open
pub open-term : (s : Literals) (r : PlainRow) (t : Term) → Propagates s r t → IsOpenTerm s (nonfalse_sum s r.terms) r.degree t
open-term s r t p =
    let f = and_parts (not (s t.lit)) (not (s (opposite_lit t.lit))) p.free in
    record { untrue = not-true (s t.lit) f.0; unfalse = not-true (s (opposite_lit t.lit)) f.1; exceeds = p.exceeds }

module _ (held : List Held) (given : Literals) where
  abbrev FollowFrom : List Lit → Type 0
  FollowFrom ls = Follows (held_rows held) given (among ls)

  follows-given : (before : List Lit) (l : Lit) → FollowFrom before → given l ≡ true → FollowFrom (before ++ l ∷ [])
  follows-given before l f g = record {
    holds = λ other q a h. elim (among-cases before l a h) [
      | inl old ↦ f.holds other q a old
      | inr new ↦ subst (λ (x : Lit). other x ≡ true) (sym new) (q.has_given l g)
    ];
  }

  follows-reason : (before : List Lit) (l : Lit) (p : ℕ) → FollowFrom before → IsReasonOf held before p l → FollowFrom (before ++ l ∷ [])
  follows-reason before l p f r =
      let row = row_at p held in
      let t = r.propagates.term in
      subst (λ (x : Lit). FollowFrom (before ++ x ∷ [])) r.propagates.lit
      (follows-open (held_rows held) given before row (nonfalse_sum (among before) row.terms) t (row_at-contained held p r.stands) r.propagates.has (omega arith) (open-term (among before) row t r.propagates.propagates) f)

  follows-entry : (before : List Lit) (e : Entry) (r : Option ℕ) → e.reason ≡ r → FollowFrom before → IsJustified held before e.lit r → (is_decision e ≡ true → given e.lit ≡ true) → FollowFrom (before ++ e.lit ∷ [])
  follows-entry before e None is f j g = follows-given before e.lit f (g (rw is refl))
  follows-entry before e (Some p) is f j g = follows-reason before e.lit p f j

  head-given : (e : Entry) (es : List Entry) → ((l : Lit) → among (decisions_of (e ∷ es)) l ≡ true → given l ≡ true) → is_decision e ≡ true → given e.lit ≡ true
  head-given e es g d = g e.lit (rw d (or_left _ _ (lit_itself e.lit)))

  tail-given : (e : Entry) (es : List Entry) → ((l : Lit) → among (decisions_of (e ∷ es)) l ≡ true → given l ≡ true) → (l : Lit) → among (decisions_of es) l ≡ true → given l ≡ true
  tail-given e es g l h = elim (cases_Bool (is_decision e)) [
    | inl d ↦ g l (rw d (or_right _ _ h))
    | inr r ↦ g l (rw r h)
  ]

  -- the literals of a trail are in each quiet set that holds its decisions
  pub follows-trail : (before : List Lit) (es : List Entry) → FollowFrom before → AreJustified held before es → ((l : Lit) → among (decisions_of es) l ≡ true → given l ≡ true) → FollowFrom (before ++ lits_of es)
  follows-trail before [] f j g = subst FollowFrom (sym (append-nil before)) f
  follows-trail before (e ∷ es) f j g =
      let next = follows-entry before e e.reason refl f j.0 (head-given e es g) in
      subst FollowFrom (append_assoc before (e.lit ∷ []) (lits_of es)) (follows-trail (before ++ e.lit ∷ []) es next j.1 (tail-given e es g))
