-- The note of a learned row has a spelling that isn't too long, since an instance has few pairs.
use Rattle.std.proofs.Common.{◌≡◌, ℕ, ◌+◌, ◌*◌, ◌-◌, ◌<◌, ◌≤◌, ◌^◌, Bool, true, false, ◌&&◌, nat_le, if◌then◌else◌, List, [], ◌∷◌, ◌++◌, length, map, refl, ap, subst, inl, inr, arith, length-append}
use Rattle.std.specs.Prelude.{codes, decimal}
use Rattle.std.specs.List.{AllByRecursion, list_all}
use Rattle.std.proofs.lemmas.Bool.{and_from, cases_Bool, le-leb}
use Rattle.std.proofs.lemmas.Fmt.{length-decimal-le}
use Rattle.std.proofs.lemmas.List.Elements.{All-contains, recursion_from_All}
use Rattle.hrt_base.specs.declared.literal.Lit.{Lit}
use Rattle.hrt_base.specs.declared.literal.Term.{Term}
use Rattle.hrt_base.specs.declared.numbered.RowNo.{RowNo}
use Rattle.pb_rows.specs.Terms.{PlainRow}
use Rattle.pb_rows.specs.Points.{IsCovered}
use Rattle.rank_tables.specs.WellFormed.{most_pairs}
use Rattle.row_text.specs.Rows.{literal_text}
use Rattle.row_text.specs.Tokens.{spaced}
use Rattle.proof_lines.specs.declared.note.Note.TheVariants.{Learn}
use Rattle.proof_lines.specs.Spelling.{most_bytes}
use Rattle.proof_lines.specs.Texts.{id_text, is_spellable_id, is_spellable_literal, is_spellable_note, note_text}
use Rattle.pb_propagate.specs.Entries.{Entry, decisions_of, is_decision, lits_of, up_to}
use Rattle.pb_propagate.specs.Engines.{EngineState, decisions_at}
use Rattle.pb_propagate.specs.Moments.{IsInOrder}
use Rattle.pb_propagate.proofs.Levels.{up_to-front}
use Rattle.conflict_cuts.specs.Learned.{Asserts}

abbrev IsFew : Lit → Type 0
IsFew l = (1 ≤ l.var) × (l.var ≤ 100000)

spaced-append : (xs ys : List (List ℕ)) → length (spaced (xs ++ ys)) ≡ length (spaced xs) + length (spaced ys)
spaced-append [] ys = omega arith
spaced-append (x ∷ xs) ys =
    let more = spaced-append xs ys in
    omega (arith, more, length-append x (spaced (xs ++ ys)), length-append x (spaced xs))

-- ---- a literal

sign_length : (neg : Bool) → length (if neg then codes "~" else []) ≤ 1
sign_length true = omega arith
sign_length false = omega arith

literal_length : (l : Lit) → IsFew l → length (literal_text l) ≤ 8
literal_length l f =
    omega (
      arith,
      sign_length l.neg,
      length-append (if l.neg then codes "~" else []) (codes "x" ++ decimal l.var),
      length-append (codes "x") (decimal l.var),
      length-append ((if l.neg then codes "~" else []) ++ codes "x") (decimal l.var),
      length-append (if l.neg then codes "~" else []) (codes "x"),
      length-decimal-le 6 l.var (omega arith) (omega (arith, f.1)) (omega arith),
    )

literal_made : (l : Lit) → IsFew l → is_spellable_literal l ≡ true
literal_made l f = and_from (nat_le 1 l.var) (nat_le l.var 4294967295) (le-leb 1 l.var f.0) (le-leb l.var 4294967295 (omega (arith, f.1)))

-- ---- decisions

decisions_length : (es : List Entry) → AllByRecursion IsFew (lits_of es) → length (spaced (map literal_text (decisions_of es))) ≤ 9 * length es
decisions_length [] h = omega arith
decisions_length (x ∷ es) h = elim (cases_Bool (is_decision x)) [
  | inl d ↦ rw d (omega (arith, decisions_length es h.1, literal_length x.lit h.0, length-append (literal_text x.lit) (spaced (map literal_text (decisions_of es)))))
  | inr r ↦ rw r (omega (arith, decisions_length es h.1))
]

decisions_made : (es : List Entry) → AllByRecursion IsFew (lits_of es) → list_all is_spellable_literal (decisions_of es) ≡ true
decisions_made [] h = refl
decisions_made (x ∷ es) h = elim (cases_Bool (is_decision x)) [
  | inl d ↦ rw d (and_from (is_spellable_literal x.lit) (list_all is_spellable_literal (decisions_of es)) (literal_made x.lit h.0) (decisions_made es h.1))
  | inr r ↦ rw r (decisions_made es h.1)
]

in_front : (P : Lit → Type 0) (xs ys : List Entry) → AllByRecursion P (lits_of (xs ++ ys)) → AllByRecursion P (lits_of xs)
in_front P [] ys h = tt
in_front P (x ∷ xs) ys h = (h.0, in_front P xs ys h.1)

each_few : (n : ℕ) (ls : List Lit) → n ≤ most_pairs → AllByRecursion (λ (l : Lit). IsCovered n l.var) ls → AllByRecursion IsFew ls
each_few n [] few h = tt
each_few n (l ∷ ls) few h = ((h.0.first, omega (arith, h.0.last, few)), each_few n ls few h.1)

-- ---- the note

learn_short : (id : RowNo) (decisions : List Lit) (l : Lit) → id.0 < 10 ^ 18 → length (spaced (map literal_text decisions)) ≤ 900000 → IsFew l → length (note_text (Learn id decisions l)) ≤ most_bytes
learn_short id decisions l small short f =
    let ds : List (List ℕ) = map literal_text decisions in
    let last : List (List ℕ) = codes ":" ∷ literal_text l ∷ [] in
    omega (
      arith,
      short,
      literal_length l f,
      length-append (literal_text l) [],
      spaced-append ds last,
      length-append (id_text id) (spaced (codes ":" ∷ (ds ++ last))),
      length-decimal-le 18 id.0 (omega arith) (omega (arith, small)) (omega arith),
      length-append (codes "*" ++ spaced (codes "note" ∷ codes "learn" ∷ id_text id ∷ codes ":" ∷ (ds ++ last))) (10 ∷ []),
    )

module _ (e : EngineState) (o : IsInOrder e) (few : e.vars ≤ most_pairs) (id : RowNo) (row : PlainRow) (level : ℕ) (l : Lit) (some : 1 ≤ id.0) (small : id.0 < 10 ^ 18) (a : Asserts e row level l) where
  asserted : IsFew l
  asserted =
      let covered : IsCovered e.vars a.propagates.term.lit.var = All-contains (λ (t : Term). IsCovered e.vars t.lit.var) row.terms a.propagates.term a.over a.propagates.has in
      subst IsFew a.propagates.lit (covered.first, omega (arith, covered.last, few))

  trail_few : AllByRecursion IsFew (lits_of e.trail)
  trail_few = each_few e.vars (lits_of e.trail) few (recursion_from_All (λ (x : Lit). IsCovered e.vars x.var) (lits_of e.trail) o.covered)

  front_few : AllByRecursion IsFew (lits_of (up_to level e.trail))
  front_few = let front = up_to-front level e.trail in in_front IsFew (up_to level e.trail) front.0 (subst (λ (es : List Entry). AllByRecursion IsFew (lits_of es)) front.1 trail_few)

  front_short : length (up_to level e.trail) ≤ 100000
  front_short = let front = up_to-front level e.trail in omega (arith, ap length front.1, length-append (up_to level e.trail) front.0, o.few, few)

  pub note_made : is_spellable_note (Learn id (decisions_at level e) l) ≡ true
  note_made =
      and_from (is_spellable_id id && list_all is_spellable_literal (decisions_at level e)) (is_spellable_literal l)
      (and_from (is_spellable_id id) (list_all is_spellable_literal (decisions_at level e)) (and_from (nat_le 1 id.0) (nat_le id.0 (10 ^ 18 - 1)) (le-leb 1 id.0 some) (le-leb id.0 (10 ^ 18 - 1) (omega (arith, small)))) (decisions_made (up_to level e.trail) front_few))
      (literal_made l asserted)

  pub note_short : length (note_text (Learn id (decisions_at level e) l)) ≤ most_bytes
  note_short = learn_short id (decisions_at level e) l small (omega (arith, front_short, decisions_length (up_to level e.trail) front_few)) asserted
