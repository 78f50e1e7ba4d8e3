-- Notes, worked by hand: which rows they hold, loads that are honest and that aren't, a fresh learned row and its sizes.
use Rattle.std.specs.Prelude.{◌≡◌, ◌<◌, ◌≤◌, ℕ, ◌+◌, Bool, true, false, if◌then◌else◌, IsTrue, List, [], ◌∷◌, ◌++◌, map, length, flat_map, codes, None, refl}
use Rattle.std.proofs.Common.{arith, subst, sym, ◌∙◌}
use Rattle.std.proofs.lemmas.Bool.{true≢false}
use Rattle.std.proofs.lemmas.List.Elements.{All-contains, All-from_recursion}
use Rattle.hrt_base.specs.declared.literal.Lit.{Lit}
use Rattle.hrt_base.specs.declared.numbered.RowNo.{RowNo}
use Rattle.hrt_base.specs.declared.literal.Term.{Term}
use Rattle.pb_rows.specs.Terms.{PlainRow, opposite_lit}
use Rattle.pb_rows.specs.Points.{IsCovered}
use Rattle.pb_rows.specs.Rows.{holds, in_normal_form}
use Rattle.pb_rows.specs.Closure.{IsClosure, IsQuiet, IsSettled, Keeps, Literals, Propagates, among}
use Rattle.stability_model.specs.Model.{pair_row, pair_row_no, point_of_pairs}
use Rattle.proof_lines.specs.Spelling.{row_no}
use Rattle.proof_lines.specs.declared.note.Note.{Note}
use Rattle.proof_lines.specs.declared.note.Note.TheVariants.{Unit as UnitRow, Bound as BoundRow, Load, Learn, Drop}
use Rattle.proof_rules.specs.Valid.{Headed, Proving}
use Rattle.proof_rules.specs.Held.{first_held, held_rows, is_held}
use Rattle.proof_rules.specs.States.{IsInOrder}
use Rattle.proof_rules.specs.Notes.{AreDecisions, Asserts, Fresh, HaveSizes, Later, HonestLoad, IsBroken, IsTrueNote, LearnedRow, is_greater}
use Rattle.proof_rules.specs.Told.{IsTrueIn, NoteAt, held_by, learned_in, learned_rows, notes_of}
use Rattle.proof_rules.proofs.Learned.{among-all}
use Rattle.proof_rules.proofs.Worked.{not_x, row, s0, tied, w, x}

abbrev lined : List (List ℕ) → List ℕ
lined texts = flat_map (λ text. text ++ 10 ∷ []) texts

-- ---- held rows

-- two residents and two hospitals: rows 1 to 4
first : first_held tied ≡ record { kept = 1 ∷ 2 ∷ 3 ∷ 4 ∷ []; learned = []; learn_notes = 0 }
first = refl

text : List ℕ
text = lined (codes "pseudo-Boolean proof version 2.0" ∷ codes "f 7" ∷ codes "* note load x2 : 5 7" ∷ codes "pol 5 7 +" ∷ codes "* note learn 8 : ~x1 : x3" ∷ codes "soli ~x1 x2 x3" ∷ codes "*note unit 8" ∷ codes "* note drop 8" ∷ codes "del id 8" ∷ [])

held : held_by tied text ≡ record { kept = 1 ∷ 2 ∷ 3 ∷ 4 ∷ 5 ∷ 7 ∷ 9 ∷ []; learned = []; learn_notes = 1 }
unfolding text
held = refl

-- the rows of unit and bound notes
noted : List ℕ
noted = lined (codes "pseudo-Boolean proof version 2.0" ∷ codes "f 7" ∷ codes "* note unit 5" ∷ codes "* note bound 7" ∷ [])

noted-held : held_by tied noted ≡ record { kept = 1 ∷ 2 ∷ 3 ∷ 4 ∷ 5 ∷ 7 ∷ []; learned = []; learn_notes = 0 }
unfolding noted
noted-held = refl

-- one row is learned, where six are held, and it isn't held just before its note
asserted : map (λ (r : LearnedRow). r.asserts) (learned_rows (notes_of tied text)) ≡ x 3 ∷ []
unfolding text
asserted = refl

held_then : map (λ (r : LearnedRow). length r.held) (learned_rows (notes_of tied text)) ≡ 6 ∷ []
unfolding text
held_then = refl

-- the load note stands before all steps
load_at : NoteAt
load_at = record { place = Proving s0; held = first_held tied; note = Load (2 ∷ []) (row_no 5 ∷ row_no 7 ∷ []) }

abbrev noted_first : List NoteAt → List NoteAt
noted_first [] = []
noted_first (note ∷ notes) = note ∷ []

load-first : noted_first (notes_of tied text) ≡ load_at ∷ []
unfolding text load_at
load-first = refl

-- ---- an honest load: at the second pair alone the rows of the first and of the third pair don't hold

honest : HonestLoad tied (held_rows s0.live (first_held tied)) (2 ∷ []) (row_no 5 ∷ row_no 7 ∷ [])
honest = record {
  some = omega arith;
  held_hold = All-from_recursion (λ (r : PlainRow). IsTrue (holds (point_of_pairs (2 ∷ [])) r)) (held_rows s0.live (first_held tied)) (refl, (refl, (refl, (refl, tt))));
  broken = All-from_recursion (IsBroken tied (point_of_pairs (2 ∷ []))) (row_no 5 ∷ row_no 7 ∷ []) ((1, (omega arith, omega arith), refl, refl), ((3, (omega arith, omega arith), refl, refl), tt));
}

-- ---- loads that aren't honest

-- of no row
no-row : HonestLoad tied (held_rows s0.live (first_held tied)) (2 ∷ []) [] → ⊥
no-row h = omega (arith, h.some)

-- of row 6 too, which holds: it is that of the second pair
pair-six : (p : ℕ) → 6 ≡ pair_row_no tied p → p ≡ 2
pair-six p e = omega (arith, e)

holding-row : HonestLoad tied (held_rows s0.live (first_held tied)) (2 ∷ []) (row_no 5 ∷ row_no 6 ∷ []) → ⊥
holding-row h =
    let six : IsBroken tied (point_of_pairs (2 ∷ [])) (row_no 6) = h.broken 1 (row_no 6) (omega arith) in
    let unheld : holds (point_of_pairs (2 ∷ [])) (in_normal_form (pair_row tied 2)) ≡ false = subst (λ (p : ℕ). holds (point_of_pairs (2 ∷ [])) (in_normal_form (pair_row tied p)) ≡ false) (pair-six six.0 six.2) six.3 in
    true≢false unheld

-- of the row of a resident
resident-row : HonestLoad tied (held_rows s0.live (first_held tied)) [] (row_no 1 ∷ []) → ⊥
resident-row h =
    let one : IsBroken tied (point_of_pairs []) (row_no 1) = h.broken 0 (row_no 1) (omega arith) in
    omega (arith, one.2)

-- at the first two pairs, both of one resident, whose row is held
broken-row : (ids : List RowNo) → HonestLoad tied (held_rows s0.live (first_held tied)) (1 ∷ 2 ∷ []) ids → ⊥
broken-row ids h =
    let first : holds (point_of_pairs (1 ∷ 2 ∷ [])) (row (w 1 (not_x 1) ∷ w 1 (not_x 2) ∷ []) 1) ≡ true = h.held_hold 0 (row [] 0) (omega arith) in
    true≢false (sym first)

-- ---- notes of rows that aren't there

not-live : IsTrueNote tied s0.live (first_held tied) (UnitRow (row_no 8)) → ⊥
not-live h = true≢false (sym h)

not-learned : IsTrueNote tied s0.live (first_held tied) (Drop (row_no 4)) → ⊥
not-learned h = true≢false (sym h)

-- ---- a fresh row: x1 + x2 >= 1 is held, ~x1 is decided, and ~x2 + x3 >= 1 makes x3 true

abbrev either : PlainRow
either = row (w 1 (x 1) ∷ w 1 (x 2) ∷ []) 1

abbrev learned : PlainRow
learned = row (w 1 (not_x 2) ∷ w 1 (x 3) ∷ []) 1

abbrev decided : List Lit
decided = not_x 1 ∷ []

abbrev closed : Literals
closed = among (not_x 1 ∷ x 2 ∷ [])

none-closure : IsClosure (either ∷ []) (among []) (among [])
none-closure = record {
  quiet = record {
    has_given = λ l g. g;
    consistent = λ l t. refl;
    kept = All-from_recursion (Keeps (among [])) (either ∷ []) (
      record {
        unfalsified = omega arith;
        settled = All-from_recursion (IsSettled (among []) either) either.terms ((λ f below. absurd (omega (arith, below))), ((λ f below. absurd (omega (arith, below))), tt));
      },
      tt,
    );
  };
  least = λ other q l t. absurd (true≢false (sym t));
}

-- ~x1 and either give x2
second_in : (other : Literals) → IsQuiet (either ∷ []) (among decided) other → other (x 2) ≡ true
second_in other q =
    let kept : Keeps other either = q.kept 0 either (omega arith) in
    let unfalse : other (not_x 2) ≡ false = open_sum (other (not_x 1)) (other (not_x 2)) (q.has_given (not_x 1) refl) kept.unfalsified in
    kept.settled 1 (w 1 (x 1)) (omega arith) unfalse (small (other (not_x 1)) (other (not_x 2)) (q.has_given (not_x 1) refl))
  where
    open_sum : (a b : Bool) → a ≡ true → 1 ≤ (if a then 0 else 1) + ((if b then 0 else 1) + 0) → b ≡ false
    open_sum true true e h = absurd (omega (arith, h))
    open_sum true false e h = refl
    open_sum false b e h = absurd (true≢false (sym e))

    small : (a b : Bool) → a ≡ true → (if a then 0 else 1) + ((if b then 0 else 1) + 0) < 1 + 1
    small true true e = omega arith
    small true false e = omega arith
    small false b e = absurd (true≢false (sym e))

closed-closure : IsClosure (either ∷ []) (among decided) closed
closed-closure = record {
  quiet = record {
    has_given = λ l g. among-all (λ k. closed k ≡ true) decided l (refl, tt) g;
    consistent = λ l t. among-all (λ k. closed (opposite_lit k) ≡ false) (not_x 1 ∷ x 2 ∷ []) l (refl, (refl, tt)) t;
    kept = All-from_recursion (Keeps closed) (either ∷ []) (
      record {
        unfalsified = omega arith;
        settled = All-from_recursion (IsSettled closed either) either.terms ((λ f below. absurd (true≢false f)), ((λ f below. refl), tt));
      },
      tt,
    );
  };
  least = λ other q l t. among-all (λ k. other k ≡ true) (not_x 1 ∷ x 2 ∷ []) l (q.has_given (not_x 1) refl, (second_in other q, tt)) t;
}

fresh : Fresh 3 (either ∷ []) learned decided (x 3)
fresh = record {
  decisions_known = All-from_recursion (λ (d : Lit). IsCovered 3 d.var) decided (record { first = omega arith; last = omega arith }, tt);
  known = record { first = omega arith; last = omega arith };
  decided = ((among [], none-closure, record { not_true = refl; not_false = refl }), tt);
  set = closed;
  closure = closed-closure;
  leaves_open = record { not_true = refl; not_false = refl };
  asserts = (w 1 (x 3), (1, omega arith, refl), refl, record { free = refl; exceeds = omega arith });
}

-- the row itself isn't fresh: what it would assert is in the closure already
known-literal : Fresh 3 (either ∷ []) either decided (x 2) → ⊥
known-literal h = true≢false (sym (second_in h.set h.closure.quiet) ∙ h.leaves_open.not_true)

-- no row of a model of three pairs asserts x4, or is learned under a decision of it
strange-assertion : (id : RowNo) (decisions : List Lit) → IsTrueNote tied s0.live (first_held tied) (Learn id decisions (x 4)) → ⊥
strange-assertion id decisions h =
    let last : 4 ≤ 3 = h.2.known.last in
    omega (arith, last)

strange-decision : (id : RowNo) (l : Lit) → IsTrueNote tied s0.live (first_held tied) (Learn id (x 1 ∷ not_x 4 ∷ []) l) → ⊥
strange-decision id l h =
    let second : IsCovered 3 4 = h.2.decisions_known 1 (x 0) (omega arith) in
    omega (arith, second.last)

-- and neither x2 nor its opposite is a decision after ~x1
decided-true : AreDecisions (either ∷ []) [] (not_x 1 ∷ x 2 ∷ []) → ⊥
decided-true h =
    let later : AreDecisions (either ∷ []) decided (x 2 ∷ []) = h.1 in
    true≢false (sym (second_in later.0.0 later.0.1.quiet) ∙ later.0.2.not_true)

decided-false : AreDecisions (either ∷ []) [] (not_x 1 ∷ not_x 2 ∷ []) → ⊥
decided-false h =
    let later : AreDecisions (either ∷ []) decided (not_x 2 ∷ []) = h.1 in
    true≢false (sym (second_in later.0.0 later.0.1.quiet) ∙ later.0.2.not_false)

-- no literal is in the first closure, and two in the second, with the learned one three
sizes : HaveSizes 3 (either ∷ []) [] decided (x 3) (0 ∷ 3 ∷ [])
sizes = (among [], 3 ∷ [], none-closure, refl, (closed, closed-closure, refl))

-- ---- dictionary order

greater-first : is_greater (2 ∷ []) (1 ∷ 5 ∷ []) ≡ true
greater-first = refl

greater-longer : is_greater (1 ∷ 5 ∷ []) (1 ∷ []) ≡ true
greater-longer = refl

greater-prefix : is_greater (1 ∷ []) (1 ∷ 5 ∷ []) ≡ false
greater-prefix = refl

greater-same : is_greater (1 ∷ 5 ∷ []) (1 ∷ 5 ∷ []) ≡ false
greater-same = refl

-- ---- loads of rows that are no pair's: row 4 is a hospital's, and row 8 stands behind the last pair's

hospital-row : HonestLoad tied (held_rows s0.live (first_held tied)) [] (row_no 4 ∷ []) → ⊥
hospital-row h =
    let one : IsBroken tied (point_of_pairs []) (row_no 4) = h.broken 0 (row_no 4) (omega arith) in
    omega (arith, one.1.0, one.2)

row-behind : HonestLoad tied (held_rows s0.live (first_held tied)) [] (row_no 8 ∷ []) → ⊥
row-behind h =
    let one : IsBroken tied (point_of_pairs []) (row_no 8) = h.broken 0 (row_no 8) (omega arith) in
    omega (arith, one.1.1, one.2)

-- ---- notes of rows that aren't live, and notes before the steps

bound-not_live : IsTrueNote tied s0.live (first_held tied) (BoundRow (row_no 8)) → ⊥
bound-not_live h = true≢false (sym h)

learned-not_live : IsTrueNote tied s0.live (first_held tied) (Learn (row_no 8) decided (x 3)) → ⊥
learned-not_live h = absurd (cc (h.1))

early-note : (note : Note) → IsTrueIn tied Headed (first_held tied) note → ⊥
early-note note h = h

early-learned : learned_in Headed (first_held tied) (Learn (row_no 8) decided (x 3)) ≡ []
early-learned = refl

-- ---- what a row doesn't assert: another literal, one that it doesn't propagate, and one that it doesn't have

other-literal : Asserts closed learned (not_x 3) → ⊥
other-literal h = All-contains (λ (t : Term). t.lit ≡ not_x 3 → ⊥) learned.terms h.0 (All-from_recursion (λ (t : Term). t.lit ≡ not_x 3 → ⊥) learned.terms ((λ e. cc), ((λ e. cc), tt))) h.1 h.2

abbrev open_row : PlainRow
open_row = row (w 1 (x 3) ∷ w 1 (x 4) ∷ []) 1

idle-literal : Asserts closed open_row (x 3) → ⊥
idle-literal h =
    All-contains (λ (t : Term). Propagates closed open_row t → ⊥) open_row.terms h.0
    (All-from_recursion (λ (t : Term). Propagates closed open_row t → ⊥) open_row.terms ((λ p. omega (arith, p.exceeds)), ((λ p. omega (arith, p.exceeds)), tt))) h.1 h.3

abbrev other_row : PlainRow
other_row = row (w 1 (not_x 2) ∷ []) 0

strange-literal : Asserts closed other_row (x 3) → ⊥
strange-literal h = All-contains (λ (t : Term). t.lit ≡ x 3 → ⊥) other_row.terms h.0 (All-from_recursion (λ (t : Term). t.lit ≡ x 3 → ⊥) other_row.terms ((λ e. cc), tt)) h.1 h.2

-- ---- the sizes (1) are greater than (0, 3)

nothing-closure : IsClosure [] (among []) (among [])
nothing-closure = record {
  quiet = record { has_given = λ l g. g; consistent = λ l t. refl; kept = All-from_recursion (Keeps (among [])) [] tt };
  least = λ other q l t. absurd (true≢false (sym t));
}

later : Later 3 (record { held = []; decisions = []; asserts = x 3 }) (record { held = either ∷ []; decisions = decided; asserts = x 3 })
later = record { sizes = 1 ∷ []; sizes_before = 0 ∷ 3 ∷ []; are = (among [], nothing-closure, refl); were = sizes; greater = refl }

-- ---- a learned row is held, and row numbers begin with 1

learned-held : is_held (record { kept = []; learned = 8 ∷ []; learn_notes = 1 }) 8 ≡ true
learned-held = refl

number-zero : IsInOrder (record { live = record { number = 0; row = row [] 0 } ∷ []; next = 1; least = None }) → ⊥
number-zero h = omega (arith, h.0)
