-- Lists of the same rows keep the same sets, and so have the same closures and learned rows.
use Rattle.std.proofs.Common.{◌≡◌, ℕ, List, [], ◌∷◌, ◌++◌, refl, subst, inl, inr}
use Rattle.std.specs.List.{All, Contains}
use Rattle.std.proofs.lemmas.Bool.{cases_Bool}
use Rattle.std.proofs.lemmas.List.Elements.{All-contains}
use Rattle.hrt_base.specs.declared.literal.Lit.{Lit}
use Rattle.pb_rows.specs.Terms.{PlainRow}
use Rattle.pb_rows.specs.Closure.{IsClosure, IsQuiet, Keeps, Literals, among}
use Rattle.proof_rules.specs.Held.{held_rows}
use Rattle.proof_rules.specs.Notes.{AreDecisions, Fresh, HaveSizes}
use Rattle.row_arena.specs.Held.{held_rows as rows_of_engine}
use Rattle.pb_propagate.specs.Entries.{Entry, decisions_of, is_decision, up_to}
use Rattle.pb_propagate.specs.Engines.{decisions_at, set_at}
use Rattle.agreement.specs.Agreement.{AreSameRows}
use Rattle.agreement.proofs.SameRows.{same_rows}
use Rattle.search_measure.specs.Agreeing.{HeldAboveGround, LearnNoteHasSizes, LearnNoteIsTrue, SameRowsSameClosures, SameRowsSameFresh, SameRowsSameSizes}
use Rattle.search_measure.proofs.LearnedRows.{learned_fresh, learned_sized}

-- what holds of each row of a list holds of each of those that stand in it
each-there : (P : PlainRow → Type 0) (rs qs : List PlainRow) → All (Contains qs) rs → All P qs → All P rs
each-there P rs qs there all k d lt = All-contains P qs _ all (there k d lt)

quiet-same : (rs qs : List PlainRow) (given set : Literals) → All (Contains rs) qs → IsQuiet rs given set → IsQuiet qs given set
quiet-same rs qs given set back q = record { has_given = q.has_given; consistent = q.consistent; kept = each-there (Keeps set) qs rs back q.kept }

pub same_closures : SameRowsSameClosures
same_closures rs qs given set s c = record {
  quiet = quiet-same rs qs given set s.back c.quiet;
  least = λ other q. c.least other (quiet-same qs rs given other s.there q);
}

decisions-same : (rs qs : List PlainRow) (earlier later : List Lit) → AreSameRows rs qs → AreDecisions rs earlier later → AreDecisions qs earlier later
decisions-same rs qs earlier [] s h = tt
decisions-same rs qs earlier (d ∷ later) s h =
    ((h.0.0, same_closures rs qs (among earlier) h.0.0 s h.0.1, h.0.2), decisions-same rs qs (earlier ++ d ∷ []) later s h.1)

pub same_fresh : SameRowsSameFresh
same_fresh vars rs qs row decisions l s f = record {
  decisions_known = f.decisions_known;
  known = f.known;
  decided = decisions-same rs qs [] decisions s f.decided;
  set = f.set;
  closure = same_closures rs qs (among decisions) f.set s f.closure;
  leaves_open = f.leaves_open;
  asserts = f.asserts;
}

sizes-same : (vars : ℕ) (rs qs : List PlainRow) (earlier later : List Lit) (l : Lit) (sizes : List ℕ) → AreSameRows rs qs → HaveSizes vars rs earlier later l sizes → HaveSizes vars qs earlier later l sizes
sizes-same vars rs qs earlier [] l sizes s h = (h.0, same_closures rs qs (among earlier) h.0 s h.1, h.2)
sizes-same vars rs qs earlier (d ∷ later) l sizes s h =
    (h.0, h.1, same_closures rs qs (among earlier) h.0 s h.2, h.3, sizes-same vars rs qs (earlier ++ d ∷ []) later l h.1 s h.4)

pub same_sizes : SameRowsSameSizes
same_sizes vars rs qs decisions l sizes s h = sizes-same vars rs qs [] decisions l sizes s h

-- ---- an engine and a derivation

pub note_true : LearnNoteIsTrue
note_true e d id row level l o agree numbers exact p live = (
  row,
  live,
  subst (λ (n : ℕ). Fresh n (held_rows d.state.live d.held) row (decisions_at level e) l) agree.vars
      (same_fresh e.vars (rows_of_engine e.held) (held_rows d.state.live d.held) row (decisions_at level e) l (same_rows e d agree numbers) (learned_fresh e row level l o exact p)),
)

pub note_sized : LearnNoteHasSizes
note_sized e d row level l o agree numbers exact p =
    same_sizes e.vars (rows_of_engine e.held) (held_rows d.state.live d.held) (decisions_at level e) l _ (same_rows e d agree numbers) (learned_sized e row level l o exact p)

decisions-ground : (t : List Entry) → decisions_of (up_to 0 t) ≡ []
decisions-ground [] = refl
decisions-ground (e ∷ t) = elim (cases_Bool (is_decision e)) [
  | inl d ↦ rw d refl
  | inr r ↦ rw (r, r) (decisions-ground t)
]

pub unrefuted : HeldAboveGround
unrefuted e d agree numbers exact above r =
    let ground : IsClosure (rows_of_engine e.held) (among []) (set_at 0 e) = subst (λ (ds : List Lit). IsClosure (rows_of_engine e.held) (among ds) (set_at 0 e)) (decisions-ground e.trail) (exact 0 above) in
    r (set_at 0 e) (same_closures (rows_of_engine e.held) (held_rows d.state.live d.held) (among []) (set_at 0 e) (same_rows e d agree numbers) ground).quiet
