-- Each move of a search keeps what is so of it.
use Rattle.std.proofs.Common.{◌≡◌, ◌+◌, ◌-◌, ◌<◌, ◌≤◌, ℕ, append-nil, get_or, List, [], ◌∷◌, ◌++◌, sym, ap, ◌∙◌, subst, arith, inl, inr}
use Rattle.std.specs.Prelude.{None}
use Rattle.std.specs.List.{All, Contains}
use Rattle.std.proofs.lemmas.Bool.{cases_lt}
use Rattle.std.proofs.lemmas.List.Elements.{All-append, All-cons, All-nil, Contains-push}
use Rattle.hrt_base.specs.declared.literal.Lit.{Lit}
use Rattle.pb_rows.specs.Closure.{Keeps}
use Rattle.rank_tables.specs.Instance.{pair_count}
use Rattle.proof_lines.specs.declared.note.Note.TheVariants.{Learn}
use Rattle.proof_lines.specs.Texts.{note_text}
use Rattle.proof_rules.specs.Held.{Held as Noted, held_rows}
use Rattle.proof_rules.specs.Notes.{LearnedRow}
use Rattle.derivation.specs.Derived.{Derived}
use Rattle.conflict_bound.specs.Sizes.{AreSizes}
use Rattle.row_arena.specs.Held.{Held}
use Rattle.pb_propagate.specs.Entries.{Entry, level_of, set_of, up_to}
use Rattle.pb_propagate.specs.Engines.{AreKeptBelow, EngineState, IsIdle, IsKeptBelow, decisions_at, set_at}
use Rattle.pb_propagate.specs.Moments.{IsInOrder}
use Rattle.pb_propagate.specs.Open.{PropagatesLit}
use Rattle.pb_propagate.specs.Tables.{starts_from}
use Rattle.pb_propagate.proofs.Engines.{idle-kept, kept_below-back}
use Rattle.pb_propagate.proofs.Levels.{level-append, up_to-above, up_to-all, up_to-below}
use Rattle.pb_propagate.proofs.Starts.{starts-length}
use Rattle.conflict_cuts.specs.Exact.{IsExactAt}
use Rattle.agreement.proofs.Growing.{engines_followed}
use Rattle.search_measure.specs.Ahead.{sizes_at}
use Rattle.search_measure.specs.Trails.{SomeOpen}
use Rattle.search_measure.specs.Recorded.{HasLearned}
use Rattle.search_measure.proofs.Moved.{added_ahead, conflict_later, decision_ahead, learned_ahead, quiet_level, restarts_level, rows-held, starts_ahead}
use Rattle.search_measure.proofs.Agreeing.{note_sized, unrefuted}
use Rattle.search_measure.proofs.Recorded.{learn_nothing, notes_learn}
use Rattle.search_measure.proofs.Learned.{counted_bounded, later_learned, lines_keep, nothing_learned, restart_ends}
use Rattle.pb_search.specs.Searching.{AreJoined}
use Rattle.pb_search.specs.Moves.{CalmAddsRows, CalmDecides, CalmRestarts, ConflictLearns, ConflictSpends, SearchComesToRest, SearchMeetsConflict, SearchStarts, SpentBudgetIsSmall}

pub joined-held : (budget : ℕ) (e new : EngineState) (d : Derived) → new.vars ≡ e.vars → new.held ≡ e.held → AreJoined budget e d → AreJoined budget new d
joined-held budget e new d vars held j = record { ready = j.ready; agree = engines_followed e new d j.agree (record { vars = vars; held = held }); within = j.within }

-- ---- start and propagation

pub starts : SearchStarts
starts d budget e j kept = record { joined = j; kept = kept; measured = record { last = []; learned = nothing_learned d; trail = starts_ahead e } }

pub meets_conflict : SearchMeetsConflict
meets_conflict first budget restarts since place e new d s r = record {
  joined = joined-held budget e new d r.propagated.vars r.propagated.held s.joined;
  exact = r.exact;
  measured = record { last = s.measured.last; learned = s.measured.learned; trail = conflict_later e new place s.measured.last s.measured.trail r };
}

pub comes_to_rest : SearchComesToRest
comes_to_rest first budget restarts since e new d s r = record {
  joined = joined-held budget e new d r.propagated.vars r.propagated.held s.joined;
  idle = r.idle;
  measured = record { last = s.measured.last; learned = s.measured.learned; trail = quiet_level e new s.measured.last s.measured.trail r };
}

-- ---- rows below a level

-- what an engine's rows and more keep below a level, they keep after the engine went back to it
back-kept : (e new : EngineState) (more : List Held) (level : ℕ) → new.held ≡ e.held ++ more → new.trail ≡ up_to level e.trail → ((k : ℕ) → k < level → All (λ (h : Held). Keeps (set_at k e) h.row) (e.held ++ more)) → AreKeptBelow new
back-kept e new more level held trail kept = kept_below-back (record e { held = e.held ++ more }) new level held trail (λ i d lt k low. kept k low i d lt)

exact-rows : (e : EngineState) (k : ℕ) → IsExactAt k e → All (λ (h : Held). Keeps (set_at k e) h.row) e.held
exact-rows e k x = rows-held (Keeps (set_at k e)) e.held x.quiet.kept

-- ---- where nothing is due

-- a decision behind a trail is above its levels
up_to-decided : (k : ℕ) (t : List Entry) (l : Lit) → k ≤ level_of t → up_to k (t ++ record { lit = l; reason = None } ∷ []) ≡ up_to k t
up_to-decided k t l h = elim (cases_lt k (level_of t)) [
  | inl below ↦ up_to-below k t (record { lit = l; reason = None } ∷ []) below
  | inr above ↦
      let none : k - level_of t ≡ 0 = omega (arith, h) in
      up_to-above k t (record { lit = l; reason = None } ∷ []) above
      ∙ ap (λ (j : ℕ). t ++ up_to j (record { lit = l; reason = None } ∷ [])) none
      ∙ append-nil t
      ∙ sym (up_to-all k t above)
]

level-decided : (t : List Entry) (l : Lit) → level_of (t ++ record { lit = l; reason = None } ∷ []) ≡ level_of t + 1
level-decided t l = omega (arith, level-append t (record { lit = l; reason = None } ∷ []))

decided-kept : (l : Lit) (e new : EngineState) → IsInOrder e → IsIdle e → new.held ≡ e.held → new.trail ≡ e.trail ++ record { lit = l; reason = None } ∷ [] → AreKeptBelow new
decided-kept l e new o idle held trail =
    subst (λ (hs : List Held). All (λ (h : Held). IsKeptBelow new h.row) hs) (sym held) (λ i d lt k low.
    let within : k ≤ level_of e.trail = omega (arith, low, ap level_of trail, level-decided e.trail l) in
    let same : up_to k new.trail ≡ up_to k e.trail = ap (up_to k) trail ∙ up_to-decided k e.trail l within in
    subst (λ (t : List Entry). Keeps (set_of t) (get_or e.held i d).row) (sym same) (idle-kept e o.sound idle k i d lt))

pub decides : CalmDecides
decides first budget restarts since l e new d o c m = record {
  joined = joined-held budget e new d m.vars m.held c.joined;
  kept = decided-kept l e new o c.idle m.held m.trail;
  measured = record { last = c.measured.last; learned = c.measured.learned; trail = decision_ahead e new l c.measured.last c.measured.trail m.trail };
}

pub adds_rows : CalmAddsRows
adds_rows first budget restarts since level e new d made o c on same joined r = record {
  joined = joined;
  kept = back-kept e new r.more level r.held r.trail (λ k low. All-append (λ (h : Held). Keeps (set_at k e) h.row) e.held r.more (idle-kept e o.sound c.idle k) (r.lower k low));
  measured = record {
    last = c.measured.last;
    learned = lines_keep first d made restarts since c.measured.last c.measured.learned on (learn_nothing d made on same);
    trail = added_ahead e new level c.measured.last c.measured.trail r.trail r.some_open;
  };
}

pub calm_restarts : CalmRestarts
calm_restarts first budget restarts since e new d c many r = record {
  joined = joined-held budget e new d r.vars r.held c.joined;
  idle = r.idle;
  measured = record { last = []; learned = restart_ends first d restarts since c.measured.last c.measured.learned many; trail = restarts_level new };
}

-- ---- after a conflict

pub learns : ConflictLearns
learns first budget restarts since level id row l e new d made noted o c room a p r = record {
  joined = record { ready = r.ready; agree = r.agree; within = omega (arith, room, ap (λ (x : Derived). x.held.learn_notes) r.note.is, ap (λ (h : Noted). h.learn_notes) a.held) };
  kept = back-kept e new (h ∷ []) level r.held r.trail (λ k low. All-append (λ (x : Held). Keeps (set_at k e) x.row) e.held (h ∷ []) (exact-rows e k (c.exact k (omega (arith, low, p.below)))) (All-cons (λ (x : Held). Keeps (set_at k e) x.row) h [] (p.lowest k low) (All-nil (λ (x : Held). Keeps (set_at k e) x.row))));
  measured = record {
    last = sizes;
    learned = later_learned first made noted restarts since c.measured.last sizes learned analyzed (record { lists = ap (λ (x : Derived). x.lists) r.note.is; more = note_text (Learn id (decisions_at level e) l); pending = ap (λ (x : Derived). x.pending) r.note.is; valid = r.valid })
        (notes_learn (Learn id (decisions_at level e) l) made noted r.note) sized (c.measured.trail level (omega (arith, p.below, starts-length 0 e.trail)));
    trail = learned_ahead e new level p.below r.trail some_open;
  };
}
  where
    h : Held
    h = record { place = r.place; row = row; tag = id.0 }

    sizes : List ℕ
    sizes = sizes_at (starts_from 0 e.trail) level

    learned : LearnedRow
    learned = record { held = held_rows made.state.live made.held; decisions = decisions_at level e; asserts = l }

    analyzed : HasLearned first made restarts since c.measured.last
    analyzed = lines_keep first d made restarts since c.measured.last c.measured.learned a.goes_on (learn_nothing d made a.goes_on (ap (λ (x : Noted). x.learn_notes) a.held))

    sized : AreSizes (pair_count first.lists) learned sizes
    sized = subst (λ (n : ℕ). AreSizes n learned sizes) (c.joined.agree.vars ∙ ap pair_count c.measured.learned.lists) (note_sized e made row level l o a.agree a.numbers c.exact p)

    some_open : SomeOpen new
    some_open = record {
      which = h;
      held = subst (λ (hs : List Held). Contains hs h) (sym r.held) (Contains-push e.held h);
      is = inr (l, subst (λ (t : List Entry). PropagatesLit (set_of t) row l) (sym r.trail) p.propagates);
    }

-- ---- the end

pub spends : ConflictSpends
spends first budget restarts since e d c numbers above spent = record { spent = spent; unrefuted = unrefuted e d c.joined.agree numbers c.exact above }

pub spent_small : SpentBudgetIsSmall
spent_small first now budget restarts since last text h few none s spent = omega (arith, spent.spent, counted_bounded first now restarts since last text h few none s)
