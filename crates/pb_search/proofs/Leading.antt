-- The loop of a search: each step leads on and comes nearer to its end.
use Rattle.std.proofs.Common.{◌≡◌, ℕ, ◌+◌, ◌-◌, ◌*◌, ◌<◌, ◌≤◌, not, List, [], ◌∷◌, length, refl, sym, ap, subst, arith}
use Rattle.std.specs.Prelude.{None, Result, Ok, Err, IfOk}
use Rattle.std.proofs.Math.Nat.{mul-le-mul_right}
use Rattle.std.proofs.lemmas.List.{length-append}
use Rattle.std.proofs.lemmas.List.Sums.{count_by-le-length}
use Rattle.hrt_base.specs.declared.literal.Lit.{Lit}
use Rattle.hrt_base.specs.declared.numbered.PairNo.{PairNo}
use Rattle.rank_tables.specs.Instance.{pair_count}
use Rattle.rank_tables.specs.Numbers.{numbers_to}
use Rattle.rank_tables.proofs.Below.{length-numbers_to}
use Rattle.stability_model.specs.Model.{pair_row_no}
use Rattle.proof_rules.specs.Held.{is_held}
use Rattle.derivation.specs.Derived.{Derived}
use Rattle.pb_propagate.specs.Engines.{EngineState}
use Rattle.pb_propagate.specs.Moments.{IsInOrder}
use Rattle.conflict_cuts.specs.Exact.{ReachesConflict, ReachesQuiet}
use Rattle.pb_search.specs.declared.limits.Limits.{Limits}
use Rattle.pb_search.specs.declared.moves.Move.{Move}
use Rattle.pb_search.specs.declared.moves.Move.TheVariants.{On, Best, Bounded}
use Rattle.pb_search.specs.Knowing.{work_left}
use Rattle.pb_search.specs.Loop.{EndsIn, Follows, IsAtConflict, IsAtRest, IsAtStep, LeadsTo, distance_left}
use Rattle.pb_search.specs.Moves.{Decides}
use Rattle.pb_search.specs.Searching.{AreJoined}
use Rattle.pb_search.specs.Tried.{TriesCandidate}
use Rattle.pb_search.proofs.Following.{searched}
use Rattle.pb_search.proofs.Lawful.{goes_then, marked_then}
use Rattle.pb_search.proofs.Steps.{adds_rows, comes_to_rest, decides, joined-held, meets_conflict}

-- ---- numbers

falls_second : (x y n f g : ℕ) → y < x → g ≤ n → y * (n + 1) + g < x * (n + 1) + f
falls_second x y n f g h k = let more : y + 1 ≤ x = omega arith in omega (arith, mul-le-mul_right (n + 1) more)

falls_first : (a b k v w n f g : ℕ) → b < a → w < k → g ≤ n → (b * k + w) * (n + 1) + g < (a * k + v) * (n + 1) + f
falls_first a b k v w n f g h i j = let more : b + 1 ≤ a = omega arith in falls_second (a * k + v) (b * k + w) n f g (omega (arith, mul-le-mul_right k more)) j

-- work is bounded
work-bounded : (ceiling : ℕ) (pairs : List PairNo) (d : Derived) → work_left ceiling pairs d < pair_count d.lists + ceiling + 1
work-bounded ceiling pairs d = omega (arith, count_by-le-length (λ p. not (is_held d.held (pair_row_no d.lists p))) (numbers_to (pair_count d.lists)), length-numbers_to (pair_count d.lists))

-- ---- where nothing is due

-- a literal was decided
pub decided_leads : (limits : Limits) (pairs : List PairNo) (l : Lit) (e new : EngineState) (d : Derived) → IsInOrder e → Decides l e new → length new.trail ≤ new.vars → e.vars ≡ pair_count d.lists →
    (first : Derived) → IsAtRest limits pairs first e d → LeadsTo limits pairs pairs first e new d d On
decided_leads limits pairs l e new d o m few are first r = (
  record { since = r.since; is = decides first limits.budget 0 r.since l e new d o r.is m; come = r.come },
  omega (arith, ap length m.trail, length-append e.trail (record { lit = l; reason = None } ∷ []), m.vars, are, few),
)

-- the candidate was tried
pub tried_leads : (limits : Limits) (before after : List PairNo) (e new : EngineState) (d made : Derived) (move : Move) → IsInOrder e → TriesCandidate limits.budget limits.ceiling limits.bound_row before after e new d made move →
    (first : Derived) → IsAtRest limits before first e d → LeadsTo limits before after first e new d made move
tried_leads limits before after e new d made On o t first r = (
  record {
    since = r.since;
    is = adds_rows first limits.budget 0 r.since t.level e new d made o r.is t.goes_on t.unlearned t.joined t.adds;
    come = record {
      unlearned = r.come.unlearned;
      goes_on = goes_then first d made r.come.goes_on t.goes_on;
      marked = marked_then first d made r.come.marked t.marked;
      knows = t.knows;
    };
  },
  subst (λ (n : ℕ). ((limits.budget - made.held.learn_notes) * (n + limits.ceiling + 1) + work_left limits.ceiling after made) * (n + 1) + (n - length new.trail) < distance_left limits before e d) (sym (ap pair_count t.goes_on.lists))
      (subst (λ (k : ℕ). ((limits.budget - k) * (pair_count d.lists + limits.ceiling + 1) + work_left limits.ceiling after made) * (pair_count d.lists + 1) + (pair_count d.lists - length new.trail) < distance_left limits before e d) (sym t.unlearned)
      (falls_second ((limits.budget - d.held.learn_notes) * (pair_count d.lists + limits.ceiling + 1) + work_left limits.ceiling before d) ((limits.budget - d.held.learn_notes) * (pair_count d.lists + limits.ceiling + 1) + work_left limits.ceiling after made)
      (pair_count d.lists) (pair_count d.lists - length e.trail) (pair_count d.lists - length new.trail) (omega (arith, t.less)) (omega arith))),
)
tried_leads limits before after e new d made Best o t first r = (
  searched limits before first d made r.since r.is.measured.last r.come r.is.measured.learned r.is.joined.within t.goes_on t.lawful t.unlearned t.ready t.bound_live,
  t.found,
  t.contradiction,
)
tried_leads limits before after e new d made Bounded o t first r = absurd t

-- ---- a step

longer : (e calm : EngineState) → ReachesQuiet e calm → length e.trail ≤ length calm.trail
longer e calm r = omega (arith, ap length r.propagated.trail, length-append e.trail r.propagated.added)

pub quiet_leads : (limits : Limits) (before after : List PairNo) (e calm new : EngineState) (d made : Derived) (move : Move) → ReachesQuiet e calm → ((first : Derived) → IsAtRest limits before first calm d → LeadsTo limits before after first calm new d made move) →
    (first : Derived) → IsAtStep limits before first e d → LeadsTo limits before after first e new d made move
quiet_leads limits before after e calm new d made On q h first s =
    let on = h first (record { since = s.since; is = comes_to_rest first limits.budget 0 s.since e calm d s.is q; come = s.come }) in
    (on.0, omega (arith, on.1, longer e calm q))
quiet_leads limits before after e calm new d made Best q h first s = h first (record { since = s.since; is = comes_to_rest first limits.budget 0 s.since e calm d s.is q; come = s.come })
quiet_leads limits before after e calm new d made Bounded q h first s = h first (record { since = s.since; is = comes_to_rest first limits.budget 0 s.since e calm d s.is q; come = s.come })

pub conflict_leads : (limits : Limits) (pairs : List PairNo) (place : ℕ) (e met new : EngineState) (d made : Derived) (move : Move) → ReachesConflict e met place → ((first : Derived) (ps : List PairNo) → IsAtConflict limits ps first met d → Follows limits ps first d new made move) →
    (first : Derived) → IsAtStep limits pairs first e d → LeadsTo limits pairs pairs first e new d made move
conflict_leads limits pairs place e met new d made On q h first s =
    let on = h first pairs (record { since = s.since; is = meets_conflict first limits.budget 0 s.since place e met d s.is q; come = s.come }) in (
      on.0,
      subst (λ (n : ℕ). ((limits.budget - made.held.learn_notes) * (n + limits.ceiling + 1) + work_left limits.ceiling pairs made) * (n + 1) + (n - length new.trail) < distance_left limits pairs e d) (sym (ap pair_count on.1.lists))
          (falls_first (limits.budget - d.held.learn_notes) (limits.budget - made.held.learn_notes) (pair_count d.lists + limits.ceiling + 1) (work_left limits.ceiling pairs d) (work_left limits.ceiling pairs made) (pair_count d.lists)
          (pair_count d.lists - length e.trail) (pair_count d.lists - length new.trail) (omega (arith, on.1.learned, on.0.is.joined.within)) (omega (arith, work-bounded limits.ceiling pairs made, ap pair_count on.1.lists)) (omega arith)),
    )
conflict_leads limits pairs place e met new d made Best q h first s = h first pairs (record { since = s.since; is = meets_conflict first limits.budget 0 s.since place e met d s.is q; come = s.come })
conflict_leads limits pairs place e met new d made Bounded q h first s = h first pairs (record { since = s.since; is = meets_conflict first limits.budget 0 s.since place e met d s.is q; come = s.come })

-- ---- answers

pub if_ok : {A E : Type 0} (r : Result A E) (P Q : A → Type 0) → ((x : A) → P x → Q x) → IfOk r P → IfOk r Q
if_ok (Ok x) P Q f h = f x h
if_ok (Err e) P Q f h = h

-- what is so of engine and derivation after propagation
pub joined_conflict : (budget place : ℕ) (e met : EngineState) (d : Derived) → ReachesConflict e met place → AreJoined budget e d → AreJoined budget met d
joined_conflict budget place e met d r j = joined-held budget e met d r.propagated.vars r.propagated.held j

pub joined_quiet : (budget : ℕ) (e calm : EngineState) (d : Derived) → ReachesQuiet e calm → AreJoined budget e d → AreJoined budget calm d
joined_quiet budget e calm d r j = joined-held budget e calm d r.propagated.vars r.propagated.held j

-- a move that doesn't go on ends the search
pub ends_in : (limits : Limits) (before after : List PairNo) (first : Derived) (e new : EngineState) (d made : Derived) (move : Move) → LeadsTo limits before after first e new d made move → (move ≡ On → ⊥) → EndsIn limits after first made move
ends_in limits before after first e new d made On h n = absurd (n refl)
ends_in limits before after first e new d made Best h n = h
ends_in limits before after first e new d made Bounded h n = h
