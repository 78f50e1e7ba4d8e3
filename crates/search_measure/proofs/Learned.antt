-- What moves do to the rows that were learned since another derivation.
use Rattle.std.proofs.Common.{◌≡◌, ℕ, ◌+◌, true, List, [], ◌∷◌, ◌++◌, length, append-nil, append_assoc, length-append, refl, sym, ap, ◌∙◌, subst, arith}
use Rattle.std.proofs.lemmas.List.Elements.{All-nil, All-push}
use Rattle.rank_tables.specs.Instance.{Lists, pair_count}
use Rattle.proof_rules.specs.Notes.{LearnedRow, is_greater}
use Rattle.proof_rules.specs.Told.{learned_rows, notes_of}
use Rattle.proof_rules.specs.Held.{Held}
use Rattle.derivation.specs.Derived.{Derived, StandsFor, StaysValid}
use Rattle.conflict_bound.specs.Sizes.{AreSizes}
use Rattle.conflict_bound.specs.Conflicts.{AreLater, ConflictsBounded, IsEnded, all_of}
use Rattle.conflict_bound.proofs.Counted.{notes_few}
use Rattle.search_measure.specs.Recorded.{AddsLearned, CountedIsBounded, HasLastSizes, LaterRowIsLearned, LearnedIsBounded, LinesKeepLearned, NothingIsLearned, RestartEndsStretch}
use Rattle.search_measure.proofs.Recorded.{counted}

adds-none : (d : Derived) → AddsLearned [] d d
adds-none d text s = sym (append-nil (learned_rows (notes_of d.lists (text ++ d.pending))))

adds-on : (xs ys : List LearnedRow) (a b c : Derived) → b.lists ≡ a.lists → StaysValid a b → AddsLearned xs a b → AddsLearned ys b c → AddsLearned (xs ++ ys) a c
adds-on xs ys a b c e valid h k text s =
    subst (λ (l : Lists). learned_rows (notes_of l (text ++ c.pending)) ≡ learned_rows (notes_of l (text ++ b.pending)) ++ ys) e (k text (valid text s))
    ∙ ap (λ (rows : List LearnedRow). rows ++ ys) (h text s)
    ∙ append_assoc (learned_rows (notes_of a.lists (text ++ a.pending))) xs ys

-- ---- stretches

later-push : (vars : ℕ) (rows : List LearnedRow) (b : LearnedRow) (sizes last : List ℕ) → AreLater vars rows → HasLastSizes vars rows last → AreSizes vars b sizes → is_greater sizes last ≡ true → AreLater vars (rows ++ b ∷ [])
later-push vars [] b sizes last h l s g = tt
later-push vars (a ∷ []) b sizes last h l s g = (record { sizes = sizes; sizes_before = last; are = s; were = l; greater = g }, tt)
later-push vars (a ∷ c ∷ rows) b sizes last h l s g = (h.0, later-push vars (c ∷ rows) b sizes last h.1 l s g)

last-push : (vars : ℕ) (rows : List LearnedRow) (b : LearnedRow) (sizes : List ℕ) → AreSizes vars b sizes → HasLastSizes vars (rows ++ b ∷ []) sizes
last-push vars [] b sizes s = s
last-push vars (a ∷ []) b sizes s = s
last-push vars (a ∷ c ∷ rows) b sizes s = last-push vars (c ∷ rows) b sizes s

all_of-push : (ended : List (List LearnedRow)) (stretch : List LearnedRow) → all_of (ended ++ stretch ∷ []) ≡ all_of ended ++ stretch
all_of-push [] stretch = append-nil stretch
all_of-push (s ∷ ended) stretch = ap (λ (rows : List LearnedRow). s ++ rows) (all_of-push ended stretch) ∙ sym (append_assoc s (all_of ended) stretch)

-- ---- moves

pub nothing_learned : NothingIsLearned
nothing_learned d = record {
  lists = refl;
  valid = λ text s. s;
  ended = [];
  current = [];
  adds = adds-none d;
  stretches = All-nil (IsEnded (pair_count d.lists));
  later = tt;
  last_is = refl;
  restarts_are = refl;
  since_is = refl;
}

pub lines_keep : LinesKeepLearned
lines_keep first now new restarts since last h on adds = record {
  lists = on.lists ∙ h.lists;
  valid = λ text s. on.valid text (h.valid text s);
  ended = h.ended;
  current = h.current;
  adds = subst (λ (rows : List LearnedRow). AddsLearned rows first new) (append-nil (all_of h.ended ++ h.current)) (adds-on (all_of h.ended ++ h.current) [] first now new h.lists h.valid h.adds adds);
  stretches = h.stretches;
  later = h.later;
  last_is = h.last_is;
  restarts_are = h.restarts_are;
  since_is = h.since_is;
}

pub later_learned : LaterRowIsLearned
later_learned first now new restarts since last sizes b h on adds s g = record {
  lists = on.lists ∙ h.lists;
  valid = λ text t. on.valid text (h.valid text t);
  ended = h.ended;
  current = h.current ++ b ∷ [];
  adds = subst (λ (rows : List LearnedRow). AddsLearned rows first new) (append_assoc (all_of h.ended) h.current (b ∷ [])) (adds-on (all_of h.ended ++ h.current) (b ∷ []) first now new h.lists h.valid h.adds adds);
  stretches = h.stretches;
  later = later-push (pair_count first.lists) h.current b sizes last h.later h.last_is s g;
  last_is = last-push (pair_count first.lists) h.current b sizes s;
  restarts_are = h.restarts_are;
  since_is = length-append h.current (b ∷ []) ∙ ap (λ (k : ℕ). k + 1) h.since_is;
}

pub restart_ends : RestartEndsStretch
restart_ends first now restarts since last h many = record {
  lists = h.lists;
  valid = h.valid;
  ended = h.ended ++ h.current ∷ [];
  current = [];
  adds = subst (λ (rows : List LearnedRow). AddsLearned rows first now) (sym (append-nil (all_of (h.ended ++ h.current ∷ [])) ∙ all_of-push h.ended h.current)) h.adds;
  stretches = All-push (IsEnded (pair_count first.lists)) h.ended h.current h.stretches (record { long = omega (arith, h.since_is, many); later = h.later });
  later = tt;
  last_is = refl;
  restarts_are = length-append h.ended (h.current ∷ []) ∙ ap (λ (k : ℕ). k + 1) h.restarts_are;
  since_is = refl;
}

-- ---- the end

none-left : (xs : List LearnedRow) → length xs ≡ 0 → xs ≡ []
none-left [] h = refl
none-left (x ∷ xs) h = absurd (omega arith)

pub learned_bounded : LearnedIsBounded
learned_bounded first now restarts since last text h few none s =
    subst (λ (lists : Lists). ConflictsBounded (pair_count lists) (learned_rows (notes_of lists (text ++ now.pending)))) (sym h.lists) (record {
      ended = h.ended;
      current = h.current;
      are = h.adds text s ∙ ap (λ (rows : List LearnedRow). rows ++ (all_of h.ended ++ h.current)) (none-left (learned_rows (notes_of first.lists (text ++ first.pending))) (counted first text s ∙ none));
      few = omega (arith, h.restarts_are, few);
      stretches = h.stretches;
      later = h.later;
    })

pub counted_bounded : CountedIsBounded
counted_bounded first now restarts since last text h few none s =
    let stands : StandsFor text now = h.valid text s in
    omega (
      arith,
      notes_few now.lists (text ++ now.pending) stands.notes_true (learned_bounded first now restarts since last text h few none s),
      ap (λ (held : Held). held.learn_notes) stands.tells.held_is,
    )
