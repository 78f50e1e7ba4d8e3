-- Rows of tenants that go along with the standings.
use Rattle.std.proofs.Common.{◌≡◌, ℕ, ◌+◌, ◌*◌, ◌<◌, ◌≤◌, Bool, true, false, not, ◌&&◌, ◌==◌, List, [], ◌∷◌, length, count_by, refl, sym, ap, ◌∙◌, inl, inr, subst, arith}
use Rattle.std.proofs.lemmas.Bool.{true≢false, eqb-true, eq-eqb, ne_eqb, and_left, cases_eq}
use Rattle.std.proofs.lemmas.List.{length-replicate}
use Rattle.std.proofs.lemmas.List.Sums.{sum_by-cons}
use Rattle.rank_tables.specs.Numbers.{numbers_to}
use Rattle.rank_tables.specs.Instance.{Lists, pair_count, pair_at, rank_by_hospital}
use Rattle.rank_tables.specs.Tables.{IsPairNo}
use Rattle.rank_tables.proofs.Numbers.{sum_by_same}
use Rattle.promotion_heuristic.specs.declared.standing.Standing.{Standing}
use Rattle.promotion_heuristic.specs.declared.tenant.Tenant.{Tenant}
use Rattle.promotion_heuristic.specs.Promotion.{standing_of, is_promoted, holds, held, held_at, taken, turned_away, start, at_top}
use Rattle.promotion_heuristic.specs.Queues.{row, Adds}
use Rattle.promotion_heuristic.specs.Rounds.{tenant_of, IsKept}
use Rattle.promotion_heuristic.proofs.Counting.{one_if, count_by-filter_and, sum_within}
use Rattle.promotion_heuristic.proofs.Standings.{standing-same, standing-other, length-taken, length-turned_away, holds-taken, holds-turned_away}
use Rattle.promotion_heuristic.proofs.Fair.{held-more}
use Rattle.promotion_heuristic.proofs.Exchange.{holds-put_out, put_out-holds}
use Rattle.promotion_heuristic.proofs.Steps.{nothing-held}

-- ---- counts of tenants

-- whether a pair is held at a hospital, and its tenant passes a test
abbrev passes : Lists → List Standing → ℕ → (Tenant → Bool) → ℕ → Bool
passes lists s h t q = (pair_at lists q).hospital == h && t (tenant_of lists s q)

-- how many tenants the standings give a hospital that pass a test
abbrev tenants : Lists → List Standing → ℕ → (Tenant → Bool) → ℕ
tenants lists s h t = count_by (λ q. t (tenant_of lists s q)) (held_at lists s h)

tenants-count : (lists : Lists) (s : List Standing) (h : ℕ) (t : Tenant → Bool) →
    tenants lists s h t ≡ count_by (λ q. holds lists s q && passes lists s h t q) (numbers_to (pair_count lists))
tenants-count lists s h t =
    count_by-filter_and (λ q. (pair_at lists q).hospital == h) (λ q. t (tenant_of lists s q)) (held lists s)
    ∙ count_by-filter_and (holds lists s) (passes lists s h t) (numbers_to (pair_count lists))

-- ---- after a resident was taken

promoted-taken : (lists : Lists) (s : List Standing) (p q : ℕ) → (pair_at lists p).resident < length s → is_promoted lists (taken lists s p) q ≡ is_promoted lists s q
promoted-taken lists s p q l = elim (cases_eq (pair_at lists q).resident (pair_at lists p).resident) [
  | inl same ↦
      ap (λ r. (standing_of (taken lists s p) r).promoted) same ∙ ap (λ (v : Standing). v.promoted) (standing-same s (pair_at lists p).resident _ l)
      ∙ ap (λ r. (standing_of s r).promoted) (sym same)
  | inr apart ↦ ap (λ (v : Standing). v.promoted) (standing-other s _ _ _ apart)
]

-- the same tenant, but for whether it is promoted
abbrev tenant_if : Lists → ℕ → Bool → Tenant
tenant_if lists q b = record { rank = rank_by_hospital lists q; unpromoted = not b; resident = (pair_at lists q).resident }

-- rows that another tenant was added to
row-added : (old new : List (List Tenant)) (h k : ℕ) (x : Tenant) (t : Tenant → Bool) (b : Bool) → Adds old new h x → (h ≡ k → b ≡ t x) → ((h ≡ k → ⊥) → b ≡ false) →
    count_by t (row new k) ≡ count_by t (row old k) + one_if b
row-added old new h k x t b a here apart = elim (cases_eq h k) [
  | inl same ↦
      let more : count_by t (row new k) ≡ count_by t (x ∷ row old k) =
      subst (λ (i : ℕ). count_by t (row new i) ≡ count_by t (x ∷ row old i)) same (a.there t) in
      omega (arith, sum_by-cons (λ y. one_if (t y)) x (row old k), ap one_if (here same))
  | inr other ↦ omega (arith, ap (count_by t) (a.elsewhere k (λ e. other (sym e))), ap one_if (apart other))
]

-- the tenant of p is among those of hospital k
at_hospital : (lists : Lists) (s : List Standing) (k p : ℕ) (t : Tenant → Bool) → (pair_at lists p).hospital ≡ k → passes lists s k t p ≡ t (tenant_of lists s p)
at_hospital lists s k p t e = ap (λ b. b && t (tenant_of lists s p)) (eq-eqb _ _ e)

not_at : (lists : Lists) (s : List Standing) (k p : ℕ) (t : Tenant → Bool) → ((pair_at lists p).hospital ≡ k → ⊥) → passes lists s k t p ≡ false
not_at lists s k p t e = ap (λ b. b && t (tenant_of lists s p)) (ne_eqb _ _ e)

pub kept-taken : (lists : Lists) (s : List Standing) (old new : List (List Tenant)) (p : ℕ) → IsKept lists s old → IsPairNo lists p → (pair_at lists p).resident < length s →
    (standing_of s (pair_at lists p).resident).assigned ≡ false → Adds old new (pair_at lists p).hospital (tenant_of lists s p) → IsKept lists (taken lists s p) new
kept-taken lists s old new p kept n l free a = record {
  residents = length-taken lists s p ∙ kept.residents;
  hospitals = a.same_length ∙ kept.hospitals;
  tenants = λ k t.
      let none : holds lists s p ≡ false = ap (λ b. b && (standing_of s (pair_at lists p).resident).last == p) free in
      let more = held-more lists s (taken lists s p) p n none (holds-taken lists s p l free) (passes lists s k t) in
      let same : tenants lists (taken lists s p) k t ≡ count_by (λ q. holds lists (taken lists s p) q && passes lists s k t q) (numbers_to (pair_count lists)) =
      tenants-count lists (taken lists s p) k t
      ∙ sum_by_same _ _ (numbers_to (pair_count lists)) (λ q. ap (λ b. one_if (holds lists (taken lists s p) q && ((pair_at lists q).hospital == k && t (tenant_if lists q b)))) (promoted-taken lists s p q l)) in
      let before = kept.tenants k t ∙ tenants-count lists s k t in
      let rows : count_by t (row new k) ≡ count_by t (row old k) + one_if (passes lists s k t p) =
      row-added old new (pair_at lists p).hospital k (tenant_of lists s p) t (passes lists s k t p) a (at_hospital lists s k p t) (not_at lists s k p t) in
      omega arith;
}

-- ---- after a resident was turned away

-- what passes among the pairs that are still held passed before
still-passes : (lists : Lists) (s : List Standing) (p k : ℕ) (t : Tenant → Bool) (q : ℕ) → (pair_at lists p).resident < length s →
    (holds lists (turned_away lists s p) q && passes lists (turned_away lists s p) k t q) ≡ (holds lists (turned_away lists s p) q && passes lists s k t q)
still-passes lists s p k t q l = elim (cases_eq (pair_at lists q).resident (pair_at lists p).resident) [
  | inl same ↦
      let none : holds lists (turned_away lists s p) q ≡ false = holds-turned_away lists s p l q ∙ and_not (holds lists s q) _ (eq-eqb _ _ same) in
      and_left _ _ none ∙ sym (and_left _ _ none)
  | inr apart ↦
      ap (λ b. holds lists (turned_away lists s p) q && ((pair_at lists q).hospital == k && t (tenant_if lists q b))) (ap (λ (v : Standing). v.promoted) (standing-other s _ _ _ apart))
]
  where
    and_not : (a b : Bool) → b ≡ true → (a && not b) ≡ false
    and_not true b e = ap not e
    and_not false b e = refl

tenants-still : (lists : Lists) (s : List Standing) (p k : ℕ) (t : Tenant → Bool) → (pair_at lists p).resident < length s →
    tenants lists (turned_away lists s p) k t ≡ count_by (λ q. holds lists (turned_away lists s p) q && passes lists s k t q) (numbers_to (pair_count lists))
tenants-still lists s p k t l =
    tenants-count lists (turned_away lists s p) k t ∙ sum_by_same _ _ (numbers_to (pair_count lists)) (λ q. ap one_if (still-passes lists s p k t q l))

pub kept-put_out : (lists : Lists) (s : List Standing) (old new : List (List Tenant)) (w : ℕ) → IsKept lists s old → IsPairNo lists w → (pair_at lists w).resident < length s →
    holds lists s w ≡ true → Adds new old (pair_at lists w).hospital (tenant_of lists s w) → IsKept lists (turned_away lists s w) new
kept-put_out lists s old new w kept n l h a = record {
  residents = length-turned_away lists s w ∙ kept.residents;
  hospitals = sym a.same_length ∙ kept.hospitals;
  tenants = λ k t.
      let more = held-more lists (turned_away lists s w) s w n (put_out-holds lists s w l) (holds-put_out lists s w l h) (passes lists s k t) in
      let now = tenants-still lists s w k t l in
      let before = kept.tenants k t ∙ tenants-count lists s k t in
      let rows : count_by t (row old k) ≡ count_by t (row new k) + one_if (passes lists s k t w) =
      row-added new old (pair_at lists w).hospital k (tenant_of lists s w) t (passes lists s k t w) a (at_hospital lists s k w t) (not_at lists s k w t) in
      omega arith;
}

kept_all : (a b : Bool) → (b ≡ true → a ≡ false) → (a && not b) ≡ a
kept_all true true h = absurd (true≢false (h refl))
kept_all true false h = refl
kept_all false b h = refl

pub kept-refused : (lists : Lists) (s : List Standing) (rows : List (List Tenant)) (p : ℕ) → IsKept lists s rows → (pair_at lists p).resident < length s →
    (standing_of s (pair_at lists p).resident).assigned ≡ false → IsKept lists (turned_away lists s p) rows
kept-refused lists s rows p kept l free = record {
  residents = length-turned_away lists s p ∙ kept.residents;
  hospitals = kept.hospitals;
  tenants = λ k t.
      let same : (q : ℕ) → holds lists (turned_away lists s p) q ≡ holds lists s q = λ q.
      holds-turned_away lists s p l q
      ∙ kept_all _ _ (λ e. ap (λ b. b && (standing_of s (pair_at lists q).resident).last == q) (ap (λ r. (standing_of s r).assigned) (eqb-true _ _ e) ∙ free)) in
      kept.tenants k t ∙ tenants-count lists s k t
      ∙ sum_by_same _ _ (numbers_to (pair_count lists)) (λ q. ap (λ b. one_if (b && passes lists s k t q)) (sym (same q)))
      ∙ sym (tenants-still lists s p k t l);
}

-- ---- the start

pub kept-start : (lists : Lists) (rows : List (List Tenant)) → length rows ≡ length lists.hospitals → ((h : ℕ) → row rows h ≡ []) → IsKept lists (start lists) rows
kept-start lists rows l empty = record {
  residents = length-replicate (length lists.residents) at_top;
  hospitals = l;
  tenants = λ k t.
      let none : count_by (λ q. holds lists (start lists) q && passes lists (start lists) k t q) (numbers_to (pair_count lists)) ≤ 0 * length (numbers_to (pair_count lists)) =
      sum_within _ 0 (numbers_to (pair_count lists)) (λ q. omega (arith, ap one_if (and_left _ (passes lists (start lists) k t q) (nothing-held lists q)))) in
      let now = tenants-count lists (start lists) k t in
      let rows_none : count_by t (row rows k) ≡ 0 = ap (count_by t) (empty k) in
      omega arith;
}
