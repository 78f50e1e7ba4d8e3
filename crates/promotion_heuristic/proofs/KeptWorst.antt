-- The worst pair of a hospital is that of the first tenant of its row.
use Rattle.std.proofs.Common.{◌≡◌, ℕ, ◌<◌, Bool, true, false, not, ◌&&◌, ◌||◌, ◌==◌, nat_lt, List, [], length, count_by, Option, Some, None, MatchOption, refl, sym, ap, ◌∙◌, subst, arith}
use Rattle.std.proofs.lemmas.Bool.{true≢false, eqb-true, eq-eqb, and_from, and_parts, lt-ltb}
use Rattle.std.proofs.lemmas.Bool.Decides.{nat_tests}
use Rattle.std.proofs.lemmas.List.Sums.{length-filter}
use Rattle.rank_tables.specs.Numbers.{is_in}
use Rattle.rank_tables.specs.Instance.{Lists, pair_at, rank_by_hospital}
use Rattle.rank_tables.proofs.PairFacts.{pair_at-acceptable}
use Rattle.rank_tables.proofs.Numbers.{element, list_any-count}
use Rattle.promotion_heuristic.specs.declared.standing.Standing.{Standing}
use Rattle.promotion_heuristic.specs.declared.tenant.Tenant.{Tenant}
use Rattle.promotion_heuristic.specs.Promotion.{standing_of, is_promoted, held, held_at, is_worse, worst, turned_away}
use Rattle.promotion_heuristic.specs.Queues.{row, is_worse_tenant, IsFirst, Adds}
use Rattle.promotion_heuristic.specs.Rounds.{tenant_of, IsKept}
use Rattle.promotion_heuristic.proofs.Counting.{count_zero, count_all}
use Rattle.promotion_heuristic.proofs.Finding.{find-none}
use Rattle.promotion_heuristic.proofs.Standings.{held-last}
use Rattle.promotion_heuristic.proofs.Keeping.{kept-put_out}
use Rattle.promotion_heuristic.proofs.Worst.{IsWorst, held_at-parts, held_at-from, worst-is}
use Rattle.promotion_heuristic.proofs.Fair.{uses}

abbrev same_bool : Bool → Bool → Bool
same_bool true b = b
same_bool false b = not b

same_bool-itself : (b : Bool) → same_bool b b ≡ true
same_bool-itself true = refl
same_bool-itself false = refl

same_bool-true : (a b : Bool) → same_bool a b ≡ true → a ≡ b
same_bool-true true b h = sym h
same_bool-true false false h = refl
same_bool-true false true h = absurd (true≢false (sym h))

abbrev is_same : Tenant → Tenant → Bool
is_same x y = y.rank == x.rank && (same_bool y.unpromoted x.unpromoted && y.resident == x.resident)

is_same-itself : (x : Tenant) → is_same x x ≡ true
is_same-itself x = and_from _ _ (eq-eqb x.rank _ refl) (and_from _ _ (same_bool-itself x.unpromoted) (eq-eqb x.resident _ refl))

is_same-true : (x y : Tenant) → is_same x y ≡ true → y ≡ x
is_same-true x y h =
    let outer = and_parts (y.rank == x.rank) _ h in
    let inner = and_parts (same_bool y.unpromoted x.unpromoted) _ outer.1 in
    ap (λ m. record { rank = m; unpromoted = y.unpromoted; resident = y.resident }) (eqb-true _ _ outer.0)
    ∙ ap (λ b. record { rank = x.rank; unpromoted = b; resident = y.resident }) (same_bool-true _ _ inner.0)
    ∙ ap (λ r. record { rank = x.rank; unpromoted = x.unpromoted; resident = r }) (eqb-true _ _ inner.1)

abbrev lower : ℕ → Bool → ℕ → Bool → Bool
lower m a n b = nat_lt n m || (m == n && not a && b)

no_worse : (m : ℕ) (a : Bool) (r n : ℕ) (b : Bool) (s : ℕ) →
    is_worse_tenant (record { rank = m; unpromoted = not a; resident = r }) (record { rank = n; unpromoted = not b; resident = s }) ≡ false →
    (lower m a n b || (not (lower n b m a) && nat_lt s r)) ≡ false
no_worse m true r n true s h = grind (arith, nat_tests)
no_worse m true r n false s h = grind (arith, nat_tests)
no_worse m false r n true s h = grind (arith, nat_tests)
no_worse m false r n false s h = grind (arith, nat_tests)

no_worse-pair : (lists : Lists) (s : List Standing) (p q : ℕ) → is_worse_tenant (tenant_of lists s p) (tenant_of lists s q) ≡ false → is_worse lists s p q ≡ false
no_worse-pair lists s p q h =
    no_worse (rank_by_hospital lists p) (is_promoted lists s p) (pair_at lists p).resident (rank_by_hospital lists q) (is_promoted lists s q) (pair_at lists q).resident h

-- the pair of a tenant
pub record IsPairOf (lists : Lists) (s : List Standing) (h : ℕ) (x : Tenant) (w : ℕ) : Type 0 where
  pub worst_is : IsWorst lists s h w
  pub same : tenant_of lists s w ≡ x

pub first-worst : (lists : Lists) (s : List Standing) (rows : List (List Tenant)) (h : ℕ) (x : Tenant) → IsKept lists s rows → IsFirst (row rows h) x → (w : ℕ) × IsPairOf lists s h x w
first-worst lists s rows h x kept first =
    let some : 0 < count_by (λ q. is_same x (tenant_of lists s q)) (held_at lists s h) =
    subst (λ (n : ℕ). 0 < n) (kept.tenants h (is_same x)) (first.stands (is_same x) (is_same-itself x)) in
    let found : (w : ℕ) × (is_in w (held_at lists s h) ≡ true) × (is_same x (tenant_of lists s w) ≡ true) =
    element (λ q. is_same x (tenant_of lists s q)) (held_at lists s h) (list_any-count _ (held_at lists s h) ∙ lt-ltb 0 _ some) in
    let same : tenant_of lists s found.0 ≡ x = is_same-true x (tenant_of lists s found.0) found.2 in
    let none : count_by (λ q. is_worse_tenant (tenant_of lists s q) x) (held_at lists s h) ≡ 0 = sym (kept.tenants h (λ y. is_worse_tenant y x)) ∙ first.none_worse in (
      found.0,
      record {
        worst_is = record {
          held = held_at-parts lists s h found.0 found.1;
          none_worse = λ q a. no_worse-pair lists s q found.0
              (ap (is_worse_tenant (tenant_of lists s q)) same ∙ count_zero (λ q. is_worse_tenant (tenant_of lists s q) x) q (held_at lists s h) none (held_at-from lists s h q a));
        };
        same = same;
      },
    )

pub empty-none : (lists : Lists) (s : List Standing) (rows : List (List Tenant)) (h : ℕ) → IsKept lists s rows → row rows h ≡ [] → worst lists s h ≡ None
empty-none lists s rows h kept e =
    let none : count_by (λ q. true) (held_at lists s h) ≡ 0 = sym (kept.tenants h (λ y. true)) ∙ ap (count_by (λ y. true)) e in
    find-none _ (held_at lists s h) (λ x i. absurd (true≢false (count_zero (λ q. true) x (held_at lists s h) none i)))

-- as many tenants as the hospital has residents
pub row-length : (lists : Lists) (s : List Standing) (rows : List (List Tenant)) (h : ℕ) → IsKept lists s rows → length (row rows h) ≡ uses lists s h
row-length lists s rows h kept =
    sym (count_all (row rows h)) ∙ kept.tenants h (λ y. true) ∙ count_all (held_at lists s h) ∙ length-filter (λ q. (pair_at lists q).hospital == h) (held lists s)

-- the worst pair, as the first tenant's standing tells it
pub first-pair : (lists : Lists) (s : List Standing) (rows : List (List Tenant)) (h : ℕ) (x : Tenant) → IsKept lists s rows → IsFirst (row rows h) x →
    worst lists s h ≡ Some (standing_of s x.resident).last
first-pair lists s rows h x kept first =
    let w = first-worst lists s rows h x kept first in
    worst-is lists s h w.0 w.1.worst_is
    ∙ ap Some (sym (held-last lists s w.0 w.1.worst_is.held.held) ∙ ap (λ (y : Tenant). (standing_of s y.resident).last) w.1.same)

pub first-declared : (lists : Lists) (s : List Standing) (rows : List (List Tenant)) (h : ℕ) (x : Tenant) → IsKept lists s rows → IsFirst (row rows h) x → x.resident < length s
first-declared lists s rows h x kept first =
    let w = first-worst lists s rows h x kept first in
    omega (arith, kept.residents, ap (λ (y : Tenant). y.resident) w.1.same, (pair_at-acceptable lists w.0 w.1.worst_is.held.number).resident_declared)

-- after the first tenant was popped, its resident is out
pub kept-popped : (lists : Lists) (s : List Standing) (old new : List (List Tenant)) (h w : ℕ) (r : Option Tenant) → IsKept lists s old → worst lists s h ≡ Some w →
    MatchOption r (row old h ≡ []) (λ x. IsFirst (row old h) x × Adds new old h x) → IsKept lists (turned_away lists s w) new
kept-popped lists s old new h w None kept e none = absurd (cc (e, empty-none lists s old h kept none))
kept-popped lists s old new h w (Some x) kept e popped =
    let v = first-worst lists s old h x kept popped.0 in
    let same : v.0 ≡ w = some_same (sym (worst-is lists s h v.0 v.1.worst_is) ∙ e) in
    let held = v.1.worst_is.held in
    let adds : Adds new old (pair_at lists v.0).hospital (tenant_of lists s v.0) =
    subst (λ (k : ℕ). Adds new old k (tenant_of lists s v.0)) (sym held.hospital) (subst (λ (y : Tenant). Adds new old h y) (sym v.1.same) popped.1) in
    let declared : (pair_at lists v.0).resident < length s = omega (arith, kept.residents, (pair_at-acceptable lists v.0 held.number).resident_declared) in
    subst (λ (z : ℕ). IsKept lists (turned_away lists s z) new) same (kept-put_out lists s old new v.0 kept held.number declared held.held adds)
  where
    some_same : {a b : ℕ} → Some a ≡ Some b → a ≡ b
    some_same e = cc
