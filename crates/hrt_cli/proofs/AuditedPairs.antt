-- What the command that audits pairs comes to.
use Rattle.std.proofs.Common.{◌≡◌, ◌↔◌, ◌<◌, ◌==◌, ◌||◌, ◌&&◌, ℕ, Bool, true, false, cond, nat_le, List, [], ◌∷◌, length, All, Option, Some, None, IsTrue, refl, sym, ◌∙◌, eq-eqb}
use Rattle.std.specs.List.{find}
use Rattle.std.proofs.lemmas.Bool.{and_from, and_parts, leb-true, le-leb, ltb-true, or_left, or_right}
use Rattle.std.proofs.lemmas.List.Elements.{All-weaker}
use Rattle.std.proofs.lemmas.List.Folds.{list_all-map}
use Rattle.std.proofs.lemmas.List.Sums.{list_all-from_AllPass}
use Rattle.hrt_base.specs.declared.numbered.PairNo.{PairNo}
use Rattle.rank_tables.specs.Numbers.{below, is_distinct, is_in, numbers_to}
use Rattle.rank_tables.specs.Instance.{Lists, pair_count}
use Rattle.rank_tables.specs.Tables.{IsPairNo, numbers_of}
use Rattle.rank_tables.proofs.Numbers.{is_in-below, is_in-numbers_to}
use Rattle.stability_audit.specs.declared.verdict.Verdict.{Verdict as Audit}
use Rattle.stability_audit.specs.declared.verdict.Verdict.TheVariants.{Stable, ResidentTwice, OverCapacity, Blocked}
use Rattle.stability_audit.specs.Verdict.{ArePairs, blocking_pair, first_reason, hospital_over, resident_twice, verdict_of as audit_of}
use Rattle.hrt_cli.specs.declared.status.Status.TheVariants.{Done, AuditNo}
use Rattle.hrt_cli.specs.Reports.{NamesDeclared}
use Rattle.hrt_cli.specs.Requests.{audit}
use Rattle.hrt_cli.specs.Statuses.{audit_status, code_of, is_told_of}

-- ---- whom an audit names

some_number : (x y : ℕ) → Some x ≡ Some y → x ≡ y
some_number x y e = cc

found_in : (t : ℕ → Bool) (x : ℕ) (xs : List ℕ) → find t xs ≡ Some x → is_in x xs ≡ true
found_in t x [] e = absurd (cc)
found_in t x (y ∷ ys) e = by (t y) e (found_in t x ys)
  where
    by : (b : Bool) → cond b (Some y) (find t ys) ≡ Some x → (find t ys ≡ Some x → is_in x ys ≡ true) → (y == x || is_in x ys) ≡ true
    by true h rec = or_left (y == x) (is_in x ys) (eq-eqb y x (some_number y x h))
    by false h rec = or_right (y == x) (is_in x ys) (rec h)

found_below : (t : ℕ → Bool) (n x : ℕ) → find t (below n) ≡ Some x → x < n
found_below t n x e = ltb-true x n (sym (is_in-below n x) ∙ found_in t x (below n) e)

found_to : (t : ℕ → Bool) (lists : Lists) (x : ℕ) → find t (numbers_to (pair_count lists)) ≡ Some x → IsPairNo lists x
found_to t lists x e =
    let parts = and_parts (nat_le 1 x) (nat_le x (pair_count lists)) (sym (is_in-numbers_to (pair_count lists) x) ∙ found_in t x (numbers_to (pair_count lists)) e) in
    (leb-true 1 x parts.0, leb-true x (pair_count lists) parts.1)

named_by : (lists : Lists) (twice over blocking : Option ℕ) → ((r : ℕ) → twice ≡ Some r → r < length lists.residents) → ((h : ℕ) → over ≡ Some h → h < length lists.hospitals)
    → ((p : ℕ) → blocking ≡ Some p → IsPairNo lists p) → NamesDeclared lists (first_reason twice over blocking)
named_by lists (Some r) over blocking a b c = a r refl
named_by lists None (Some h) blocking a b c = b h refl
named_by lists None None (Some p) a b c = c p refl
named_by lists None None None a b c = tt

pub named : (lists : Lists) (m : List ℕ) → NamesDeclared lists (audit_of lists m)
named lists m = named_by lists (resident_twice lists m) (hospital_over lists m) (blocking_pair lists m)
    (λ r e. found_below _ (length lists.residents) r e) (λ h e. found_below _ (length lists.hospitals) h e) (λ p e. found_to _ lists p e)

-- ---- pairs that are read

pub are_pairs_of : (lists : Lists) (pairs : List PairNo) → All (λ p. IsPairNo lists p.0) pairs → IsTrue (is_distinct (numbers_of pairs)) → ArePairs lists (numbers_of pairs)
are_pairs_of lists pairs all distinct = record {
  distinct = distinct;
  in_range =
      list_all-map (λ p. nat_le 1 p && nat_le p (pair_count lists)) (λ (p : PairNo). p.0) pairs
      ∙ list_all-from_AllPass (λ (p : PairNo). nat_le 1 p.0 && nat_le p.0 (pair_count lists)) pairs
      (All-weaker (λ (p : PairNo). IsPairNo lists p.0) _ (λ (p : PairNo) h. and_from (nat_le 1 p.0) (nat_le p.0 (pair_count lists)) (le-leb 1 p.0 h.0) (le-leb p.0 (pair_count lists) h.1)) pairs all);
}

-- ---- statuses

pub audit_suits : (i q : List ℕ) (b : Bool) → IsTrue (is_told_of (Some (audit i q)) (code_of (cond b Done AuditNo)))
audit_suits i q true = refl
audit_suits i q false = refl

-- the status of what an audit says
pub audit_status_is : (verdict : Audit) (b : Bool) → (verdict ≡ Stable) ↔ IsTrue b → audit_status verdict ≡ cond b Done AuditNo
audit_status_is Stable true iff = refl
audit_status_is Stable false iff = absurd (let e : false ≡ true = iff.0 refl in cc)
audit_status_is (ResidentTwice r) true iff = absurd (let e : ResidentTwice r ≡ Stable = iff.1 refl in cc)
audit_status_is (ResidentTwice r) false iff = refl
audit_status_is (OverCapacity h) true iff = absurd (let e : OverCapacity h ≡ Stable = iff.1 refl in cc)
audit_status_is (OverCapacity h) false iff = refl
audit_status_is (Blocked p) true iff = absurd (let e : Blocked p ≡ Stable = iff.1 refl in cc)
audit_status_is (Blocked p) false iff = refl
