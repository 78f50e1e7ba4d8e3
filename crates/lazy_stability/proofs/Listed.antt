-- The pairs of the true variables are listed, rising.
use Rattle.std.proofs.Common.{◌≡◌, ◌≤◌, ◌+◌, ◌-◌, ℕ, Bool, true, false, filter, List, [], ◌∷◌, ◌++◌, sym, ap, ◌∙◌, subst}
use Rattle.std.specs.List.{All}
use Rattle.std.specs.List.Sorted.{IsStrictlyIncreasing}
use Rattle.std.proofs.lemmas.List.{map-append}
use Rattle.std.proofs.lemmas.List.Elements.{All-push}
use Rattle.hrt_base.specs.declared.numbered.PairNo.{PairNo}
use Rattle.rank_tables.specs.Instance.{Lists}
use Rattle.rank_tables.specs.Numbers.{numbers_to}
use Rattle.rank_tables.specs.Tables.{IsPairNo, numbers_of}
use Rattle.rank_tables.proofs.Below.{rising-chosen}
use Rattle.lazy_stability.proofs.Written.{fails, passes}

-- the pairs below p whose test passes
abbrev pub AreListed : Lists → (ℕ → Bool) → ℕ → List PairNo → Type 0
AreListed lists test p pairs = (numbers_of pairs ≡ filter test (numbers_to (p - 1))) × All (λ (q : PairNo). IsPairNo lists q.0) pairs

pub listed_next : (lists : Lists) (test : ℕ → Bool) (p : ℕ) (pairs more : List PairNo) → IsPairNo lists p → test p ≡ true → more ≡ pairs ++ record { 0 = p } ∷ [] → AreListed lists test p pairs → AreListed lists test (p + 1) more
listed_next lists test p pairs more is yes_ made h =
    subst (AreListed lists test (p + 1)) (sym made) (
      map-append (λ (q : PairNo). q.0) pairs (record { 0 = p } ∷ []) ∙ ap (λ (ns : List ℕ). ns ++ p ∷ []) h.0 ∙ sym (passes test p is.0 yes_),
      All-push (λ (q : PairNo). IsPairNo lists q.0) pairs (record { 0 = p }) h.1 is,
    )

pub listed_same : (lists : Lists) (test : ℕ → Bool) (p : ℕ) (pairs : List PairNo) → 1 ≤ p → test p ≡ false → AreListed lists test p pairs → AreListed lists test (p + 1) pairs
listed_same lists test p pairs first no_ h = (h.0 ∙ sym (fails test p first no_), h.1)

pub listed_rising : (test : ℕ → Bool) (n : ℕ) (numbers : List ℕ) → numbers ≡ filter test (numbers_to n) → IsStrictlyIncreasing numbers
listed_rising test n numbers e = subst IsStrictlyIncreasing (sym e) (rising-chosen test n)
