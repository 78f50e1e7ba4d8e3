-- The pairs of a list, one after another.
use Rattle.std.proofs.Common.{Bool, ◌==◌, ◌≤◌, ◌≡◌, ℕ, ◌+◌, ◌<◌, true, List, [], ◌∷◌, ◌++◌, length, take, get_or, count_by, refl, ap, ◌∙◌}
use Rattle.std.proofs.lemmas.List.{take_all, take_more}
use Rattle.hrt_base.specs.declared.numbered.PairNo.{PairNo}
use Rattle.rank_tables.specs.Numbers.{is_distinct, is_in}
use Rattle.rank_tables.specs.Tables.{numbers_of}
use Rattle.rank_tables.specs.Numbers.{numbers_to}
use Rattle.rank_tables.specs.Instance.{Lists, pair_at, pair_count, rising_pairs_of_hospital}
use Rattle.rank_tables.proofs.Numbers.{distinct-filter, distinct-numbers_to}
use Rattle.stability_model.proofs.Counts.{count_alike}

pair_push : (ps : List PairNo) (p : PairNo) → numbers_of (ps ++ p ∷ []) ≡ numbers_of ps ++ p.0 ∷ []
pair_push [] p = refl
pair_push (x ∷ ps) p = ap (λ (ns : List ℕ). x.0 ∷ ns) (pair_push ps p)

pub next_number : (ps : List PairNo) (i : ℕ) (d : PairNo) → i < length ps → numbers_of (take (i + 1) ps) ≡ numbers_of (take i ps) ++ (get_or ps i d).0 ∷ []
next_number ps i d h = ap numbers_of (take_more ps i d h) ∙ pair_push (take i ps) (get_or ps i d)

-- a count over a hospital's pairs as listed
pub listed_count : (lists : Lists) (h k : ℕ) (t : ℕ → Bool) (ps : List PairNo) (i : ℕ) → h ≡ k → length ps ≤ i → is_distinct (numbers_of ps) ≡ true → ((p : ℕ) → is_in p (numbers_of ps) ≡ is_in p (rising_pairs_of_hospital lists h)) →
    count_by t (numbers_of (take i ps)) ≡ count_by t (rising_pairs_of_hospital lists k)
listed_count lists h k t ps i same all d alike =
    ap (λ (qs : List PairNo). count_by t (numbers_of qs)) (take_all i ps all)
    ∙ count_alike t (numbers_of ps) (rising_pairs_of_hospital lists h) d (distinct-filter (λ p. (pair_at lists p).hospital == h) (numbers_to (pair_count lists)) (distinct-numbers_to (pair_count lists))) alike
    ∙ ap (λ (j : ℕ). count_by t (rising_pairs_of_hospital lists j)) same
