-- Whether a pair blocks, by what its resident and its hospital want.
use Rattle.std.proofs.Common.{◌≡◌, ℕ, Bool, true, false, not, ◌&&◌, nat_le, sym, ap, ap₂, ◌∙◌}
use Rattle.std.proofs.lemmas.Bool.{and_from, le-leb}
use Rattle.rank_tables.specs.Numbers.{is_in, numbers_to}
use Rattle.rank_tables.specs.Instance.{Lists, pair_count}
use Rattle.rank_tables.specs.Stability.{blocks, hospital_wants, resident_wants}
use Rattle.rank_tables.specs.Tables.{IsPairNo}
use Rattle.rank_tables.proofs.Numbers.{is_in-filter, is_in-numbers_to}
use Rattle.stability_model.specs.Model.{pairs_of_point}

pub taken_in : (lists : Lists) (taken : ℕ → Bool) (p : ℕ) → IsPairNo lists p → is_in p (pairs_of_point lists taken) ≡ taken p
taken_in lists taken p number =
    is_in-filter taken p (numbers_to (pair_count lists))
    ∙ ap (λ (b : Bool). b && taken p) (is_in-numbers_to (pair_count lists) p ∙ and_from (nat_le 1 p) (nat_le p (pair_count lists)) (le-leb 1 p number.0) (le-leb p (pair_count lists) number.1))

-- a taken pair doesn't block
pub taken_apart : (lists : Lists) (taken : ℕ → Bool) (p : ℕ) → IsPairNo lists p → taken p ≡ true → false ≡ blocks lists (pairs_of_point lists taken) p
taken_apart lists taken p number e =
    ap (λ (b : Bool). (not b && resident_wants lists (pairs_of_point lists taken) p) && hospital_wants lists (pairs_of_point lists taken) p) (sym (taken_in lists taken p number ∙ e))

-- any other does where both want it
pub other_asked : (lists : Lists) (taken : ℕ → Bool) (p : ℕ) (r h : Bool) → IsPairNo lists p → taken p ≡ false → r ≡ resident_wants lists (pairs_of_point lists taken) p → h ≡ hospital_wants lists (pairs_of_point lists taken) p → (r && h) ≡ blocks lists (pairs_of_point lists taken) p
other_asked lists taken p r h number e f g =
    ap₂ ◌&&◌ f g ∙ ap (λ (b : Bool). (not b && resident_wants lists (pairs_of_point lists taken) p) && hospital_wants lists (pairs_of_point lists taken) p) (sym (taken_in lists taken p number ∙ e))
