-- What a push that failed left is cut away again.
use Rattle.std.proofs.Common.{◌≡◌, ℕ, List, ◌++◌, length, take, ap, ◌∙◌}
use Rattle.std.proofs.Math.Seq.{take-append_seam}
use Rattle.row_text.specs.Readings.{StaysInFront}

pub cut_back : (n : ℕ) (old new : List ℕ) → n ≡ length old → StaysInFront old new → take n new ≡ old
cut_back n old new e front = ap (λ (xs : List ℕ). take n xs) front.whole ∙ ap (λ (k : ℕ). take k (old ++ front.added)) e ∙ take-append_seam old front.added
