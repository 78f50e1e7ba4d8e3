-- Groups, one after another.
use Rattle.std.proofs.Common.{◌≡◌, ◌+◌, ◌<◌, ◌++◌, ℕ, zero, suc, List, [], ◌∷◌, length, take, get_or, sym, ap, ◌∙◌, arith, append-nil, append_assoc}
use Rattle.std.specs.List.{concat}

-- the numbers of one group more
pub concat_more : (gs : List (List ℕ)) (k : ℕ) → k < length gs → concat (take (k + 1) gs) ≡ concat (take k gs) ++ get_or gs k []
concat_more [] k h = absurd (omega (arith, h))
concat_more (g ∷ gs) zero h = append-nil g
concat_more (g ∷ gs) (suc k) h =
    let e : suc k + 1 ≡ suc (k + 1) = omega arith in
    rw e (ap (λ (l : List ℕ). g ++ l) (concat_more gs k (omega arith)) ∙ sym (append_assoc g (concat (take k gs)) (get_or gs k [])))
