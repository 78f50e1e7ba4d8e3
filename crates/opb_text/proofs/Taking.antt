-- Lists that are taken from their fronts.
use Rattle.std.proofs.Common.{◌≡◌, ◌∙◌, ℕ, ◌+◌, List, [], ◌∷◌, ◌++◌, length, take, Some, sym, ap, add-one}
use Rattle.std.specs.Prelude.{slice_get}
use Rattle.std.proofs.lemmas.Option.{get_or_from_slice_get, slice_get_within}
use Rattle.std.proofs.Math.Seq.{take-suc}

-- one more element that is known by its place
pub taken_on : {A : Type 0} (made now xs : List A) (k : ℕ) (x : A) → made ≡ take k xs → slice_get xs k ≡ Some x → now ≡ made ++ x ∷ [] → now ≡ take (k + 1) xs
taken_on {A} made now xs k x before at is =
    is ∙ ap (λ (ys : List A). ys ++ x ∷ []) before
    ∙ ap (λ (y : A). take k xs ++ y ∷ []) (sym (get_or_from_slice_get xs k x x at))
    ∙ sym (rw add-one (take-suc xs k x (slice_get_within xs k x at)))
