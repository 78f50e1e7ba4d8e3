-- How many residents are drawn.
use Rattle.std.proofs.Common.{◌≡◌, ℕ, zero, suc, [], ◌∷◌, length, length-append, refl, arith}
use Rattle.rand_pcg.specs.Lcg.{Lcg}
use Rattle.instance_gen.specs.declared.recipe.Recipe.{Recipe}
use Rattle.instance_gen.specs.Drafts.{resident, resident_list, residents_drawn}

pub length_drawn : (r : Recipe) (n : ℕ) (g : Lcg) → length (residents_drawn r n g).value ≡ n
length_drawn r zero g = refl
length_drawn r (suc n) g =
    let before = residents_drawn r n g in
    let rest : length before.value ≡ n = length_drawn r n g in
    omega (arith, length-append before.value (resident n (resident_list r before.rest).value ∷ []), rest)
