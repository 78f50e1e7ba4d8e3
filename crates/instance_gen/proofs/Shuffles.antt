-- A shuffle only moves numbers.
use Rattle.std.proofs.Common.{◌+◌, ◌-◌, ◌*◌, ◌/◌, ◌%◌, ◌<◌, ◌≤◌, ℕ, zero, suc, List, length, refl, arith}
use Rattle.std.specs.Prelude.{◌^◌, bit_xor}
use Rattle.std.specs.List.{swap}
use Rattle.std.specs.List.Sorted.{IsPermutation}
use Rattle.std.proofs.lemmas.List.Edits.{length-swap}
use Rattle.std.proofs.lemmas.List.Sorted.{IsPermutation-refl, IsPermutation-swap, IsPermutation-trans}
use Rattle.std.proofs.lemmas.Nat.{div_below, mod_below, mul-le, or_lt, pow_pos}
use Rattle.rand_pcg.specs.Lcg.{Lcg}
use Rattle.rand_pcg.specs.Pcg.{pcg32}
use Rattle.instance_gen.specs.Draws.{after_draw, drawn, shuffled}

-- a word has 32 bits
word_small : (g : Lcg) → (pcg32 g).0 < 2 ^ 32
word_small g =
    let n = bit_xor (g.state / 2 ^ 18) g.state / 2 ^ 27 % 2 ^ 32 in
    let by = g.state / 2 ^ 59 % 32 in
    let small : n < 2 ^ 32 = mod_below (bit_xor (g.state / 2 ^ 18) g.state / 2 ^ 27) (2 ^ 32) (omega arith) in
    let some : 0 < 2 ^ by = pow_pos by in
    let wide : 2 ^ 32 * 1 ≤ 2 ^ 32 * 2 ^ by = mul-le (2 ^ 32) 1 (2 ^ 32) (2 ^ by) (omega arith) some in
    or_lt 32 (n / 2 ^ by) (n * 2 ^ ((32 - by) % 32) % 2 ^ 32) (div_below n (2 ^ by) (2 ^ 32) some (omega (arith, small, wide))) (mod_below (n * 2 ^ ((32 - by) % 32)) (2 ^ 32) (omega arith))

pub drawn_below : (m : ℕ) (g : Lcg) → 0 < m → drawn m g < m
drawn_below m g h =
    let word = (pcg32 g).0 in
    let most : word * m ≤ (2 ^ 32 - 1) * m = mul-le word m (2 ^ 32 - 1) m (omega (arith, word_small g)) (omega arith) in
    div_below (word * m) (2 ^ 32) m (omega arith) (omega (arith, most, h))

pub shuffle_moves : (steps t : ℕ) (xs : List ℕ) (g : Lcg) → t + steps ≤ length xs → IsPermutation xs (shuffled steps t xs g).value
shuffle_moves zero t xs g h = IsPermutation-refl xs
shuffle_moves (suc steps) t xs g h =
    let other = t + drawn (length xs - t) g in
    let within : other < length xs = omega (arith, h, drawn_below (length xs - t) g (omega (arith, h))) in
    let next = swap xs t other in
    IsPermutation-trans xs next (shuffled steps (t + 1) next (after_draw g)).value (IsPermutation-swap xs next t other (omega (arith, h)) within refl)
    (shuffle_moves steps (t + 1) next (after_draw g) (omega (arith, h, length-swap xs t other)))
