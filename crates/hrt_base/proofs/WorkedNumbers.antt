-- Texts and what they spell.
use Rattle.std.proofs.Common.{◌≡◌, pos, negsuc, [], refl}
use Rattle.std.specs.Prelude.{codes}
use Rattle.hrt_base.specs.Number.{number_text}
use Rattle.hrt_base.specs.declared.number.NumberText.TheVariants.{Number, TooBig, NotNumber}

seven : number_text (codes "7") ≡ Number (pos 7)
seven = refl

signed_zeros : number_text (codes "+007") ≡ Number (pos 7)
signed_zeros = refl

below_zero : number_text (codes "-12") ≡ Number (negsuc 11)
below_zero = refl

minus_zero : number_text (codes "-0") ≡ Number (pos 0)
minus_zero = refl

greatest : number_text (codes "1329227995784915872903807060280344576") ≡ Number (pos 1329227995784915872903807060280344576)
greatest = refl

too_big : number_text (codes "1329227995784915872903807060280344577") ≡ TooBig
too_big = refl

too_small : number_text (codes "-1329227995784915872903807060280344577") ≡ TooBig
too_small = refl

empty : number_text [] ≡ NotNumber
empty = refl

sign_alone : number_text (codes "-") ≡ NotNumber
sign_alone = refl

two_signs : number_text (codes "--1") ≡ NotNumber
two_signs = refl

blank_behind : number_text (codes "1 ") ≡ NotNumber
blank_behind = refl
