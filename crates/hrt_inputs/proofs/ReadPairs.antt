-- What pairs that are taken spell.
use Rattle.std.proofs.Common.{◌≡◌, ℕ, Bool, true, false, cond, nat_lt, List, length, Option, Some, None, Result, Ok, Err, refl}
use Rattle.rank_tables.specs.Instance.{Lists}
use Rattle.hrt_text.specs.Text.{rows}
use Rattle.hrt_reader.specs.PairsText.{SpellsPairs, pairs_of_rows, pairs_refusal}
use Rattle.hrt_reader.specs.Refusal.{Refusal}
use Rattle.hrt_inputs.specs.declared.limit.Limit.TheVariants.{PairsBytes}
use Rattle.hrt_inputs.specs.Limits.{most}
use Rattle.hrt_inputs.specs.Rejections.{Rejection, exceeded}
use Rattle.hrt_inputs.specs.Taken.{pairs_in, unless_pairs_refused}

abbrev taken_as : List ℕ → Result (List ℕ) Rejection
taken_as pairs = Ok pairs

pub pairs_spelled : (lists : Lists) (bytes pairs : List ℕ) → pairs_in lists bytes ≡ Ok pairs → SpellsPairs lists bytes pairs
pairs_spelled lists bytes pairs e = by (nat_lt (most PairsBytes) (length bytes)) e
  where
    unrefused : (o : Option Refusal) → pairs_refusal lists (rows bytes) ≡ o → unless_pairs_refused o (pairs_of_rows lists (rows bytes)) ≡ taken_as pairs → SpellsPairs lists bytes pairs
    unrefused None is h = record { accepted = is; says = cc }
    unrefused (Some r) is h = absurd (cc)

    by : (b : Bool) → cond {A = Result (List ℕ) Rejection} b (Err (exceeded PairsBytes)) (unless_pairs_refused (pairs_refusal lists (rows bytes)) (pairs_of_rows lists (rows bytes))) ≡ taken_as pairs
        → SpellsPairs lists bytes pairs
    by true h = absurd (cc)
    by false h = unrefused (pairs_refusal lists (rows bytes)) refl h
