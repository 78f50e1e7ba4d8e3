-- The greatest variable of terms.
use Rattle.std.proofs.Common.{◌≡◌, ◌∙◌, ℕ, ◌+◌, ◌<◌, max, List, [], ◌∷◌, ◌++◌, length, take, get_or, ap, arith}
use Rattle.std.proofs.lemmas.List.{take_more}
use Rattle.hrt_base.specs.declared.literal.Term.{Term}
use Rattle.opb_text.specs.Statements.{greatest_variable}

pub greatest-append : (ts us : List Term) → greatest_variable (ts ++ us) ≡ max (greatest_variable ts) (greatest_variable us)
greatest-append [] us = omega arith
greatest-append (t ∷ ts) us = omega (arith, greatest-append ts us)

pub greatest_more : (ts : List Term) (i : ℕ) (d : Term) → i < length ts → greatest_variable (take (i + 1) ts) ≡ max (get_or ts i d).lit.var (greatest_variable (take i ts))
greatest_more ts i d h =
    let more : greatest_variable (take (i + 1) ts) ≡ max (greatest_variable (take i ts)) (greatest_variable (get_or ts i d ∷ [])) =
    ap greatest_variable (take_more ts i d h) ∙ greatest-append (take i ts) (get_or ts i d ∷ []) in
    omega (arith, more)
