use Rattle.std.proofs.Common.{◌≡◌, true, subst, Option, ℤ}
use Rattle.proof_lines.specs.Spelling.{is_small_bound}
use Rattle.proof_checker.proofs.Sizes.{small-passed}
use Rattle.proof_checker.proofs.claims.shows_bound.Goals as goal

pub returns-in-Some-clause-shown : goal.returns-in-Some-clause-shown
returns-in-Some-clause-shown c =
    let small = small-passed c.in-Some.lower (subst (λ (o : Option ℤ). is_small_bound o ≡ true) c.in-Some.is c.requires.small) in
    rw c.in-Some.is (rw small at c.shows_lower.ensures.shown)
