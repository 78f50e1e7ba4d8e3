use Rattle.std.proofs.Common.{None, Some, subst}
use Rattle.hrt_base.specs.declared.literal.Lit.{Lit}
use Rattle.pb_propagate.specs.Serving.{IsTrueFrom}
use Rattle.pb_propagate.proofs.Stands.{stands-false, stands-free, stands-true}
use Rattle.pb_propagate.proofs.standing.stand_of.Goals as goal

pub returns-in-Some : goal.returns-in-Some
returns-in-Some c = stands-true c.args.trail.now.entries c.args.lit c.in-Some.from c.in-Some.ensures.from c.in-Some.ensures.alone

pub returns-in-Some-true_level : goal.returns-in-Some-true_level
returns-in-Some-true_level c =
    stands-false c.args.trail.now.entries c.args.lit c.in-Some-true_level.from c.in-None.ensures.from
    (subst (λ (l : Lit). IsTrueFrom c.args.trail.now.entries l (Some c.in-Some-true_level.from)) c.opposite.ensures c.in-Some-true_level.ensures.from)

pub returns-in-None-true_level : goal.returns-in-None-true_level
returns-in-None-true_level c =
    stands-free c.args.trail.now.entries c.args.lit c.in-None.ensures.from (subst (λ (l : Lit). IsTrueFrom c.args.trail.now.entries l None) c.opposite.ensures c.in-None-true_level.ensures.from)
