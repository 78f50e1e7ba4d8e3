use Rattle.std.proofs.Common.{◌≡◌, map, pos, neg_ℤ}
use Rattle.rank_tables.specs.Numbers.{numbers_to}
use Rattle.stability_model.specs.Model.{term}
use Rattle.stability_model.proofs.terms.objective_terms.Given as goal

abbrev pub invariant-loop-k : goal.invariant-loop-k
invariant-loop-k l = l.terms.items ≡ map (λ p. term (neg_ℤ (pos 1)) p) (numbers_to l.k)
