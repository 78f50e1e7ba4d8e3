-- No pair so far passes.
use Rattle.std.proofs.Common.{◌≡◌, ◌-◌, None}
use Rattle.std.specs.List.{find}
use Rattle.rank_tables.specs.Numbers.{numbers_to}
use Rattle.stability_audit.specs.Tallies.{both_want}
use Rattle.stability_audit.proofs.tallies.Tallies.wanted_pair.Given as goal

abbrev pub invariant-loop-p : goal.invariant-loop-p
invariant-loop-p l = find (both_want l.inst l.self.residents.items l.self.hospitals.items) (numbers_to (l.p - 1)) ≡ None
