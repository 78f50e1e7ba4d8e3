use Rattle.std.proofs.Common.{◌≡◌}
use Rattle.rank_tables.specs.Tables.{numbers_of}
use Rattle.plain_enumeration.specs.Sets.{members}
use Rattle.plain_enumeration.proofs.members.list_members.Given as goal

-- the list has the members among the pairs tried so far
abbrev pub invariant-loop-bit : goal.invariant-loop-bit
invariant-loop-bit l = numbers_of l.list.items ≡ members l.set l.bit
