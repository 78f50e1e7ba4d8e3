use Rattle.std.proofs.Common.{◌≡◌, map, take, slice_index, nat_lt}
use Rattle.std.specs.List.{filter}
use Rattle.rank_tables.specs.Tables.{numbers_of}
use Rattle.rank_tables.proofs.listing.listed.Given as goal

abbrev pub invariant-loop-m : goal.invariant-loop-m
invariant-loop-m l = numbers_of l.row.items ≡ filter (nat_lt 0) (map (λ m. slice_index l.numbers m.number) (take l.m-index l.list))
