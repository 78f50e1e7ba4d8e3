use Rattle.std.proofs.Common.{◌≡◌, ℕ, ◌<◌, true, replicate}
use Rattle.std.specs.List.{All}
use Rattle.rank_tables.specs.Numbers.{is_in}
use Rattle.pair_reduction.proofs.waiting.Waiting.all.Given as goal

abbrev pub invariant-loop-n : goal.invariant-loop-n
invariant-loop-n l = record {
  flags : l.flags.items ≡ replicate l.n true;
  stack : (m : ℕ) → m < l.n → is_in m l.stack.items ≡ true;
  within : All (λ m. m < l.n) l.stack.items;
}
