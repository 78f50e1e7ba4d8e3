use Rattle.std.proofs.Common.{◌≡◌}
use Rattle.rank_tables.specs.Numbers.{below}
use Rattle.instance_gen.specs.Drafts.{residents_drawn}
use Rattle.instance_gen.proofs.drawing.draw_residents.Given as goal

abbrev pub invariant-loop-before : goal.invariant-loop-before
invariant-loop-before l = record {
  numbers : l.numbers.items ≡ below l.recipe.hospitals;
  value : l.residents.items ≡ (residents_drawn l.recipe l.before l.fn.words).value;
  rest : l.words ≡ (residents_drawn l.recipe l.before l.fn.words).rest;
}
