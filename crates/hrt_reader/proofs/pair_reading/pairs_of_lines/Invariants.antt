use Rattle.std.proofs.Common.{◌≡◌, ◌≤◌, All, true, length, take, drop}
use Rattle.rank_tables.specs.Numbers.{is_distinct}
use Rattle.rank_tables.specs.Tables.{IsPairNo, numbers_of}
use Rattle.hrt_text.specs.Text.{rows}
use Rattle.hrt_reader.specs.PairsText.{pairs_of_rows}
use Rattle.hrt_reader.proofs.PairKinds.{AreFine}
use Rattle.hrt_reader.proofs.pair_reading.pairs_of_lines.Given as goal

-- the first `number` lines are read; what is left is `rest`
abbrev pub invariant-loop-line : goal.invariant-loop-line
invariant-loop-line l = record {
  rest : drop l.number (rows l.text) ≡ rows l.rest;
  within : l.number ≤ length (rows l.text);
  same : l.taken.keys ≡ numbers_of l.pairs.items;
  pairs : pairs_of_rows l.instance (take l.number (rows l.text)) ≡ numbers_of l.pairs.items;
  fine : AreFine l.instance (rows l.text) l.number;
  in_range : All (λ p. IsPairNo l.instance p.0) l.pairs.items;
  distinct : is_distinct (numbers_of l.pairs.items) ≡ true;
}

abbrev pub decreases-loop-line : goal.decreases-loop-line
decreases-loop-line l = length l.rest
