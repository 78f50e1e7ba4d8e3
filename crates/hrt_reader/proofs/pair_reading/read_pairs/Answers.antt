use Rattle.std.proofs.Common.{arith}
use Rattle.hrt_text.proofs.Feeds.{rows_few}
use Rattle.hrt_reader.proofs.pair_reading.read_pairs.Goals as goal

pub pairs_of_lines-requires-clause-short : goal.pairs_of_lines-requires-clause-short
pairs_of_lines-requires-clause-short c = let feeds = c.requires in omega (arith, rows_few c.args.bytes.now)
