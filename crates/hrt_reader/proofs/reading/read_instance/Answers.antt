use Rattle.std.proofs.Common.{arith}
use Rattle.hrt_text.proofs.Feeds.{rows_few}
use Rattle.hrt_reader.proofs.reading.read_instance.Goals as goal

pub read_lists-requires : goal.read_lists-requires
read_lists-requires c = let feeds = c.requires in omega (arith, rows_few c.args.bytes.now)
