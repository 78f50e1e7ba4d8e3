use Rattle.hrt_base.proofs.Numerals.{read_back, shortest}
use Rattle.hrt_base.proofs.number.write_number.Goals as goal

pub returns-clause-read_back : goal.returns-clause-read_back
returns-clause-read_back g c = read_back c.args.n c.ranges.n.sfits

pub returns-clause-shortest : goal.returns-clause-shortest
returns-clause-shortest g c = shortest c.args.n
