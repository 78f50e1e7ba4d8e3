use Rattle.std.proofs.Common.{ℕ, List, get_or, arith, rules}
use Rattle.hrt_reader.specs.Written.{names_of, spaced}
use Rattle.hrt_reader.proofs.Flat.{part_failed, failed_as, two_pieces}
use Rattle.hrt_reader.proofs.writing.write_spaced.Goals as goal

pub returns-in_err-write_pieces-clause-failed : goal.returns-in_err-write_pieces-clause-failed
returns-in_err-write_pieces-clause-failed g c =
    let names : List (List ℕ) = names_of c.args.side c.args.instance.now in
    let i : ℕ = c.loop-number.number-index in
    let is = failed_as _ _ _ (spaced names (get_or c.args.numbers.now i 0)) _ _ (two_pieces _ _ _ _ c.as_slice.ensures c.name_of-name.ensures) c.in_err-write_pieces.ensures.failed in
    let part = part_failed (spaced names) c.args.numbers.now i 0 _ _ _ _ _ (omega arith) c.loop-number.invariant is in
    search rules
