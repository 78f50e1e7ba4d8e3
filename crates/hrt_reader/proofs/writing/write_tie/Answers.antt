use Rattle.std.proofs.Common.{◌++◌, ℕ, List, rules}
use Rattle.std.specs.Prelude.{flat_map, codes}
use Rattle.std.proofs.lemmas.Result.{on_err_weaker}
use Rattle.hrt_reader.specs.Spelling.{name_at}
use Rattle.hrt_reader.specs.Written.{names_of, spaced}
use Rattle.hrt_base.proofs.Pieces.{part_longer}
use Rattle.hrt_reader.proofs.Flat.{failed_as, sent_as, second_failed, third_failed, two_pieces}
use Rattle.hrt_reader.proofs.writing.write_tie.Goals as goal

pub returns-in_err-write_pieces-clause-failed : goal.returns-in_err-write_pieces-clause-failed
returns-in_err-write_pieces-clause-failed g c =
    let names : List (List ℕ) = names_of c.args.side c.args.instance.now in
    let front : List ℕ = codes " (" ++ name_at names c.args.first in
    let is = failed_as _ _ _ front _ _ (two_pieces _ _ _ _ c.as_slice.ensures c.name_of-name.ensures) c.in_err-write_pieces.ensures.failed in
    let part = part_longer _ _ front (flat_map (spaced names) c.args.others.now ++ codes ")") _ _ is in
    search rules

pub returns-in_err-write_spaced-clause-failed : goal.returns-in_err-write_spaced-clause-failed
returns-in_err-write_spaced-clause-failed g c =
    let names : List (List ℕ) = names_of c.args.side c.args.instance.now in
    let front : List ℕ = codes " (" ++ name_at names c.args.first in
    let is = sent_as _ _ _ front _ _ (two_pieces _ _ _ _ c.as_slice.ensures c.name_of-name.ensures) c.in_ok-write_pieces.ensures.sent in
    let part = second_failed _ _ front _ (codes ")") _ _ _ is c.in_err-write_spaced.ensures.failed in
    search rules

pub returns-clause-failed : goal.returns-clause-failed
returns-clause-failed g c =
    let names : List (List ℕ) = names_of c.args.side c.args.instance.now in
    let front : List ℕ = codes " (" ++ name_at names c.args.first in
    let is = sent_as _ _ _ front _ _ (two_pieces _ _ _ _ c.as_slice.ensures c.name_of-name.ensures) c.in_ok-write_pieces.ensures.sent in
    on_err_weaker _ (third_failed _ _ front _ (codes ")") _ _ _ _ is c.in_ok-write_spaced.ensures.sent) c.write_all.ensures.failed
