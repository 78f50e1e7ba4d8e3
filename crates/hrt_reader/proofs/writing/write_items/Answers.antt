use Rattle.std.proofs.Common.{◌<◌, ℕ, [], List, IsTrue, length, sym, ap, subst, arith, rules}
use Rattle.std.specs.List.{list_all}
use Rattle.hrt_reader.specs.Spelling.{group_text}
use Rattle.hrt_reader.specs.Written.{names_of, is_number}
use Rattle.hrt_reader.proofs.Flat.{part_failed, failed_as}
use Rattle.hrt_reader.proofs.WrittenLines.{group_at}
use Rattle.hrt_reader.proofs.writing.write_items.Goals as goal

pub write_group-requires-clause-numbers : goal.write_group-requires-clause-numbers
write_group-requires-clause-numbers g c =
    let names : List (List ℕ) = names_of c.args.side c.args.instance.now in
    let inside : c.loop-k.k < length c.args.groups.now = omega (arith, c.loop-k-test.true, c.count-k-end.ensures) in
    subst (λ (l : List ℕ). IsTrue (list_all (is_number names) l)) (sym c.group.ensures.value) (group_at names c.args.groups.now c.loop-k.k c.requires.numbers inside)

pub returns-in_err-write_group-clause-failed : goal.returns-in_err-write_group-clause-failed
returns-in_err-write_group-clause-failed g c =
    let names : List (List ℕ) = names_of c.args.side c.args.instance.now in
    let inside : c.loop-k.k < length c.args.groups.now = omega (arith, c.loop-k-test.true, c.count-k-end.ensures) in
    let is = failed_as _ _ _ _ _ _ (ap (group_text names) c.group.ensures.value) c.in_err-write_group.ensures.failed in
    let part = part_failed (group_text names) c.args.groups.now c.loop-k.k [] _ _ _ _ _ inside c.loop-k.invariant is in
    search rules
