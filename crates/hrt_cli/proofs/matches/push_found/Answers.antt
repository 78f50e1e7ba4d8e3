use Rattle.std.proofs.Common.{All, List, arith, subst, sym}
use Rattle.std.proofs.lemmas.List.{length-map}
use Rattle.hrt_base.specs.declared.numbered.PairNo.{PairNo}
use Rattle.rank_tables.proofs.StablePairs.{stable_length, stable_numbers}
use Rattle.rank_tables.specs.Tables.{IsPairNo, numbers_of}
use Rattle.hrt_cli.proofs.matches.push_found.Goals as goal

pub push_pairs-requires : goal.push_pairs-requires
push_pairs-requires c =
    subst (λ (ps : List PairNo). All (λ (p : PairNo). IsPairNo c.args.inst.now p.0) ps) (sym c.deref.ensures.value)
    (stable_numbers c.args.inst.now c.args.end.now.pairs.items c.requires.stable)

pub overflow_cast-len : goal.overflow_cast-len
overflow_cast-len c =
    let pairs = c.args.end.now.pairs.items in
    omega (arith, c.requires.few, c.len.ensures, length-map pairs (λ (p : PairNo). p.0), stable_length c.args.inst.now (numbers_of pairs) c.requires.stable)
