use Rattle.std.proofs.Common.{◌≡◌, ◌∙◌, ℕ, true, false, List, All, sym, ap, subst}
use Rattle.hrt_base.specs.declared.numbered.PairNo.{PairNo}
use Rattle.rank_tables.specs.Numbers.{is_in, is_distinct}
use Rattle.rank_tables.specs.Tables.{IsPairNo, numbers_of}
use Rattle.rank_tables.proofs.PairFacts.{pair_no-is}
use Rattle.hrt_text.proofs.Among.{not_true}
use Rattle.hrt_reader.specs.PairsAnswer.{pair_kind_there}
use Rattle.hrt_reader.proofs.PairKinds.{kind_blank, kind_other, kind_pair, not_false, distinct_more, numbers_more, range_more}
use Rattle.hrt_reader.proofs.pair_lines.take_line.Goals as goal

pub returns-in-Blank-clause-least : goal.returns-in-Blank-clause-least
returns-in-Blank-clause-least c = λ before same. sym (ap (pair_kind_there c.args.instance.now before) c.in-Blank.ensures) ∙ kind_blank c.args.instance.now before

pub returns-in-Other-clause-least : goal.returns-in-Other-clause-least
returns-in-Other-clause-least c = λ before same. sym (ap (pair_kind_there c.args.instance.now before) c.in-Other.ensures) ∙ kind_other c.args.instance.now before

pub returns-then-branch-clause-least : goal.returns-then-branch-clause-least
returns-then-branch-clause-least c = λ before same.
    let p : ℕ = c.in-Ok.pair.0 in
    let new : is_in p (numbers_of c.args.pairs.now.items) ≡ false = not_true _ (sym c.in_ok-add_pair-in-Ok.ensures.fresh ∙ c.if-branch.true) in
    sym (ap (pair_kind_there c.args.instance.now before) c.in-Pair.ensures)
    ∙ kind_pair c.args.instance.now before c.in-Pair.resident.now c.in-Pair.hospital.now p false c.in-Ok.ensures.known c.in-Ok.ensures.named (ap (is_in p) same ∙ new)

pub returns-then-branch-clause-in_range : goal.returns-then-branch-clause-in_range
returns-then-branch-clause-in_range c = λ all.
    subst (λ (l : List PairNo). All (λ q. IsPairNo c.args.instance.now q.0) l) (sym (c.in_ok-add_pair-in-Ok.ensures.added c.if-branch.true))
    (range_more c.args.instance.now c.args.pairs.now.items c.in-Ok.pair all (pair_no-is c.args.instance.now _ _ c.in-Ok.pair.0 c.in-Ok.ensures.named).0)

pub returns-then-branch-clause-distinct : goal.returns-then-branch-clause-distinct
returns-then-branch-clause-distinct c = λ distinct.
    let p : ℕ = c.in-Ok.pair.0 in
    let new : is_in p (numbers_of c.args.pairs.now.items) ≡ false = not_true _ (sym c.in_ok-add_pair-in-Ok.ensures.fresh ∙ c.if-branch.true) in
    ap (λ (l : List PairNo). is_distinct (numbers_of l)) (c.in_ok-add_pair-in-Ok.ensures.added c.if-branch.true)
    ∙ ap is_distinct (numbers_more c.args.pairs.now.items c.in-Ok.pair) ∙ distinct_more (numbers_of c.args.pairs.now.items) p distinct new

pub returns-else-branch-clause-least : goal.returns-else-branch-clause-least
returns-else-branch-clause-least c = λ before same.
    let p : ℕ = c.in-Ok.pair.0 in
    let old : is_in p (numbers_of c.args.pairs.now.items) ≡ true = not_false _ (sym c.in_ok-add_pair-in-Ok.ensures.fresh ∙ c.if-branch.false) in
    sym (ap (pair_kind_there c.args.instance.now before) c.in-Pair.ensures)
    ∙ kind_pair c.args.instance.now before c.in-Pair.resident.now c.in-Pair.hospital.now p true c.in-Ok.ensures.known c.in-Ok.ensures.named (ap (is_in p) same ∙ old)
