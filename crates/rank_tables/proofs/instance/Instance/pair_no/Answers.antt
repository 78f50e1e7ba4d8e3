use Rattle.std.proofs.Common.{◌≡◌, ℕ, ◌+◌, ◌<◌, Bool, true, cond, ◌==◌, Some, None, is_some, length, get_or, drop, sym, ap, ◌∙◌, arith, eq-eqb}
use Rattle.std.specs.List.{find}
use Rattle.std.proofs.lemmas.List.{drop_more, drop_all}
use Rattle.hrt_base.specs.declared.numbered.PairNo.{PairNo}
use Rattle.rank_tables.specs.Instance.{pair_at, pair_no}
use Rattle.rank_tables.specs.Tables.{numbers_of}
use Rattle.rank_tables.proofs.PairFacts.{pair_no-find}
use Rattle.rank_tables.proofs.Unique.{pair_no-acceptable}
use Rattle.rank_tables.proofs.instance.Instance.pair_no.Goals as goal

pub loop-p-init : goal.loop-p-init
loop-p-init c =
    ap (find (λ p. (pair_at c.args.self.now p).hospital == c.args.h)) c.pairs_of_resident-p-items.ensures.numbers
    ∙ sym (pair_no-find c.args.self.now c.args.r c.args.h)

pub returns-clause-acceptable : goal.returns-clause-acceptable
returns-clause-acceptable c =
    let test : ℕ → Bool = λ p. (pair_at c.args.self.now p).hospital == c.args.h in
    let none : pair_no c.args.self.now c.args.r c.args.h ≡ None =
    sym c.loop-p.invariant ∙ ap (λ ps. find test (numbers_of ps)) (drop_all c.loop-p.p-index c.pairs_of_resident-p-items.result.now c.loop-p-test.false) in
    sym (sym (pair_no-acceptable c.args.self.now c.args.r c.args.h) ∙ ap is_some none)

pub returns-then-hospital_of-h-clause-acceptable : goal.returns-then-hospital_of-h-clause-acceptable
returns-then-hospital_of-h-clause-acceptable c =
    let test : ℕ → Bool = λ p. (pair_at c.args.self.now p).hospital == c.args.h in
    let items = c.pairs_of_resident-p-items.result.now in
    let i = c.loop-p.p-index in
    let at_index : PairNo = get_or items i (record { 0 = 0 }) in
    let within : i < length items = omega arith in
    let at : pair_no c.args.self.now c.args.r c.args.h ≡ find test (numbers_of (drop i items)) = sym c.loop-p.invariant in
    let rest = numbers_of (drop (i + 1) items) in
    let passes : test at_index.0 ≡ true = eq-eqb _ _ (sym c.hospital_of.ensures.value ∙ c.if-hospital_of-h.true) in
    sym (sym (pair_no-acceptable c.args.self.now c.args.r c.args.h) ∙ ap is_some (at ∙ ap (λ ps. find test (numbers_of ps)) (drop_more items i (record { 0 = 0 }) within))
    ∙ ap (λ b. is_some (cond b (Some at_index.0) (find test rest))) passes)
