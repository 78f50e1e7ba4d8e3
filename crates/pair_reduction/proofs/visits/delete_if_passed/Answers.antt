use Rattle.std.proofs.Common.{refl, sym, ◌∙◌, arith}
use Rattle.std.proofs.lemmas.Bool.{true≢false}
use Rattle.pair_reduction.specs.Flags.{is_marked}
use Rattle.pair_reduction.proofs.Reducing.{left_of, reduces_none}
use Rattle.pair_reduction.specs.Known.{marks_on}
use Rattle.pair_reduction.specs.Sides.{other}
use Rattle.pair_reduction.proofs.Visiting.{deletes_none, deletes_one, dropped, passed_test, rule_of}
use Rattle.pair_reduction.proofs.visits.delete_if_passed.Goals as goal

pub returns-then-is_gone-clause-reduces : goal.returns-then-is_gone-clause-reduces
returns-then-is_gone-clause-reduces c = reduces_none c.args.model.now c.args.deriv.now c.args.known.now.gone c.requires.can

pub returns-then-not-are_within-clause-reduces : goal.returns-then-not-are_within-clause-reduces
returns-then-not-are_within-clause-reduces c = reduces_none c.args.model.now c.args.deriv.now c.args.known.now.gone c.requires.can

pub returns-then-not-are_within-clause-tried : goal.returns-then-not-are_within-clause-tried
returns-then-not-are_within-clause-tried c =
    deletes_none c.args.side c.args.model.now c.args.known.now _ c.args.w.0 refl c.requires.kept
    (λ h. absurd (true≢false (sym h ∙ sym (passed_test c.args.side c.instance-inst.result.now c.args.model.now (is_marked (marks_on (other c.args.side) c.args.known.now)) c.args.w.0 c.list_of.result c.places-most.result c.rank_on-rank.result c.args.ranks.now c.are_within.result c.instance-inst.ensures c.requires.ranks c.list_of.ensures.value c.places-most.ensures.value c.rank_on-rank.ensures.value c.rank_on-rank.ensures.some c.are_within.ensures) ∙ c.if-not-are_within.true)))

pub delete_by_rule-requires-clause-rule : goal.delete_by_rule-requires-clause-rule
delete_by_rule-requires-clause-rule c =
    rule_of c.args.side c.args.model.now c.args.known.now c.wait.new.self c.args.w.0 c.requires.kept c.in_ok-wait.ensures.gone
    (sym (passed_test c.args.side c.instance-inst.result.now c.args.model.now (is_marked (marks_on (other c.args.side) c.args.known.now)) c.args.w.0 c.list_of.result c.places-most.result c.rank_on-rank.result c.args.ranks.now c.are_within.result c.instance-inst.ensures c.requires.ranks c.list_of.ensures.value c.places-most.ensures.value c.rank_on-rank.ensures.value c.rank_on-rank.ensures.some c.are_within.ensures) ∙ c.if-not-are_within.false)

pub delete_by_rule-requires-clause-served : goal.delete_by_rule-requires-clause-served
delete_by_rule-requires-clause-served c =
    c.requires.served (record { number = c.requires.w; list = refl; passed = sym (passed_test c.args.side c.instance-inst.result.now c.args.model.now (is_marked (marks_on (other c.args.side) c.args.known.now)) c.args.w.0 c.list_of.result c.places-most.result c.rank_on-rank.result c.args.ranks.now c.are_within.result c.instance-inst.ensures c.requires.ranks c.list_of.ensures.value c.places-most.ensures.value c.rank_on-rank.ensures.value c.rank_on-rank.ensures.some c.are_within.ensures) ∙ c.if-not-are_within.false; left = sym c.is_gone.ensures ∙ c.if-is_gone.false })

pub delete_by_rule-requires-clause-next : goal.delete_by_rule-requires-clause-next
delete_by_rule-requires-clause-next c =
    let left = left_of c.args.model.now c.args.deriv.now c.args.known.now.gone c.args.w.0 c.requires.can c.requires.w (sym c.is_gone.ensures ∙ c.if-is_gone.false) in
    omega (arith, c.requires.room, left)

pub returns-in_err-delete_by_rule-clause-few : goal.returns-in_err-delete_by_rule-clause-few
returns-in_err-delete_by_rule-clause-few c =
    let left = left_of c.args.model.now c.args.deriv.now c.args.known.now.gone c.args.w.0 c.requires.can c.requires.w (sym c.is_gone.ensures ∙ c.if-is_gone.false) in
    omega (arith, c.in_err-delete_by_rule.ensures.one, left)

pub returns-clause-few : goal.returns-clause-few
returns-clause-few c =
    let left = left_of c.args.model.now c.args.deriv.now c.args.known.now.gone c.args.w.0 c.requires.can c.requires.w (sym c.is_gone.ensures ∙ c.if-is_gone.false) in
    omega (arith, c.in_ok-delete_by_rule.ensures.one, left)

pub returns-clause-tried : goal.returns-clause-tried
returns-clause-tried c =
    deletes_one c.args.side c.args.model.now c.args.known.now _ c.args.w.0 c.requires.kept c.requires.w c.requires.visited
    (dropped c.args.side c.other-across.result c.instance-inst.result.now c.args.model.now c.args.known.now c.wait.new.self c.delete_by_rule.new.gone c.args.w.0 c.list_of-list.result c.instance-inst.ensures c.other-across.ensures c.list_of-list.ensures.value
    c.in_ok-wait.ensures c.in_ok-delete_by_rule.ensures.more)
