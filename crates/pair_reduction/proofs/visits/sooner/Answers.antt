use Rattle.std.proofs.Common.{refl, sym, ◌∙◌, subst, arith}
use Rattle.std.proofs.lemmas.Bool.{true≢false}
use Rattle.pair_reduction.specs.Flags.{is_marked}
use Rattle.pair_reduction.specs.Known.{marks_on}
use Rattle.pair_reduction.specs.Served.{FirstOf, IsDue}
use Rattle.pair_reduction.specs.Sides.{list_of, other}
use Rattle.pair_reduction.proofs.Serving.{first_kept, first_met, first_stays, first_yields}
use Rattle.pair_reduction.proofs.Visiting.{passed_test}
use Rattle.pair_reduction.proofs.visits.sooner.Goals as goal

pub returns-then-is_gone : goal.returns-then-is_gone
returns-then-is_gone c = λ ps f. first_kept c.args.side c.args.inst.now c.args.known.now (list_of c.args.side c.args.inst.now c.args.w.0) ps c.args.w.0 c.args.first (λ due. true≢false (sym (sym c.is_gone.ensures ∙ c.if-is_gone.true) ∙ due.left)) f

pub returns-then-not-are_within : goal.returns-then-not-are_within
returns-then-not-are_within c = λ ps f.
    first_kept c.args.side c.args.inst.now c.args.known.now (list_of c.args.side c.args.inst.now c.args.w.0) ps c.args.w.0 c.args.first
    (λ due. true≢false (sym due.passed ∙ sym (passed_test c.args.side c.args.inst.now c.args.inst.now (is_marked (marks_on (other c.args.side) c.args.known.now)) c.args.w.0 c.list_of.result c.places-most.result c.rank_on-rank.result c.args.marked.now c.are_within.result refl c.requires.marked c.list_of.ensures.value c.places-most.ensures.value c.rank_on-rank.ensures.value c.rank_on-rank.ensures.some c.are_within.ensures) ∙ c.if-not-are_within.true)) f

pub returns-in_default : goal.returns-in_default
returns-in_default c = λ ps f.
    let due : IsDue c.args.side c.args.inst.now c.args.known.now (list_of c.args.side c.args.inst.now c.args.w.0) c.args.w.0 =
    record {
      number = c.requires.w;
      list = refl;
      passed = sym (passed_test c.args.side c.args.inst.now c.args.inst.now (is_marked (marks_on (other c.args.side) c.args.known.now)) c.args.w.0 c.list_of.result c.places-most.result c.rank_on-rank.result c.args.marked.now c.are_within.result refl c.requires.marked c.list_of.ensures.value c.places-most.ensures.value c.rank_on-rank.ensures.value c.rank_on-rank.ensures.some c.are_within.ensures) ∙ c.if-not-are_within.false;
      left = sym c.is_gone.ensures ∙ c.if-is_gone.false;
    } in
    first_met c.args.side c.args.inst.now c.args.known.now (list_of c.args.side c.args.inst.now c.args.w.0) ps c.args.w.0 due (subst (FirstOf c.args.side c.args.inst.now c.args.known.now (list_of c.args.side c.args.inst.now c.args.w.0) ps) c.in_default.is f)

pub returns-then-rank_on-rank : goal.returns-then-rank_on-rank
returns-then-rank_on-rank c = λ ps f.
    first_stays c.args.side c.args.inst.now c.args.known.now (list_of c.args.side c.args.inst.now c.args.w.0) ps c.args.w.0 c.in-Some.p.0 (omega (arith, c.if-rank_on-rank.true, c.rank_on.ensures.value, c.rank_on-rank.ensures.value))
    (subst (FirstOf c.args.side c.args.inst.now c.args.known.now (list_of c.args.side c.args.inst.now c.args.w.0) ps) c.in-Some.is f)

pub returns : goal.returns
returns c = λ ps f.
    let due : IsDue c.args.side c.args.inst.now c.args.known.now (list_of c.args.side c.args.inst.now c.args.w.0) c.args.w.0 =
    record {
      number = c.requires.w;
      list = refl;
      passed = sym (passed_test c.args.side c.args.inst.now c.args.inst.now (is_marked (marks_on (other c.args.side) c.args.known.now)) c.args.w.0 c.list_of.result c.places-most.result c.rank_on-rank.result c.args.marked.now c.are_within.result refl c.requires.marked c.list_of.ensures.value c.places-most.ensures.value c.rank_on-rank.ensures.value c.rank_on-rank.ensures.some c.are_within.ensures) ∙ c.if-not-are_within.false;
      left = sym c.is_gone.ensures ∙ c.if-is_gone.false;
    } in
    first_yields c.args.side c.args.inst.now c.args.known.now (list_of c.args.side c.args.inst.now c.args.w.0) ps c.args.w.0 c.in-Some.p.0 (omega (arith, c.if-rank_on-rank.false, c.rank_on.ensures.value, c.rank_on-rank.ensures.value)) due
    (subst (FirstOf c.args.side c.args.inst.now c.args.known.now (list_of c.args.side c.args.inst.now c.args.w.0) ps) c.in-Some.is f)
