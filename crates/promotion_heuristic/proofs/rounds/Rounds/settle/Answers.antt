use Rattle.std.proofs.Common.{◌≡◌, Some, ap, ◌∙◌}
use Rattle.promotion_heuristic.specs.Promotion.{next_pair}
use Rattle.promotion_heuristic.proofs.Chains.{IsTurn, turn-proposal, turn-number, turn-chained, turn-reached, turn-fewer}
use Rattle.promotion_heuristic.proofs.rounds.Rounds.settle.Goals as goal

pub propose-requires-clause-number : goal.propose-requires-clause-number
propose-requires-clause-number c =
    let lists = c.args.inst.now in
    let s = c.chain.self.standings.items in
    let ahead : Some c.in-Some-pair_ahead.p.0 ≡ next_pair lists s c.in-Some.current = c.in-Some-pair_ahead.ensures ∙ ap (λ t. next_pair lists t c.in-Some.current) c.deref.ensures.value in
    let turn : IsTurn lists s c.args.r c.in-Some.current c.in-Some-pair_ahead.p.0 c.chain.named =
    record { declared = c.requires.declared; is = c.in-Some.is; chain = c.chain.invariant.chain; ahead = ahead } in
    turn-number lists s c.args.r c.in-Some.current c.in-Some-pair_ahead.p.0 c.chain.named turn

pub propose-requires-clause-proposal : goal.propose-requires-clause-proposal
propose-requires-clause-proposal c =
    let lists = c.args.inst.now in
    let s = c.chain.self.standings.items in
    let ahead : Some c.in-Some-pair_ahead.p.0 ≡ next_pair lists s c.in-Some.current = c.in-Some-pair_ahead.ensures ∙ ap (λ t. next_pair lists t c.in-Some.current) c.deref.ensures.value in
    let turn : IsTurn lists s c.args.r c.in-Some.current c.in-Some-pair_ahead.p.0 c.chain.named =
    record { declared = c.requires.declared; is = c.in-Some.is; chain = c.chain.invariant.chain; ahead = ahead } in
    turn-proposal lists s c.args.r c.in-Some.current c.in-Some-pair_ahead.p.0 c.chain.named turn

pub chain-smaller-in_ok-named-in-Some-pair_ahead : goal.chain-smaller-in_ok-named-in-Some-pair_ahead
chain-smaller-in_ok-named-in-Some-pair_ahead c =
    let lists = c.args.inst.now in
    let s = c.chain.self.standings.items in
    let ahead : Some c.in-Some-pair_ahead.p.0 ≡ next_pair lists s c.in-Some.current = c.in-Some-pair_ahead.ensures ∙ ap (λ t. next_pair lists t c.in-Some.current) c.deref.ensures.value in
    let turn : IsTurn lists s c.args.r c.in-Some.current c.in-Some-pair_ahead.p.0 c.chain.named =
    record { declared = c.requires.declared; is = c.in-Some.is; chain = c.chain.invariant.chain; ahead = ahead } in
    turn-fewer lists s c.propose.new.self.standings.items c.args.r c.in-Some.current c.in-Some-pair_ahead.p.0 c.chain.named c.in_ok-named-in-Some-pair_ahead.named turn
    c.in_ok-named-in-Some-pair_ahead.ensures.standings c.chain.invariant.reached

pub chain-preserved-in_ok-named-in-Some-pair_ahead : goal.chain-preserved-in_ok-named-in-Some-pair_ahead
chain-preserved-in_ok-named-in-Some-pair_ahead c =
    let lists = c.args.inst.now in
    let s = c.chain.self.standings.items in
    let t = c.propose.new.self.standings.items in
    let p = c.in-Some-pair_ahead.p.0 in
    let did = c.in_ok-named-in-Some-pair_ahead.ensures in
    let ahead : Some p ≡ next_pair lists s c.in-Some.current = c.in-Some-pair_ahead.ensures ∙ ap (λ t. next_pair lists t c.in-Some.current) c.deref.ensures.value in
    let turn : IsTurn lists s c.args.r c.in-Some.current p c.chain.named =
    record { declared = c.requires.declared; is = c.in-Some.is; chain = c.chain.invariant.chain; ahead = ahead } in
    record {
      kept = did.kept;
      reached = turn-reached lists s t c.args.r c.in-Some.current p c.chain.named turn did.standings c.chain.invariant.reached;
      chain = turn-chained lists s t c.args.r c.in-Some.current p c.chain.named c.in_ok-named-in-Some-pair_ahead.named turn c.chain.invariant.kept.residents did.standings did.left;
    }
