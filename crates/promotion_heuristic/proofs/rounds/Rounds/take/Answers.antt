use Rattle.std.proofs.Common.{◌<◌, length, subst, sym, arith}
use Rattle.rank_tables.specs.Instance.{pair_at}
use Rattle.promotion_heuristic.specs.Queues.{Adds}
use Rattle.promotion_heuristic.specs.Rounds.{IsKept, tenant_of}
use Rattle.promotion_heuristic.proofs.Keeping.{kept-taken}
use Rattle.promotion_heuristic.proofs.MadeOf.{taken-is, tenant-is}
use Rattle.promotion_heuristic.proofs.rounds.Rounds.take.Goals as goal

pub returns-clause-kept : goal.returns-clause-kept
returns-clause-kept c =
    let lists = c.args.inst.now in
    let s = c.args.self.now.standings.items in
    let p = c.args.p.0 in
    let r = c.resident_of-resident.result in
    let old = c.args.self.now.queues in
    let declared : r < length s = omega (arith, c.resident_of-resident.ensures.declared, c.requires.kept.residents) in
    let of_pair = c.resident_of-resident.ensures.value in
    let same = tenant-is lists s p r c.rank_by_hospital.result c.index.result.now of_pair c.rank_by_hospital.ensures.value declared c.index.ensures in
    let adds : Adds old c.push.new.self (pair_at lists p).hospital (tenant_of lists s p) =
    subst (λ h. Adds old c.push.new.self h (tenant_of lists s p)) c.hospital_of.ensures.value
    (subst (λ t. Adds old c.push.new.self c.hospital_of.result t) same c.in_ok-push.ensures) in
    let of_p : (pair_at lists p).resident < length s = subst (λ x. x < length s) of_pair declared in
    subst (λ t. IsKept lists t c.push.new.self) (sym (taken-is lists s p r c.index.result.now of_pair declared c.index.ensures))
    (kept-taken lists s old c.push.new.self p c.requires.kept c.requires.number of_p c.requires.unassigned adds)
