use Rattle.std.proofs.Common.{◌≡◌, ◌≤◌, ap, arith, length, subst}
use Rattle.rank_tables.specs.Instance.{Lists}
use Rattle.hrt_solve.specs.declared.starting.Started.{Started}
use Rattle.hrt_solve.specs.Started.{IsPromoted, IsStarted}
use Rattle.hrt_solve.proofs.FirstLogged.{promoted, started, within}
use Rattle.hrt_solve.proofs.starting.start.Goals as goal

pub overflow_cast-size : goal.overflow_cast-size
overflow_cast-size c =
    let first : IsPromoted c.instance-inst.result.now c.in_ok-pairs.pairs.items c.len-size.result = promoted c.instance-inst.result.now c.in_ok-pairs.pairs.items c.len-size.result c.in_ok-pairs.ensures.numbers c.in_ok-pairs.ensures.steps c.in_ok-pairs.ensures.rising c.in_ok-pairs.ensures.stable (omega (arith, c.len-size.ensures, c.in_ok-pairs.pairs.ok.0)) in
    let most : c.len-size.result ≤ c.in_ok-gauged.gauged.end.ceiling = within c.instance-inst.result.now c.in_ok-pairs.pairs.items c.in_ok-gauged.gauged.end.ceiling c.len-size.result c.in_ok-gauged.ensures.most first in
    omega (arith, most, c.in_ok-gauged.ensures.small)

pub returns : goal.returns
returns c =
    let lists = c.instance-inst.result.now in
    let s : Started = record { gauged = c.in_ok-gauged.gauged; pairs = c.in_ok-pairs.pairs; size = c.len-size.result; larger = c.in_ok-larger.larger } in
    let same : length c.deref.result.now ≡ c.len-size.result = omega (arith, ap length c.deref.ensures.value, c.len-size.ensures, c.in_ok-pairs.pairs.ok.0) in
    let first : IsPromoted c.instance-inst.result.now c.in_ok-pairs.pairs.items c.len-size.result = promoted c.instance-inst.result.now c.in_ok-pairs.pairs.items c.len-size.result c.in_ok-pairs.ensures.numbers c.in_ok-pairs.ensures.steps c.in_ok-pairs.ensures.rising c.in_ok-pairs.ensures.stable (omega (arith, c.len-size.ensures, c.in_ok-pairs.pairs.ok.0)) in
    subst (λ (l : Lists). IsStarted l s c.log.new.deriv) c.instance-inst.ensures
    (started lists s (length c.deref.result.now) c.gauge.new.deriv c.log.new.deriv c.in_ok-gauged.ensures.gauged c.in_ok-larger.ensures.logged c.in_ok-gauged.ensures.numbers c.in_ok-gauged.ensures.most c.in_ok-gauged.ensures.few c.in_ok-gauged.ensures.small
    c.in_ok-gauged.ensures.lawful c.in_ok-gauged.ensures.holds c.in_ok-gauged.ensures.least c.in_ok-gauged.ensures.next c.next-next.ensures.in_order same first c.in_ok-larger.ensures.larger)
