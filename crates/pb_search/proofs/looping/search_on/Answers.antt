use Rattle.std.proofs.Common.{sym, ap, ◌∙◌, subst}
use Rattle.lazy_stability.specs.Table.{sizes_of}
use Rattle.pb_search.specs.Loop.{LeadsTo}
use Rattle.pb_search.proofs.Leading.{ends_in}
use Rattle.pb_search.proofs.looping.search_on.Goals as goal

pub loop-end-smaller : goal.loop-end-smaller
loop-end-smaller g c =
    (subst (LeadsTo c.args.limits.now c.loop-end.found.items c.step.new.found.items c.args.deriv.now c.loop-end.engine c.step.new.engine c.loop-end.deriv c.step.new.deriv) c.in-On.is (c.in_ok-end.ensures.leads c.args.deriv.now c.loop-end.invariant.is)).1

pub loop-end-preserved : goal.loop-end-preserved
loop-end-preserved g c =
    let on = (subst (LeadsTo c.args.limits.now c.loop-end.found.items c.step.new.found.items c.args.deriv.now c.loop-end.engine c.step.new.engine c.loop-end.deriv c.step.new.deriv) c.in-On.is (c.in_ok-end.ensures.leads c.args.deriv.now c.loop-end.invariant.is)).0 in
    record {
      same = c.requires.same ∙ sym on.come.goes_on.lists;
      sizes = c.step.ensures.sizes ∙ c.loop-end.invariant.sizes ∙ ap sizes_of (c.loop-end.invariant.is.come.goes_on.lists ∙ sym on.come.goes_on.lists);
      is = on;
    }

pub returns-in_default : goal.returns-in_default
returns-in_default g c =
    ends_in c.args.limits.now c.loop-end.found.items c.step.new.found.items c.args.deriv.now c.loop-end.engine c.step.new.engine c.loop-end.deriv c.step.new.deriv c.in_ok-end.end (c.in_ok-end.ensures.leads c.args.deriv.now c.loop-end.invariant.is) c.in_default.not-On
