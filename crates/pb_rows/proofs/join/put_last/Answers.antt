use Rattle.std.proofs.Common.{◌≡◌, ◌∙◌, ◌<◌, arith, ap, sym, [], ◌∷◌, ◌++◌, List}
use Rattle.std.proofs.lemmas.Result.{IfOk-weaker}
use Rattle.hrt_base.specs.declared.literal.Term.{Term}
use Rattle.pb_rows.specs.Joined.{MeetsTo, PutsTo}
use Rattle.pb_rows.proofs.Lasts.{follows_last, last_is, meets_last}
use Rattle.pb_rows.proofs.join.put_last.Goals as goal

pub meet-requires-clause-second : goal.meet-requires-clause-second
meet-requires-clause-second c =
    (last_is c.args.t.lit.var c.args.terms.now.items c.pop.new.self.items c.in-Some.u c.in-Some.ensures.items c.requires.rising c.requires.last).positive

pub meet-requires-clause-fits : goal.meet-requires-clause-fits
meet-requires-clause-fits c =
    let last = last_is c.args.t.lit.var c.args.terms.now.items c.pop.new.self.items c.in-Some.u c.in-Some.ensures.items c.requires.rising c.requires.last in
    omega (arith, last.within, c.requires.fits)

pub returns-then-u-t : goal.returns-then-u-t
returns-then-u-t c =
    let e : c.args.t.lit.var ≡ c.in-Some.u.lit.var = omega arith in
    let m = meets_last c.args.t c.in-Some.u c.args.terms.now.items c.pop.new.self.items c.in-Some.ensures.items c.requires.rising e in
    IfOk-weaker c.meet.result (MeetsTo c.args.t c.in-Some.u c.pop.new.self.items c.meet.new.terms.items) (PutsTo c.args.t c.args.terms.now.items c.meet.new.terms.items)
    (λ n h. record { terms = h.terms ∙ sym m.0; loss = h.lost ∙ sym m.1 })
    c.meet.ensures

pub returns-in_ok-push-in-Some-2 : goal.returns-in_ok-push-in-Some-2
returns-in_ok-push-in-Some-2 c =
    let last = last_is c.args.t.lit.var c.args.terms.now.items c.pop.new.self.items c.in-Some.u c.in-Some.ensures.items c.requires.rising c.requires.last in
    let less : c.in-Some.u.lit.var < c.args.t.lit.var = omega (arith, last.up_to, c.if-u-t.false) in
    let f = follows_last c.args.t c.in-Some.u c.args.terms.now.items c.pop.new.self.items c.in-Some.ensures.items c.requires.rising less in
    record {
      terms = c.in_ok-push-in-Some-2.ensures.items ∙ ap (λ (ts : List Term). ts ++ c.args.t ∷ []) (c.in_ok-push-in-Some.ensures.items ∙ sym c.in-Some.ensures.items) ∙ sym f.0;
      loss = sym f.1;
    }
