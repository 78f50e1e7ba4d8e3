use Rattle.std.proofs.Common.{◌≡◌, ◌∙◌, ◌++◌, ◌∷◌, [], List, arith, ap, length, length-append, length-set, subst}
use Rattle.hrt_base.specs.declared.literal.Lit.{Lit}
use Rattle.propagation.specs.Tables.{IsTable}
use Rattle.propagation.proofs.Tables.{table-pop}
use Rattle.pb_propagate.proofs.Backs.{front-less}
use Rattle.pb_propagate.proofs.trail.shorten.Goals as goal

pub loop-literals-preserved : goal.loop-literals-preserved
loop-literals-preserved c =
    let i = c.loop-literals.invariant in
    let e : c.loop-literals.literals.items ≡ c.pop.new.self.items ++ c.in-Some.lit ∷ [] = c.in-Some.ensures.items in
    record {
      table = table-pop _ _ c.in-Some.lit (subst (λ (ls : List Lit). IsTable c.loop-literals.values.items ls) e i.table);
      front = front-less _ _ _ c.in-Some.lit i.front e;
      within = omega (arith, c.loop-literals-test.true, c.len.ensures, c.loop-literals.literals.ok.0, ap length e, length-append c.pop.new.self.items (c.in-Some.lit ∷ []));
      same = length-set _ _ _ ∙ i.same;
      capacity = c.in-Some.ensures.capacity ∙ i.capacity;
    }
