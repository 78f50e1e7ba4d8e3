use Rattle.std.proofs.Common.{◌∙◌, [], ap, arith}
use Rattle.std.proofs.lemmas.Result.{IfOk-weaker}
use Rattle.pb_rows.specs.Joined.{IsJoinOf, lost_all, put_all}
use Rattle.pb_rows.proofs.join.join_all.Goals as goal

pub join_sorted-requires-clause-sorted : goal.join_sorted-requires-clause-sorted
join_sorted-requires-clause-sorted c = rw c.deref.ensures.value c.sort.ensures.sorted

pub join_sorted-requires-clause-fits : goal.join_sorted-requires-clause-fits
join_sorted-requires-clause-fits c = rw c.deref.ensures.value (omega (arith, c.sort.ensures.sum, c.requires.fits))

pub returns : goal.returns
returns c =
    IfOk-weaker c.join_sorted.result (IsJoinOf [] c.deref.result.now) (IsJoinOf [] c.args.terms.items)
    (λ j h. record {
      terms = h.terms ∙ ap (put_all []) c.deref.ensures.value ∙ c.sort.ensures.terms;
      lost = h.lost ∙ ap (lost_all []) c.deref.ensures.value ∙ c.sort.ensures.losses;
    })
    c.join_sorted.ensures
