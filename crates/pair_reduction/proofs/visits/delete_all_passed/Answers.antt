use Rattle.std.proofs.Common.{◌≡◌, ℕ, true, ap, refl, sym, ◌∙◌, subst, arith}
use Rattle.rank_tables.specs.Instance.{Lists}
use Rattle.pair_reduction.specs.Flags.{is_waiting}
use Rattle.pair_reduction.specs.Known.{ArePassed, waiting_on}
use Rattle.pair_reduction.specs.Served.{IsFirst}
use Rattle.pair_reduction.specs.Sides.{list_of, pairs_on}
use Rattle.pair_reduction.proofs.GoingOn.{goes_further}
use Rattle.pair_reduction.proofs.Offering.{by_none, by_then}
use Rattle.pair_reduction.proofs.Serving.{first_of, none_of, own_first}
use Rattle.pair_reduction.proofs.Visiting.{marked_now}
use Rattle.pair_reduction.proofs.visits.delete_all_passed.Goals as goal

pub returns-in_default-clause-passed : goal.returns-in_default-clause-passed
returns-in_default-clause-passed c = none_of c.args.side c.instance-inst.result.now c.args.model.now c.args.known.now c.args.n c.first_due.result c.instance-inst.ensures c.in_default.is c.first_due.ensures

pub serve-requires-clause-p : goal.serve-requires-clause-p
serve-requires-clause-p c =
    let first : IsFirst c.args.side c.args.model.now c.args.known.now c.args.n (pairs_on c.args.side c.args.model.now c.args.n) c.in-Some.first.0 =
    first_of c.args.side c.instance-inst.result.now c.args.model.now c.args.known.now c.args.n c.first_due.result c.in-Some.first c.instance-inst.ensures c.in-Some.is c.first_due.ensures in
    first.due.number

pub serve-requires-clause-rule : goal.serve-requires-clause-rule
serve-requires-clause-rule c =
    let first : IsFirst c.args.side c.args.model.now c.args.known.now c.args.n (pairs_on c.args.side c.args.model.now c.args.n) c.in-Some.first.0 =
    first_of c.args.side c.instance-inst.result.now c.args.model.now c.args.known.now c.args.n c.first_due.result c.in-Some.first c.instance-inst.ensures c.in-Some.is c.first_due.ensures in
    first.due.passed

pub serve-requires-clause-next : goal.serve-requires-clause-next
serve-requires-clause-next c = omega (arith, c.requires.room)

pub delete_each_passed-requires-clause-can : goal.delete_each_passed-requires-clause-can
delete_each_passed-requires-clause-can c = c.in_ok-serve.ensures.reduces.reduces.can

pub delete_each_passed-requires-clause-first : goal.delete_each_passed-requires-clause-first
delete_each_passed-requires-clause-first c = own_first c.args.side c.args.model.now c.args.known.now c.args.n c.in-Some.first.0 (first_of c.args.side c.instance-inst.result.now c.args.model.now c.args.known.now c.args.n c.first_due.result c.in-Some.first c.instance-inst.ensures c.in-Some.is c.first_due.ensures)

pub delete_each_passed-requires-clause-ranks : goal.delete_each_passed-requires-clause-ranks
delete_each_passed-requires-clause-ranks c =
    let first : IsFirst c.args.side c.args.model.now c.args.known.now c.args.n (pairs_on c.args.side c.args.model.now c.args.n) c.in-Some.first.0 =
    first_of c.args.side c.instance-inst.result.now c.args.model.now c.args.known.now c.args.n c.first_due.result c.in-Some.first c.instance-inst.ensures c.in-Some.is c.first_due.ensures in
    marked_now c.args.side c.instance-inst.result.now c.args.model.now c.args.known.now c.args.known.now c.other.result c.marks.result.now c.args.n c.in-Some.first.0 c.in_ok-ranks.ranks.items c.deref-2.result.now c.instance-inst.ensures c.other.ensures c.marks.ensures (λ s. refl)
    (ap (λ (l : Lists). list_of c.args.side l c.in-Some.first.0) c.instance-inst.ensures ∙ first.due.list) c.deref-2.ensures.value c.in_ok-ranks.ensures

pub delete_each_passed-requires-clause-visited : goal.delete_each_passed-requires-clause-visited
delete_each_passed-requires-clause-visited c =
    let first : IsFirst c.args.side c.args.model.now c.args.known.now c.args.n (pairs_on c.args.side c.args.model.now c.args.n) c.in-Some.first.0 =
    first_of c.args.side c.instance-inst.result.now c.args.model.now c.args.known.now c.args.n c.first_due.result c.in-Some.first c.instance-inst.ensures c.in-Some.is c.first_due.ensures in
    subst (λ (k : ℕ). is_waiting (waiting_on c.args.side c.args.known.now) k ≡ true) (sym first.due.list) c.requires.waits

pub delete_each_passed-requires-clause-room : goal.delete_each_passed-requires-clause-room
delete_each_passed-requires-clause-room c = omega (arith, c.requires.room, c.in_ok-serve.ensures.next)

pub returns-in_default-clause-reduces : goal.returns-in_default-clause-reduces
returns-in_default-clause-reduces c = by_none c.args.model.now c.args.deriv.now c.args.known.now.gone c.args.offers.now c.requires.can c.requires.offers

pub returns-in_err-delete_each_passed-clause-goes_on : goal.returns-in_err-delete_each_passed-clause-goes_on
returns-in_err-delete_each_passed-clause-goes_on c = goes_further c.args.deriv.now c.serve.new.deriv c.delete_each_passed.new.deriv c.in_ok-serve.ensures.goes_on c.in_err-delete_each_passed.ensures.goes_on

pub returns-in_err-delete_each_passed-clause-few : goal.returns-in_err-delete_each_passed-clause-few
returns-in_err-delete_each_passed-clause-few c = omega (arith, c.in_ok-serve.ensures.next, c.in_err-delete_each_passed.ensures.few)

pub returns-clause-goes_on : goal.returns-clause-goes_on
returns-clause-goes_on c = goes_further c.args.deriv.now c.serve.new.deriv c.delete_each_passed.new.deriv c.in_ok-serve.ensures.goes_on c.in_ok-delete_each_passed.ensures.goes_on

pub returns-clause-reduces : goal.returns-clause-reduces
returns-clause-reduces c =
    by_then c.args.model.now c.args.deriv.now c.serve.new.deriv c.delete_each_passed.new.deriv c.args.known.now.gone c.args.known.now.gone c.delete_each_passed.new.known.gone c.args.offers.now c.serve.new.offers c.in_ok-serve.ensures.reduces
    c.in_ok-delete_each_passed.ensures.reduces

pub returns-clause-passed : goal.returns-clause-passed
returns-clause-passed c =
    let first : IsFirst c.args.side c.args.model.now c.args.known.now c.args.n (pairs_on c.args.side c.args.model.now c.args.n) c.in-Some.first.0 =
    first_of c.args.side c.instance-inst.result.now c.args.model.now c.args.known.now c.args.n c.first_due.result c.in-Some.first c.instance-inst.ensures c.in-Some.is c.first_due.ensures in
    subst (ArePassed c.args.side c.args.model.now c.delete_each_passed.new.known) first.due.list c.in_ok-delete_each_passed.ensures.passed

pub returns-clause-few : goal.returns-clause-few
returns-clause-few c = omega (arith, c.in_ok-serve.ensures.next, c.in_ok-delete_each_passed.ensures.few)
