use Rattle.std.proofs.Common.{◌≡◌, take, false}
use Rattle.std.specs.List.{All}
use Rattle.pb_rows.specs.Closure.{among}
use Rattle.propagation.specs.Following.{Grows, IsSettledAt}
use Rattle.rup_engine.specs.Propagation.{AddsFollowing}
use Rattle.rup_engine.proofs.one_row.propagate.Given as goal

abbrev pub invariant-loop-t : goal.invariant-loop-t
invariant-loop-t l = record {
  vars : l.trail.vars ≡ l.fn.trail.vars;
  grows : Grows l.fn.trail.literals l.trail.literals;
  settled : All (IsSettledAt (among l.trail.literals) l.sum l.degree) (take l.t-index l.part);
  sound : AddsFollowing (record { terms = l._terms; degree = l.degree }) l.sum l.fn.trail.literals l.trail.literals false;
}
