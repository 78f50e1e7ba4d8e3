use Rattle.std.proofs.Common.{◌≡◌, ◌++◌, take}
use Rattle.std.specs.Prelude.{flat_map}
use Rattle.row_text.specs.Rows.{term_text}
use Rattle.row_text.proofs.writing.push_terms.Given as goal

abbrev pub invariant-loop-term : goal.invariant-loop-term
invariant-loop-term l = l.out.items ≡ l.initial.out.items ++ flat_map term_text (take l.term-index l.terms)
