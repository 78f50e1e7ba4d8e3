use Rattle.std.proofs.Common.{◌≡◌, ◌++◌, take}
use Rattle.rank_tables.specs.Tables.{numbers_of}
use Rattle.stability_model.specs.Making.{counted_terms, resident_share}
use Rattle.stability_model.proofs.terms.push_resident_terms.Given as goal

abbrev pub invariant-loop-q : goal.invariant-loop-q
invariant-loop-q l = l.terms.items ≡ l.initial.terms.items ++ counted_terms (resident_share l.inst l.p.0) (numbers_of (take l.q-index l.q-items))
