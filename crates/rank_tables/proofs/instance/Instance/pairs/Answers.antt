use Rattle.std.proofs.Common.{ap, ◌∙◌, arith}
use Rattle.rank_tables.specs.Instance.{pair_count}
use Rattle.rank_tables.proofs.TableFacts.{count-entries}
use Rattle.rank_tables.proofs.instance.Instance.pairs.Goals as goal

pub overflow_cast-result : goal.overflow_cast-result
overflow_cast-result c = omega (arith, c.self.inside.tables.entries.ok.0, count-entries c.self.invariant.tables, c.self.invariant.tables.few_pairs, c.len.ensures)

pub returns-clause-count : goal.returns-clause-count
returns-clause-count c = c.len.ensures ∙ c.self.inside.tables.entries.ok.0 ∙ count-entries c.self.invariant.tables ∙ ap pair_count c.self.view_is

pub returns-clause-few : goal.returns-clause-few
returns-clause-few c = omega (arith, c.self.inside.tables.entries.ok.0, count-entries c.self.invariant.tables, c.self.invariant.tables.few_pairs, c.len.ensures)
