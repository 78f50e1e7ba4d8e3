use Rattle.std.proofs.Common.{ap, sym, subst, ◌∙◌, arith}
use Rattle.rank_tables.specs.Instance.{Lists, pair_count}
use Rattle.rank_tables.specs.Tables.{IsPairNo, entry_of}
use Rattle.rank_tables.proofs.TableFacts.{count-entries, entry-of}
use Rattle.rank_tables.proofs.instance.Instance.entry.Goals as goal

pub index-requires : goal.index-requires
index-requires c =
    omega (arith, c.self.inside.tables.entries.ok.0, count-entries c.self.invariant.tables, ap pair_count c.self.view_is)

pub returns : goal.returns
returns c =
    let known = subst (λ (lists : Lists). IsPairNo lists c.args.p.0) (sym c.self.view_is) c.requires in
    c.index.ensures ∙ entry-of c.self.invariant.tables c.args.p.0 c.index.result.now known ∙ ap (λ (lists : Lists). entry_of lists c.args.p.0) c.self.view_is
