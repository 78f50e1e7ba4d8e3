use Rattle.std.proofs.Common.{◌<◌, length, ap, sym, ◌∙◌, arith}
use Rattle.std.proofs.lemmas.List.{length-map, get_or-map}
use Rattle.rank_tables.specs.Instance.{Lists, pairs_of_resident}
use Rattle.rank_tables.specs.Tables.{IsOfResident, numbers_of}
use Rattle.rank_tables.proofs.PairFacts.{pairs_of_resident-each}
use Rattle.rank_tables.proofs.TableFacts.{count-rows, row-of, All-numbers_of}
use Rattle.rank_tables.proofs.instance.Instance.pairs_of_resident.Goals as goal

pub index-requires : goal.index-requires
index-requires c =
    let rows = c.self.inside.tables.by_resident in
    omega (arith, rows.ok.0, length-map rows.items (λ row. row.items), count-rows c.self.invariant.tables, ap (λ (x : Lists). length x.residents) c.self.view_is, c.requires)

pub returns-clause-numbers : goal.returns-clause-numbers
returns-clause-numbers c =
    let rows = c.self.inside.tables.by_resident in
    let declared : c.args.r < length c.self.inside.residents.items = omega (arith, ap (λ (x : Lists). length x.residents) c.self.view_is, c.requires) in
    let count = count-rows c.self.invariant.tables in
    let within : c.args.r < length rows.items = omega (arith, length-map rows.items (λ row. row.items), count, declared) in
    rw (c.deref.ensures.value, c.index.ensures, ← c.self.view_is)
    (ap numbers_of (sym (get_or-map (λ row. row.items) rows.items c.args.r c.index.result.now c.index.result.now.items within))
    ∙ row-of c.self.invariant.tables c.args.r c.index.result.now.items declared)

pub returns-clause-each : goal.returns-clause-each
returns-clause-each c =
    All-numbers_of (IsOfResident c.args.self.now c.args.r) c.deref.result.now (pairs_of_resident c.args.self.now c.args.r) (returns-clause-numbers c)
    (pairs_of_resident-each c.args.self.now c.args.r)
