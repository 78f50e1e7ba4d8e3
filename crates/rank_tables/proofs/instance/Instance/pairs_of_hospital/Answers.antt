use Rattle.std.proofs.Common.{◌<◌, length, ap, sym, ◌∙◌, arith, subst}
use Rattle.std.proofs.lemmas.List.{length-map, get_or-map}
use Rattle.rank_tables.specs.Instance.{Lists, pairs_as_listed}
use Rattle.rank_tables.specs.Tables.{IsOfHospital, numbers_of}
use Rattle.rank_tables.proofs.PairFacts.{pairs_as_listed-each}
use Rattle.rank_tables.proofs.TableFacts.{count-cols, col-of, All-numbers_of}
use Rattle.hrt_base.specs.declared.numbered.PairNo.{PairNo}
use Rattle.rank_tables.specs.Numbers.{is_in, is_distinct}
use Rattle.rank_tables.specs.WellFormed.{IsWellFormed}
use Rattle.rank_tables.proofs.SamePairs.{listed-same, listed-length, listed-distinct}
use Rattle.rank_tables.proofs.instance.Instance.pairs_of_hospital.Goals as goal

pub index-requires : goal.index-requires
index-requires c =
    let rows = c.self.inside.tables.by_hospital in
    omega (arith, rows.ok.0, length-map rows.items (λ row. row.items), count-cols c.self.invariant.tables, ap (λ (x : Lists). length x.hospitals) c.self.view_is, c.requires)

pub returns-clause-numbers : goal.returns-clause-numbers
returns-clause-numbers c =
    let rows = c.self.inside.tables.by_hospital in
    let declared : c.args.h < length c.self.inside.hospitals.items = omega (arith, ap (λ (x : Lists). length x.hospitals) c.self.view_is, c.requires) in
    let count = count-cols c.self.invariant.tables in
    let within : c.args.h < length rows.items = omega (arith, length-map rows.items (λ row. row.items), count, declared) in
    rw (c.deref.ensures.value, c.index.ensures, ← c.self.view_is)
    (ap numbers_of (sym (get_or-map (λ row. row.items) rows.items c.args.h c.index.result.now c.index.result.now.items within))
    ∙ col-of c.self.invariant.tables c.args.h c.index.result.now.items declared)

pub returns-clause-each : goal.returns-clause-each
returns-clause-each c =
    All-numbers_of (IsOfHospital c.args.self.now c.args.h) c.deref.result.now (pairs_as_listed c.args.self.now c.args.h) (returns-clause-numbers c)
    (pairs_as_listed-each c.args.self.now c.args.h)

pub returns-clause-same : goal.returns-clause-same
returns-clause-same c =
    let known = subst IsWellFormed c.self.view_is c.self.invariant.tables.well_formed in
    λ p. ap (is_in p) (returns-clause-numbers c) ∙ listed-same c.args.self.now known c.args.h p

pub returns-clause-count : goal.returns-clause-count
returns-clause-count c =
    let known = subst IsWellFormed c.self.view_is c.self.invariant.tables.well_formed in
    sym (length-map c.deref.result.now (λ (p : PairNo). p.0)) ∙ ap length (returns-clause-numbers c) ∙ listed-length c.args.self.now known c.args.h

pub returns-clause-distinct : goal.returns-clause-distinct
returns-clause-distinct c =
    let known = subst IsWellFormed c.self.view_is c.self.invariant.tables.well_formed in
    ap is_distinct (returns-clause-numbers c) ∙ listed-distinct c.args.self.now known c.args.h
