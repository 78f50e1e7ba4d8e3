use Rattle.std.proofs.Common.{◌≡◌, ℕ, ◌<◌, length, ap, ◌∙◌, arith}
use Rattle.std.proofs.lemmas.List.{length-map}
use Rattle.std.proofs.lemmas.List.Elements.{All-same}
use Rattle.std.proofs.lemmas.Result.{IfOk-weaker, IfErr-weaker}
use Rattle.rank_tables.specs.declared.marks.Mark.{Mark}
use Rattle.rank_tables.specs.Instance.{pairs}
use Rattle.rank_tables.specs.Building.{row_at, namings_of, both}
use Rattle.rank_tables.proofs.Turning.{namings_of-below}
use Rattle.rank_tables.proofs.TablesMade.{kept_of, made-pairs, entries-made}
use Rattle.rank_tables.proofs.tables.entries_of.Goals as goal

pub pair_entries-requires-clause-numbers : goal.pair_entries-requires-clause-numbers
pair_entries-requires-clause-numbers c =
    λ r. All-same (λ (m : Mark). m.number < length c.args.hospitals.now) (row_at c.deref.result.now r) (namings_of c.args.hospitals.now (length c.args.hospitals.now) r)
    (ap (λ rows. row_at rows r) c.deref.ensures.value ∙ c.in_ok-named_by.ensures.each r) (namings_of-below c.args.hospitals.now (length c.args.hospitals.now) r)

pub returns-clause-ok : goal.returns-clause-ok
returns-clause-ok c =
    let lists = both c.args.residents.now c.args.hospitals.now in
    let namings : (r : ℕ) → row_at c.deref.result.now r ≡ namings_of c.args.hospitals.now (length c.args.hospitals.now) r =
    λ r. ap (λ rows. row_at rows r) c.deref.ensures.value ∙ c.in_ok-named_by.ensures.each r in
    let made = made-pairs lists c.requires (row_at c.deref.result.now) namings (length c.args.residents.now) in
    IfOk-weaker c.pair_entries.result _ _ (λ entries e. e ∙ made ∙ entries-made lists) c.pair_entries.ensures.ok

pub returns-clause-too_many : goal.returns-clause-too_many
returns-clause-too_many c =
    let lists = both c.args.residents.now c.args.hospitals.now in
    let namings : (r : ℕ) → row_at c.deref.result.now r ≡ namings_of c.args.hospitals.now (length c.args.hospitals.now) r =
    λ r. ap (λ rows. row_at rows r) c.deref.ensures.value ∙ c.in_ok-named_by.ensures.each r in
    let made = made-pairs lists c.requires (row_at c.deref.result.now) namings (length c.args.residents.now) in
    let count = ap length made ∙ length-map (pairs lists) (kept_of lists) in
    IfErr-weaker c.pair_entries.result _ _ (λ refusal full e. omega (arith, full e, count)) c.pair_entries.ensures.too_many
