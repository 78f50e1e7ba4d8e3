use mir.Syntax.{w128}
use mir.Val.{of_z, to_z}
use Rattle.std.proofs.Common.{◌≡◌, ℕ, ℤ, List, ◌++◌, pos, ap, ◌∙◌, arith}
use Rattle.std.proofs.lemmas.Result.{IfOk-weaker}
use Rattle.hrt_base.specs.declared.literal.Term.{Term}
use Rattle.pb_rows.specs.Terms.{PlainRow}
use Rattle.pb_rows.specs.Rows.{in_normal_form}
use Rattle.pb_rows.specs.Normal.{normal_form}
use Rattle.rank_tables.specs.Instance.{capacity_of, pair_at, pairs_of_resident}
use Rattle.rank_tables.specs.Tables.{numbers_of}
use Rattle.stability_model.specs.Model.{pair_row}
use Rattle.stability_model.specs.Making.{counted_terms, hospital_share, resident_share}
use Rattle.stability_model.proofs.Pushes.{each_is_number}
use Rattle.stability_model.proofs.PairTerms.{pair_terms_make, passed}
use Rattle.stability_model.proofs.RowSizes.{pair_row_fits}
use Rattle.stability_model.proofs.making.pair_row.Goals as goal

pub pair_terms-requires-clause-pairs : goal.pair_terms-requires-clause-pairs
pair_terms-requires-clause-pairs c = each_is_number c.args.inst.now (pair_at c.args.inst.now c.args.p.0).hospital c.args.pairs.now c.requires.pairs

pub from_terms_that_fit-requires : goal.from_terms_that_fit-requires
from_terms_that_fit-requires c =
    let lists = c.args.inst.now in
    let p = c.args.p.0 in
    pair_row_fits lists p (pairs_of_resident lists (pair_at lists p).resident) (numbers_of c.args.pairs.now) c.deref.result.now (to_z w128 (of_z w128 c.from.result)) c.capacity-capacity.result
    (c.deref.ensures.value ∙ c.in_ok-terms.ensures) (omega (arith, c.deref.ensures.len, c.in_ok-terms.terms.ok.0))
    (passed c.from.result c.capacity-capacity.result c.from.ensures (omega (arith, c.capacity-capacity.ensures.few)))
    (c.capacity-capacity.ensures.value ∙ ap (capacity_of lists) c.hospital_of.ensures.value) c.capacity-capacity.ensures.few

pub returns : goal.returns
returns c =
    let lists = c.args.inst.now in
    let p = c.args.p.0 in
    let z : ℤ = to_z w128 (of_z w128 c.from.result) in
    let is : normal_form c.deref.result.now z ≡ in_normal_form (pair_row lists p) =
    ap (λ (ts : List Term). normal_form ts z)
    (c.deref.ensures.value ∙ c.in_ok-terms.ensures
    ∙ ap (λ (ps : List ℕ). counted_terms (resident_share lists p) (pairs_of_resident lists (pair_at lists p).resident) ++ counted_terms (hospital_share lists p) ps) c.requires.pairs)
    ∙ pair_terms_make lists p z (passed c.from.result c.capacity-capacity.result c.from.ensures (omega (arith, c.capacity-capacity.ensures.few)) ∙ ap pos (c.capacity-capacity.ensures.value ∙ ap (capacity_of lists) c.hospital_of.ensures.value)) in
    IfOk-weaker c.from_terms_that_fit.result (λ (row : PlainRow). row ≡ normal_form c.deref.result.now z) (λ (row : PlainRow). row ≡ in_normal_form (pair_row lists p)) (λ row e. e ∙ is) c.from_terms_that_fit.ensures
