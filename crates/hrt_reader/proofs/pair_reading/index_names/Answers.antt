use Rattle.std.proofs.Common.{◌≡◌, ◌∙◌, ◌++◌, ◌∷◌, [], ℕ, true, false, not, List, Some, sym, ap, arith}
use Rattle.std.specs.Prelude.{slice_get}
use Rattle.rank_tables.specs.Names.{is_among}
use Rattle.hrt_text.specs.Views.{texts}
use Rattle.hrt_reader.specs.Written.{names_of}
use Rattle.hrt_reader.proofs.NameKeys.{name_there, new_name, one_name_more, side_apart}
use Rattle.hrt_reader.proofs.pair_reading.index_names.Goals as goal

pub loop-number-preserved : goal.loop-number-preserved
loop-number-preserved c =
    let names : List (List ℕ) = names_of c.args.side c.args.instance.now in
    let name : List ℕ = c.name_of.result.now in
    let at : slice_get names c.loop-number.number ≡ Some name = name_there names c.loop-number.number (omega arith) ∙ ap (λ (n : List ℕ). Some n) (sym c.name_of.ensures) in
    let new : is_among name (texts c.loop-number.names.keys) ≡ false =
    ap (is_among name) c.loop-number.invariant ∙ new_name name names c.loop-number.number (side_apart c.args.side c.args.instance.now c.count_of-number-end.ensures.well_formed) at in
    let fresh : c.in_ok-declare.field-0 ≡ true = c.in_ok-declare.ensures.fresh ∙ ap not new in
    c.in_ok-declare.ensures.added fresh ∙ ap (λ (l : List (List ℕ)). l ++ name ∷ []) c.loop-number.invariant ∙ sym (one_name_more name names c.loop-number.number at)
