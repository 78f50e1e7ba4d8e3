use Rattle.std.proofs.Common.{ap, ◌∙◌, rules}
use Rattle.std.specs.Int.{w128}
use mir.Val.{SFits}
use Rattle.std.proofs.lemmas.Int.{to_z-of_z}
use Rattle.row_text.specs.declared.readings.Reading.TheVariants.{Value}
use Rattle.row_text.proofs.NumberTexts.{kept, number_text-kept}
use Rattle.row_text.proofs.numbers.read_number.Goals as goal

pub returns-in-Number : goal.returns-in-Number
returns-in-Number c =
    let fits : SFits w128 c.in-Number.n = search rules in
    ap Value (to_z-of_z w128 c.in-Number.n fits) ∙ ap kept c.in-Number.ensures ∙ number_text-kept c.args.token.now
