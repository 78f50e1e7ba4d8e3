use Rattle.std.proofs.Common.{◌∙◌, ℕ, List, sym, ap}
use Rattle.hrt_text.specs.Text.{rows}
use Rattle.hrt_reader.specs.Refusal.{lists_of_rows}
use Rattle.hrt_reader.proofs.RoundTrip.{spelled_back}
use Rattle.hrt_reader.proofs.Unrefused.{reads_as}
use Rattle.hrt_reader.proofs.law.spelling_is_one_to_one.Goals as goal

pub returns : goal.returns
returns c = λ lists other one two same.
    sym (reads_as _ _ (spelled_back lists one)).says ∙ ap (λ (bytes : List ℕ). lists_of_rows (rows bytes)) same ∙ (reads_as _ _ (spelled_back other two)).says
