use Rattle.std.proofs.Common.{◌∙◌, sym, ap, ℕ, List}
use Rattle.hrt_reader.specs.Numbered.{is_known}
use Rattle.hrt_text.specs.Views.{texts, view_token}
use Rattle.hrt_text.specs.declared.tokens.Token.{Token as CodeToken}
use Rattle.hrt_reader.proofs.TokenReading.{found_number, found_none}
use Rattle.hrt_reader.proofs.numbered.take_token.Goals as goal

pub returns-in-None-clause-known : goal.returns-in-None-clause-known
returns-in-None-clause-known c =
    let names : List (List ℕ) = texts c.args.names.now.keys in
    sym (ap (λ (t : CodeToken). is_known names (view_token t)) c.in-Word.is ∙ found_none c.in-Word.word.now names (sym c.number_of.ensures ∙ c.in-None.is))

pub returns-in_ok-add_number-in-Some-clause-known :
    goal.returns-in_ok-add_number-in-Some-clause-known
returns-in_ok-add_number-in-Some-clause-known c =
    let names : List (List ℕ) = texts c.args.names.now.keys in
    sym (ap (λ (t : CodeToken). is_known names (view_token t)) c.in-Word.is ∙ (found_number c.in-Word.word.now names c.in-Some.number (sym c.number_of.ensures ∙ c.in-Some.is)).0)
