use Rattle.std.proofs.Common.{[], ◌∷◌, ◌++◌, ℕ, List, ap, subst, sym, ◌∙◌, arith}
use Rattle.std.specs.Prelude.{flat_map}
use Rattle.std.proofs.lemmas.List.{take_all}
use Rattle.hrt_base.specs.declared.literal.Lit.{Lit}
use Rattle.row_text.specs.Rows.{literal_text}
use Rattle.row_text.specs.Tokens.{spaced}
use Rattle.row_text.specs.Readings.{StaysInFront}
use Rattle.row_text.proofs.Appended.{stays_longer, OnErr-from}
use Rattle.row_text.proofs.RowWords.{spaced_mapped}
use Rattle.proof_lines.proofs.writing.push_literals.Goals as goal

pub returns-clause-ok : goal.returns-clause-ok
returns-clause-ok c =
    let xs : List Lit = c.args.lits.now in
    let before : List ℕ = c.args.out.now.items in
    c.loop-lit.invariant ∙ ap (λ (ys : List Lit). before ++ flat_map (λ (x : Lit). spaced (literal_text x ∷ [])) ys) (take_all c.loop-lit.lit-index xs (omega arith))
    ∙ ap (λ (l : List ℕ). before ++ l) (sym (spaced_mapped literal_text xs))

pub returns-in_err-push_spaced_literal-clause-err :
    goal.returns-in_err-push_spaced_literal-clause-err
returns-in_err-push_spaced_literal-clause-err c =
    let kept = c.in_err-push_spaced_literal.ensures.err in
    OnErr-from _ _ (stays_longer c.args.out.now.items _ _ (subst (λ (l : List ℕ). StaysInFront l c.push_spaced_literal.new.out.items) c.loop-lit.invariant kept))
