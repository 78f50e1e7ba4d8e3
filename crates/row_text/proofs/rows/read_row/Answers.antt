use Rattle.std.proofs.Common.{◌≡◌, [], ◌∷◌, ◌++◌, ℕ, List, Bool, sym, ap, ◌∙◌, false, true, rules}
use Rattle.std.specs.Prelude.{codes, bytes_eq, option_map, ℤ, if◌then◌else◌}
use Rattle.row_text.specs.Rows.{read_row}
use Rattle.row_text.specs.Tokens.{tokens}
use mir.Val.{SFits}
use Rattle.std.specs.Int.{w128}
use Rattle.std.proofs.lemmas.Int.{to_z-of_z}
use Rattle.hrt_base.specs.declared.literal.Term.{Term}
use Rattle.row_text.specs.declared.readings.Reading.{Reading}
use Rattle.row_text.specs.declared.readings.Reading.TheVariants.{TooBig, Unspelled, Value}
use Rattle.pb_rows.specs.Terms.{Written}
use Rattle.row_text.specs.Readings.{reading}
use Rattle.row_text.specs.Rows.{is_small_row}
use Rattle.row_text.proofs.RowSteps.{closed, row_of, with_terms, term_read, term_small, no_term, big_term, row_closed}
use Rattle.row_text.proofs.rows.read_row.Goals as goal
use Rattle.row_text.proofs.rows.read_row.Goals.{in-Value, in-TooBig, in-Unspelled, then-is_row, else-is_row}

abbrev too_big_where : Bool → Reading Written
too_big_where b = if b then TooBig else Unspelled

pub returns-then-eq : goal.returns-then-eq
returns-then-eq c =
    let t : List ℕ = c.in-Some.first.now in
    let u : List ℕ = c.in-Some-next_token.second.now in
    let rest : List (List ℕ) = tokens c.in-Some-next_token.after.now in
    let front : tokens c.loop-first.rest.now ≡ t ∷ u ∷ rest = c.in-Some.ensures.some ∙ ap (λ (ts : List (List ℕ)). t ∷ ts) c.in-Some-next_token.ensures.some in
    let test : bytes_eq t (codes ">=") ≡ true = ap (bytes_eq t) (sym c.as_slice.ensures) ∙ sym c.eq.ensures ∙ c.if-eq.true in
    let ts : List Term = c.loop-first.terms.items in
    let whole : read_row (tokens c.args.line.now) ≡ option_map (with_terms ts) (read_row (t ∷ u ∷ rest)) =
    c.loop-first.invariant.whole ∙ ap (λ (us : List (List ℕ)). option_map (with_terms ts) (read_row us)) front in
    let end : closed ts c.read_right.result ≡ reading is_small_row (read_row (tokens c.args.line.now)) =
    ap (closed ts) c.read_right.ensures ∙ row_closed _ ts t u rest whole test c.loop-first.invariant.small in
    elim c.match-read_right.branch [
      | in-Value w ↦
          let fits : SFits w128 w.in-Value.at_least = search rules in
          w.result-is ∙ ap (λ (n : ℤ). Value (row_of ts n)) (to_z-of_z w128 w.in-Value.at_least fits) ∙ ap (closed ts) (sym w.in-Value.is) ∙ end
      | in-TooBig w ↦ w.result-is ∙ ap (closed ts) (sym w.in-TooBig.is) ∙ end
      | in-Unspelled w ↦ w.result-is ∙ ap (closed ts) (sym w.in-Unspelled.is) ∙ end
    ]

pub returns-in-TooBig-read_term : goal.returns-in-TooBig-read_term
returns-in-TooBig-read_term c =
    let t : List ℕ = c.in-Some.first.now in
    let u : List ℕ = c.in-Some-next_token.second.now in
    let rest : List (List ℕ) = tokens c.in-Some-next_token.after.now in
    let front : tokens c.loop-first.rest.now ≡ t ∷ u ∷ rest = c.in-Some.ensures.some ∙ ap (λ (ts : List (List ℕ)). t ∷ ts) c.in-Some-next_token.ensures.some in
    let test : bytes_eq t (codes ">=") ≡ false = ap (bytes_eq t) (sym c.as_slice.ensures) ∙ sym c.eq.ensures ∙ c.if-eq.false in
    let ts : List Term = c.loop-first.terms.items in
    let whole : read_row (tokens c.args.line.now) ≡ option_map (with_terms ts) (read_row (t ∷ u ∷ rest)) =
    c.loop-first.invariant.whole ∙ ap (λ (us : List (List ℕ)). option_map (with_terms ts) (read_row us)) front in
    let big : too_big_where c.is_row.result ≡ reading is_small_row (read_row (tokens c.args.line.now)) =
    ap too_big_where c.is_row.ensures ∙ sym (big_term _ ts t u rest whole test (sym c.in-TooBig-read_term.is ∙ c.read_term.ensures)) in
    elim c.if-is_row.branch [
      | then-is_row w ↦ w.result-is ∙ ap too_big_where (sym w.if-is_row.true) ∙ big
      | else-is_row w ↦ w.result-is ∙ ap too_big_where (sym w.if-is_row.false) ∙ big
    ]

pub returns-in-Unspelled-read_term : goal.returns-in-Unspelled-read_term
returns-in-Unspelled-read_term c =
    let t : List ℕ = c.in-Some.first.now in
    let u : List ℕ = c.in-Some-next_token.second.now in
    let rest : List (List ℕ) = tokens c.in-Some-next_token.after.now in
    let front : tokens c.loop-first.rest.now ≡ t ∷ u ∷ rest = c.in-Some.ensures.some ∙ ap (λ (ts : List (List ℕ)). t ∷ ts) c.in-Some-next_token.ensures.some in
    let test : bytes_eq t (codes ">=") ≡ false = ap (bytes_eq t) (sym c.as_slice.ensures) ∙ sym c.eq.ensures ∙ c.if-eq.false in
    let ts : List Term = c.loop-first.terms.items in
    let whole : read_row (tokens c.args.line.now) ≡ option_map (with_terms ts) (read_row (t ∷ u ∷ rest)) =
    c.loop-first.invariant.whole ∙ ap (λ (us : List (List ℕ)). option_map (with_terms ts) (read_row us)) front in
    ap (reading is_small_row) (sym (no_term _ ts t u rest whole test (sym c.in-Unspelled-read_term.is ∙ c.read_term.ensures)))

pub loop-first-preserved : goal.loop-first-preserved
loop-first-preserved c =
    let t : List ℕ = c.in-Some.first.now in
    let u : List ℕ = c.in-Some-next_token.second.now in
    let rest : List (List ℕ) = tokens c.in-Some-next_token.after.now in
    let front : tokens c.loop-first.rest.now ≡ t ∷ u ∷ rest = c.in-Some.ensures.some ∙ ap (λ (ts : List (List ℕ)). t ∷ ts) c.in-Some-next_token.ensures.some in
    let test : bytes_eq t (codes ">=") ≡ false = ap (bytes_eq t) (sym c.as_slice.ensures) ∙ sym c.eq.ensures ∙ c.if-eq.false in
    let ts : List Term = c.loop-first.terms.items in
    let whole : read_row (tokens c.args.line.now) ≡ option_map (with_terms ts) (read_row (t ∷ u ∷ rest)) =
    c.loop-first.invariant.whole ∙ ap (λ (us : List (List ℕ)). option_map (with_terms ts) (read_row us)) front in
    let kept : Value c.in-Value-read_term.term ≡ c.read_term.result = sym c.in-Value-read_term.is in
    let pushed : c.push.new.self.items ≡ ts ++ c.in-Value-read_term.term ∷ [] = c.in_ok-push-in-Value-read_term.ensures.items in
    record {
      whole = rw pushed (term_read _ ts t u rest c.in-Value-read_term.term whole test (kept ∙ c.read_term.ensures));
      small = rw pushed (term_small ts t u c.in-Value-read_term.term c.loop-first.invariant.small (kept ∙ c.read_term.ensures));
    }
