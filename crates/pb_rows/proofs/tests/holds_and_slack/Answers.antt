use Rattle.std.proofs.Common.{◌≡◌, pos, [], ◌∷◌, arith}
use Rattle.std.specs.List.{All}
use Rattle.std.proofs.lemmas.List.Elements.{All-from_recursion}
use Rattle.hrt_base.specs.declared.literal.Term.{Term}
use Rattle.pb_rows.specs.Points.{IsCovered}
use Rattle.pb_rows.proofs.Covers.{normal_form_over}
use Rattle.pb_rows.proofs.tests.holds_and_slack.Goals as goal

both_covered : (t u : Term) → t.lit.var ≡ 1 → u.lit.var ≡ 3 → All (λ (t : Term). IsCovered 3 t.lit.var) (t ∷ u ∷ [])
both_covered t u e f =
    All-from_recursion (λ (t : Term). IsCovered 3 t.lit.var) (t ∷ u ∷ [])
    (record { first = omega (arith, e); last = omega (arith, e) }, (record { first = omega (arith, f); last = omega (arith, f) }, tt))

pub holds-requires : goal.holds-requires
holds-requires g c =
    rw c.in_ok-row.ensures.ok (normal_form_over (IsCovered 3) (c.term.result ∷ c.term-2.result ∷ []) (pos 2) (both_covered c.term.result c.term-2.result c.term.ensures c.term-2.ensures))

pub slack-requires : goal.slack-requires
slack-requires g c =
    rw c.in_ok-row.ensures.ok (normal_form_over (IsCovered 3) (c.term.result ∷ c.term-2.result ∷ []) (pos 2) (both_covered c.term.result c.term-2.result c.term.ensures c.term-2.ensures))
