use Rattle.std.proofs.Common.{◌≡◌, ◌∙◌, ◌++◌, ◌∷◌, [], List, false, length, subst, sym, ap, ap₂, ℕ, arith}
use Rattle.hrt_base.specs.declared.literal.Term.{Term}
use Rattle.pb_rows.specs.Terms.{PlainRow}
use Rattle.row_arena.specs.declared.arena.Stored.{Stored}
use Rattle.row_arena.specs.Held.{AreHeld, HeldRows, IsKept, is_held}
use Rattle.row_arena.specs.Stored.{kept_row, placed_from}
use Rattle.row_arena.proofs.Placed.{arena-push, next-not-held, view-push}
use Rattle.row_arena.proofs.arena.Arena.push.Goals as goal

abbrev stored : (c : goal.In_ok-push) → Stored
stored c = record { terms = c.in_ok-terms.terms; degree = c.degree_of-degree.result; tag = c.args.tag }

same : (c : goal.In_ok-push) → kept_row (stored c) ≡ c.args.row.now
same c =
    let made : List Term → ℕ → PlainRow = λ ts d. record { terms = ts; degree = d } in
    ap₂ made (c.in_ok-terms.ensures.items ∙ c.terms.ensures.terms) c.degree_of-degree.ensures

kept : (c : goal.In_ok-push) → IsKept c.self.inside.vars (kept_row (stored c))
kept c = subst (λ (r : PlainRow). IsKept c.self.inside.vars r) (sym (same c)) (subst (λ (v : HeldRows). IsKept v.vars c.args.row.now) (sym c.self.view_is) (record { normal = c.terms.ensures.normal; over = c.requires.covered; short = c.requires.short }))

items : (c : goal.In_ok-push) → c.push.new.self.items ≡ c.self.inside.rows.items ++ stored c ∷ []
items c = c.in_ok-push.ensures.items

held : (c : goal.In_ok-push) → AreHeld c.self.inside.vars (placed_from 0 c.push.new.self.items)
held c = subst (λ (rows : List Stored). AreHeld c.self.inside.vars (placed_from 0 rows)) (sym (items c)) (arena-push c.self.inside.vars c.self.inside.rows.items (stored c) c.self.invariant (kept c))

len-is : (c : goal.In_ok-push) → length c.self.inside.rows.items ≡ c.len.result
len-is c = omega (arith, c.len.ensures, c.self.inside.rows.ok.0)

pub invariant_of-self-2 : goal.invariant_of-self-2
invariant_of-self-2 c = held c

pub returns-clause-ok : goal.returns-clause-ok
returns-clause-ok c =
    let made : ℕ → PlainRow → HeldRows = λ n r. record { vars = c.args.self.now.vars; held = c.args.self.now.held ++ record { place = n; row = r; tag = c.args.tag.0 } ∷ [] } in
    ap (λ (rows : List Stored). let v : HeldRows = record { vars = c.self.inside.vars; held = placed_from 0 rows } in v) (items c)
    ∙ view-push c.self.inside.vars c.self.inside.rows.items (stored c) c.args.self.now c.self.view_is
    ∙ ap₂ made (len-is c) (same c)

pub returns-clause-fresh : goal.returns-clause-fresh
returns-clause-fresh c =
    subst (λ (n : ℕ). is_held n c.args.self.now.held ≡ false) (len-is c)
    (subst (λ (v : HeldRows). is_held (length c.self.inside.rows.items) v.held ≡ false) c.self.view_is (next-not-held c.self.inside.rows.items))

pub returns-clause-kept : goal.returns-clause-kept
returns-clause-kept c = held c
