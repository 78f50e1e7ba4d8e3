-- The variable that is decided next, and a trail without free variables.
use Rattle.std.proofs.Common.{◌≡◌, ◌+◌, ◌≤◌, ℕ, Bool, true, false, if◌then◌else◌, List, [], ◌∷◌, length, count_by, refl, sym, subst, arith}
use Rattle.std.specs.List.{AllByRecursion}
use Rattle.std.proofs.lemmas.List.Elements.{All-weaker, recursion_from_All}
use Rattle.std.proofs.lemmas.List.{length-map}
use Rattle.hrt_base.specs.declared.literal.Lit.{Lit}
use Rattle.hrt_base.specs.declared.literal.Value.TheVariants.{False, Free, True}
use Rattle.pb_rows.specs.Terms.{opposite_lit}
use Rattle.rank_tables.specs.Numbers.{numbers_to}
use Rattle.rank_tables.proofs.Below.{length-numbers_to, numbers_to-within}
use Rattle.conflict_bound.proofs.SetSizes.{count-cons, worth}
use Rattle.pb_propagate.specs.Entries.{Entry, lits_of, set_of, value_in}
use Rattle.pb_propagate.specs.Engines.{EngineState}
use Rattle.pb_propagate.specs.Moments.{IsInOrder}
use Rattle.search_measure.proofs.LearnedRows.{engine-assigned}
use Rattle.search_measure.proofs.TrailSizes.{size-list}

-- ---- values

untrue_from : (t f : Bool) → (if t then True else (if f then False else Free)) ≡ Free → t ≡ false
untrue_from true f h = absurd (cc)
untrue_from false f h = refl

unfalse_from : (t f : Bool) → (if t then True else (if f then False else Free)) ≡ Free → f ≡ false
unfalse_from true f h = absurd (cc)
unfalse_from false true h = absurd (cc)
unfalse_from false false h = refl

-- neither a free variable's literal nor its opposite is true
pub free_untrue : (es : List Entry) (l : Lit) → l.neg ≡ false → value_in es l.var ≡ Free → set_of es l ≡ false
free_untrue es l p h = subst (λ (n : Bool). set_of es (record { var = l.var; neg = n }) ≡ false) (sym p) (untrue_from (set_of es (record { var = l.var; neg = false })) (set_of es (record { var = l.var; neg = true })) h)

pub free_unfalse : (es : List Entry) (l : Lit) → l.neg ≡ false → value_in es l.var ≡ Free → set_of es (opposite_lit l) ≡ false
free_unfalse es l p h = subst (λ (n : Bool). set_of es (opposite_lit (record { var = l.var; neg = n })) ≡ false) (sym p) (unfalse_from (set_of es (record { var = l.var; neg = false })) (set_of es (record { var = l.var; neg = true })) h)

-- ---- no free variable

worth_either : (t f : Bool) → ((if t then True else (if f then False else Free)) ≡ Free → ⊥) → 1 ≤ worth t + worth f
worth_either true f h = omega arith
worth_either false true h = omega arith
worth_either false false h = absurd (h refl)

count-each : (p q : ℕ → Bool) (vs : List ℕ) → AllByRecursion (λ (v : ℕ). 1 ≤ worth (p v) + worth (q v)) vs → length vs ≤ count_by p vs + count_by q vs
count-each p q [] h = omega arith
count-each p q (v ∷ vs) h = omega (arith, count-cons p v vs, count-cons q v vs, h.0, count-each p q vs h.1)

pub full_trail : (e : EngineState) → IsInOrder e → ((v : ℕ) → 1 ≤ v → v ≤ e.vars → value_in e.trail v ≡ Free → ⊥) → length e.trail ≡ e.vars
full_trail e o none =
    let assigned = engine-assigned e o in
    let each : AllByRecursion (λ (v : ℕ). 1 ≤ worth (set_of e.trail (record { var = v; neg = false })) + worth (set_of e.trail (record { var = v; neg = true }))) (numbers_to e.vars) =
    recursion_from_All (λ (v : ℕ). 1 ≤ worth (set_of e.trail (record { var = v; neg = false })) + worth (set_of e.trail (record { var = v; neg = true }))) (numbers_to e.vars)
    (All-weaker (λ (v : ℕ). (1 ≤ v) × (v ≤ e.vars)) (λ (v : ℕ). 1 ≤ worth (set_of e.trail (record { var = v; neg = false })) + worth (set_of e.trail (record { var = v; neg = true })))
    (λ v h. worth_either (set_of e.trail (record { var = v; neg = false })) (set_of e.trail (record { var = v; neg = true })) (none v h.0 h.1)) (numbers_to e.vars) (numbers_to-within e.vars e.vars (omega arith))) in
    omega (
      arith,
      o.few,
      size-list e.vars (lits_of e.trail) assigned.known assigned.distinct,
      length-map e.trail (λ (x : Entry). x.lit),
      length-numbers_to e.vars,
      count-each (λ v. set_of e.trail (record { var = v; neg = false })) (λ v. set_of e.trail (record { var = v; neg = true })) (numbers_to e.vars) each,
    )
