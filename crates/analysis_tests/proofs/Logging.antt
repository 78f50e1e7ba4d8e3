-- A logged solution, whose row is held besides.
use Rattle.std.proofs.Common.{◌≡◌, ◌≤◌, ◌*◌, ◌==◌, ◌||◌, ℕ, zero, Bool, true, false, not, nat_le, List, [], ◌∷◌, ◌++◌, length, length-append, map, refl, sym, ap, ◌∙◌, subst, pos, ◌-ℤ◌, inl, inr, arith}
use Rattle.std.specs.Prelude.{codes, Some, Result, Ok}
use Rattle.std.specs.List.{All, list_all}
use Rattle.std.proofs.lemmas.Bool.{and_from, eqb-true, false_from_ne_true, le-leb, or_cases, true≢false}
use Rattle.std.proofs.lemmas.Fmt.{length-decimal-le}
use Rattle.std.proofs.lemmas.List.Elements.{All-tail}
use Rattle.hrt_base.specs.declared.numbered.RowNo.{RowNo}
use Rattle.pb_rows.specs.Terms.{PlainRow}
use Rattle.pb_rows.specs.Points.{Point, value_at}
use Rattle.pb_rows.specs.Formula.{is_numbered, row_of}
use Rattle.rank_tables.specs.Instance.{Lists, pair_count}
use Rattle.rank_tables.specs.Numbers.{is_in, numbers_to}
use Rattle.rank_tables.specs.WellFormed.{most_pairs}
use Rattle.rank_tables.proofs.Below.{length-numbers_to, numbers_to-within}
use Rattle.row_text.specs.Rows.{literal_text}
use Rattle.row_text.specs.Tokens.{spaced}
use Rattle.stability_model.specs.Model.{IsShortRow, all_rows_hold, formula, objective}
use Rattle.proof_lines.specs.declared.line.Line.TheVariants.{Soli}
use Rattle.proof_lines.specs.Texts.{is_spellable_literal}
use Rattle.proof_rules.specs.Held.{HeldAreLive, ModelIsLive, is_held}
use Rattle.proof_rules.specs.Refusals.{Refusal}
use Rattle.proof_rules.specs.States.{IsInOrder, State, after, at_most_row, logged}
use Rattle.proof_rules.proofs.Held.{is_held-keeping}
use Rattle.derivation.specs.Derived.{Derived}
use Rattle.derivation.specs.Ready.{IsReady}
use Rattle.derivation.specs.Steps.{IsWritable, Takes, literal_at, literals_at}
use Rattle.derivation.proofs.Readiness.{model_live-push, row_front, row_last}
use Rattle.derivation.proofs.ShortRows.{made_rows_short}
use Rattle.derivation.proofs.Solutions.{soli_leads}
use Rattle.proof_rules.proofs.HeldLive.{numbered-front}
use Rattle.derivation.proofs.Readiness.{row_numbered}
use Rattle.pb_propagate.specs.Engines.{EngineState}
use Rattle.agreement.specs.Kept.{HoldsBesides}
use Rattle.conflict_cuts.proofs.Analyzed.{below_next}
use Rattle.analysis_tests.specs.Systems.{IsSystem}
use Rattle.analysis_tests.proofs.Holding.{agree_more}

-- ---- its line can be written

abbrev IsNear : ℕ → Type 0
IsNear v = (1 ≤ v) × (v ≤ 100000)

literals_made : (p : Point) (ns : List ℕ) → All IsNear ns → list_all is_spellable_literal (map (literal_at p) ns) ≡ true
literals_made p [] all = refl
literals_made p (v ∷ ns) all =
    let near : IsNear v = all zero v (omega arith) in
    and_from (is_spellable_literal (literal_at p v)) (list_all is_spellable_literal (map (literal_at p) ns))
    (and_from (nat_le 1 v) (nat_le v 4294967295) (le-leb 1 v near.0) (le-leb v 4294967295 (omega (arith, near.1)))) (literals_made p ns (All-tail IsNear v ns all))

literal_short : (neg : Bool) (v : ℕ) → v ≤ 100000 → length (literal_text (record { var = v; neg = neg })) ≤ 12
literal_short true v h = omega (arith, length-decimal-le 10 v (omega arith) (omega arith) (omega arith))
literal_short false v h = omega (arith, length-decimal-le 10 v (omega arith) (omega arith) (omega arith))

literals_short : (p : Point) (ns : List ℕ) → All IsNear ns → length (spaced (map literal_text (map (literal_at p) ns))) ≤ 13 * length ns
literals_short p [] all = omega arith
literals_short p (v ∷ ns) all =
    let near : IsNear v = all zero v (omega arith) in
    omega (arith, literal_short (not (p v)) v near.1, literals_short p ns (All-tail IsNear v ns all), length-append (literal_text (literal_at p v)) (spaced (map literal_text (map (literal_at p) ns))))

pub solution_writable : (n : ℕ) (p : Point) → n ≤ 100000 → IsWritable (Soli (literals_at n p))
solution_writable n p h = record {
  made = literals_made p (numbers_to n) (numbers_to-within n 100000 h);
  small = refl;
  short = omega (arith, h, length-numbers_to n, literals_short p (numbers_to n) (numbers_to-within n 100000 h), length-append (codes "soli" ++ spaced (map literal_text (literals_at n p))) (10 ∷ []));
}

-- ---- what it leaves

same_state : (s t : State) → ◌≡◌ {A = Result State Refusal} (Ok s) (Ok t) → s ≡ t
same_state s t e = cc

-- the row that asks for a better one
abbrev pub better : Lists → Point → PlainRow
better lists p = at_most_row (objective lists) (value_at p (objective lists) -ℤ pos 1)

module _ (lists : Lists) (e : EngineState) (old new : Derived) (n : ℕ) (p : Point) (id : RowNo) (system : IsSystem lists e old) (order : IsInOrder old.state) (count : n ≡ pair_count lists) (holds : all_rows_hold lists p ≡ true) (number : id.0 ≡ old.state.next) (taken : Takes (Soli (literals_at n p)) old new) where
  count_old : n ≡ pair_count old.lists
  count_old = count ∙ ap pair_count system.same

  state_is : new.state ≡ logged (formula old.lists) old.state (value_at p (objective old.lists))
  state_is = same_state new.state (logged (formula old.lists) old.state (value_at p (objective old.lists)))
      (sym taken.step.leads ∙ (ap (λ (k : ℕ). after (formula old.lists) old.state (Soli (literals_at k p))) count_old ∙ soli_leads old.lists old.state p (ap (λ (l : Lists). all_rows_hold l p) (sym system.same) ∙ holds)))

  live_is : new.state.live ≡ old.state.live ++ record { number = old.state.next; row = better old.lists p } ∷ []
  live_is = ap (λ (s : State). s.live) state_is

  pub row_live : row_of id.0 new.state.live ≡ Some (better old.lists p)
  row_live = ap (λ (k : ℕ). row_of k new.state.live) number ∙ (ap (row_of old.state.next) live_is ∙ row_last old.state.next (better old.lists p) old.state.live order)

  besides : HoldsBesides (id.0 ∷ []) old new
  besides = record {
    lists = ap (λ (d : Derived). d.lists) taken.is;
    held = λ k. ap (λ (d : Derived). is_held d.held k) taken.is ∙ (is_held-keeping old.held (old.state.next ∷ []) k ∙ ap (λ (m : ℕ). is_held old.held k || is_in k (m ∷ [])) (sym number));
    rows = λ k row h at. ap (row_of k) live_is ∙ row_front k row old.state.live (record { number = old.state.next; row = better old.lists p } ∷ []) at;
  }

  free : is_held old.held id.0 ≡ false
  free = false_from_ne_true (is_held old.held id.0) (λ h. let below = below_next id.0 old.state.next old.state.live order (system.ready.held_live id.0 h) in omega (arith, below, number))

  held_is : (k : ℕ) → is_held new.held k ≡ (is_held old.held k || is_in k (id.0 ∷ []))
  held_is = besides.held

  last_numbered : is_numbered id.0 new.state.live ≡ true
  last_numbered = row_numbered id.0 (better old.lists p) new.state.live row_live

  held_live : HeldAreLive new.state.live new.held
  held_live k h = elim (or_cases (is_held old.held k) (is_in k (id.0 ∷ [])) (sym (held_is k) ∙ h)) [
    | inl s ↦ ap (is_numbered k) live_is ∙ numbered-front k old.state.live (record { number = old.state.next; row = better old.lists p } ∷ []) (system.ready.held_live k s)
    | inr s ↦ subst (λ (m : ℕ). is_numbered m new.state.live ≡ true) (one_in id.0 k s) last_numbered
  ]
    where
      one_in : (a b : ℕ) → is_in b (a ∷ []) ≡ true → a ≡ b
      one_in a b i = elim (or_cases (a == b) false i) [ inl y ↦ eqb-true a b y | inr y ↦ absurd (true≢false (sym y)) ]

  pub logged_ready : IsReady new
  logged_ready = record {
    unconcluded = ap (λ (d : Derived). d.claim) taken.is ∙ system.ready.unconcluded;
    model_live = subst (λ (l : Lists). ModelIsLive l new.state.live) (sym (ap (λ (d : Derived). d.lists) taken.is))
        (subst (ModelIsLive old.lists) (sym live_is) (model_live-push old.lists old.state.live (record { number = old.state.next; row = better old.lists p } ∷ []) system.ready.model_live));
    held_live = held_live;
  }

  -- the row that is given for its number
  module _ (row : PlainRow) (given : row_of id.0 new.state.live ≡ Some row) (few : pair_count lists ≤ most_pairs) where
    row_is : row ≡ better old.lists p
    row_is = (let there : row_of id.0 new.state.live ≡ Some (better old.lists p) = row_live in cc)

    pub row_short : IsShortRow e.vars row
    row_short =
        subst (λ (n' : ℕ). IsShortRow n' row) (sym (system.agree.vars))
        (subst (IsShortRow (pair_count old.lists)) (sym row_is) (made_rows_short.improvement old.lists p (subst (λ (l : Lists). pair_count l ≤ most_pairs) system.same few)))

    pub logged_system : (f : EngineState) (place : ℕ) → f.vars ≡ e.vars → f.held ≡ e.held ++ record { place = place; row = row; tag = id.0 } ∷ [] → IsSystem lists f new
    logged_system f place vars held = record {
      agree = agree_more e f old new place id.0 row system.agree besides free given row_short.formed vars held;
      ready = logged_ready;
      same = system.same ∙ sym (ap (λ (d : Derived). d.lists) taken.is);
    }
