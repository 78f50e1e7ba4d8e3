-- An agreement follows what leaves it, and grows by rows that both sides hold besides.
use Rattle.std.proofs.Common.{◌≡◌, ℕ, Bool, true, false, ◌==◌, List, [], ◌∷◌, ◌++◌, refl, sym, ap, ◌∙◌, subst, inl, inr}
use Rattle.std.specs.Prelude.{IsTrue}
use Rattle.std.specs.List.{All}
use Rattle.std.proofs.lemmas.Bool.{eq-eqb, eqb-true, or_cases, true≢false}
use Rattle.std.proofs.lemmas.List.{map-append}
use Rattle.std.proofs.lemmas.List.Elements.{All-append, All-cons, All-head, All-nil, All-tail}
use Rattle.rank_tables.specs.Instance.{pair_count}
use Rattle.rank_tables.specs.Numbers.{is_distinct, is_in}
use Rattle.proof_rules.specs.Held.{is_held}
use Rattle.proof_rules.proofs.Held.{is_in-append}
use Rattle.derivation.specs.Derived.{Derived}
use Rattle.row_arena.specs.Held.{Held}
use Rattle.agreement.specs.Agreement.{IsHeldIn, IsLiveIn, tags}
use Rattle.agreement.specs.Kept.{AgreementFollowsDerivations, AgreementFollowsEngines, AgreementGrows, KeepsHeldRows}
use Rattle.agreement.proofs.Numbers.{distinct_append, or_first, or_second}

pub engines_followed : AgreementFollowsEngines
engines_followed e f d agree same = record {
  vars = same.vars ∙ agree.vars;
  rows = subst (All (IsHeldIn d)) (sym same.held) agree.rows;
  once = subst (λ (held : List Held). IsTrue (is_distinct (tags held))) (sym same.held) agree.once;
  all = λ n h. subst (λ (held : List Held). IsTrue (is_in n (tags held))) (sym same.held) (agree.all n h);
}

-- rows that were held are held
still_held : (old new : Derived) → ((n : ℕ) → is_held old.held n ≡ true → is_held new.held n ≡ true) → KeepsHeldRows old new → (held : List Held) → All (IsHeldIn old) held → All (IsHeldIn new) held
still_held old new kept rows [] all = All-nil (IsHeldIn new)
still_held old new kept rows (h ∷ held) all =
    let one : IsHeldIn old h = All-head (IsHeldIn old) h held all in
    All-cons (IsHeldIn new) h held (record { held = kept h.tag one.held; row = record { live = rows h.tag h.row one.held one.row.live; formed = one.row.formed } }) (still_held old new kept rows held (All-tail (IsHeldIn old) h held all))

pub derivations_followed : AgreementFollowsDerivations
derivations_followed e old new agree left = record {
  vars = agree.vars ∙ sym (ap pair_count left.lists);
  rows = still_held old new (λ n h. ap (λ held. is_held held n) left.held ∙ h) left.rows e.held agree.rows;
  once = agree.once;
  all = λ n h. agree.all n (sym (ap (λ held. is_held held n) left.held) ∙ h);
}

-- rows that are live and whose numbers are held are held
now_held : (d : Derived) (held : List Held) → ((n : ℕ) → is_in n (tags held) ≡ true → is_held d.held n ≡ true) → All (IsLiveIn d) held → All (IsHeldIn d) held
now_held d [] kept live = All-nil (IsHeldIn d)
now_held d (h ∷ held) kept live =
    All-cons (IsHeldIn d) h held (record { held = kept h.tag (or_first (h.tag == h.tag) (is_in h.tag (tags held)) (eq-eqb h.tag h.tag refl)); row = All-head (IsLiveIn d) h held live })
    (now_held d held (λ n i. kept n (or_second (h.tag == n) (is_in n (tags held)) i)) (All-tail (IsLiveIn d) h held live))

-- a number that isn't held is none of theirs
not_among : (test : ℕ → Bool) (numbers : List ℕ) → All (λ n. test n ≡ false) numbers → (n : ℕ) → test n ≡ true → is_in n numbers ≡ true → ⊥
not_among test [] all n h i = absurd (cc)
not_among test (k ∷ numbers) all n h i = elim (or_cases (k == n) (is_in n numbers) i) [
  | inl s ↦ true≢false (sym h ∙ ap test (sym (eqb-true k n s)) ∙ All-head (λ (j : ℕ). test j ≡ false) k numbers all)
  | inr s ↦ not_among test numbers (All-tail (λ (j : ℕ). test j ≡ false) k numbers all) n h s
]

-- each number of these rows is held
tags_held : (d : Derived) (held : List Held) → All (IsHeldIn d) held → (n : ℕ) → is_in n (tags held) ≡ true → is_held d.held n ≡ true
tags_held d [] all n i = absurd (cc)
tags_held d (h ∷ held) all n i = elim (or_cases (h.tag == n) (is_in n (tags held)) i) [
  | inl s ↦ let one : IsHeldIn d h = All-head (IsHeldIn d) h held all in subst (λ (k : ℕ). is_held d.held k ≡ true) (eqb-true h.tag n s) one.held
  | inr s ↦ tags_held d held (All-tail (IsHeldIn d) h held all) n s
]

pub grown : AgreementGrows
grown e f old new added numbers agree besides fresh more = record {
  vars = more.vars ∙ agree.vars ∙ sym (ap pair_count besides.lists);
  rows = subst (All (IsHeldIn new)) (sym more.held) (All-append (IsHeldIn new) e.held added
      (still_held old new (λ n h. besides.held n ∙ or_first (is_held old.held n) (is_in n numbers) h) besides.rows e.held agree.rows)
      (now_held new added (λ n i. besides.held n ∙ or_second (is_held old.held n) (is_in n numbers) (ap (is_in n) (sym fresh.tags_are) ∙ i)) fresh.live));
  once = ap is_distinct tags_now ∙ distinct_append (tags e.held) numbers agree.once fresh.distinct (λ n i j. not_among (is_held old.held) numbers fresh.not_held n (tags_held old e.held agree.rows n i) j);
  all = λ n i. ap (is_in n) tags_now ∙ is_in-append n (tags e.held) numbers ∙ elim (or_cases (is_held old.held n) (is_in n numbers) (sym (besides.held n) ∙ i)) [
    | inl s ↦ or_first (is_in n (tags e.held)) (is_in n numbers) (agree.all n s)
    | inr s ↦ or_second (is_in n (tags e.held)) (is_in n numbers) s
  ];
}
  where
    tags_now : tags f.held ≡ tags e.held ++ numbers
    tags_now = ap tags more.held ∙ map-append (λ (h : Held). h.tag) e.held added ∙ ap (λ (ns : List ℕ). tags e.held ++ ns) fresh.tags_are
