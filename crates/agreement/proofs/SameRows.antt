-- What is so of the engine's rows is so of the held ones, and the other way round.
use Rattle.std.proofs.Common.{◌≡◌, ℕ, ◌+◌, ◌<◌, ◌==◌, Bool, true, false, cond, if◌then◌else◌, List, [], ◌∷◌, filter, refl, sym, ap, ◌∙◌, subst, inl, inr, arith}
use Rattle.std.specs.Prelude.{Some}
use Rattle.std.specs.List.{All, Contains}
use Rattle.std.proofs.lemmas.Bool.{eq-eqb, eqb-true, ne_eqb, or_cases}
use Rattle.std.proofs.lemmas.List.Elements.{All-contains_itself, All-cons, All-head, All-nil, All-tail}
use Rattle.pb_rows.specs.Terms.{PlainRow}
use Rattle.pb_rows.specs.Formula.{NumberedRow, row_of, rows_of}
use Rattle.rank_tables.specs.Numbers.{is_in}
use Rattle.proof_rules.specs.States.{AreNumbered}
use Rattle.proof_rules.specs.Held.{held_rows, is_held}
use Rattle.derivation.specs.Derived.{Derived}
use Rattle.row_arena.specs.Held.{Held, held_rows as rows_of_engine}
use Rattle.pb_propagate.specs.Engines.{EngineState}
use Rattle.agreement.specs.Agreement.{Agree, AgreeingHoldSame, IsHeldIn, tags}

-- a number of one of the engine's rows
pub tag_row : (P : PlainRow → Type 0) (d : Derived) (n : ℕ) (row : PlainRow) (held : List Held) → All (IsHeldIn d) held → All (λ (h : Held). P h.row) held → is_in n (tags held) ≡ true → row_of n d.state.live ≡ Some row → P row
tag_row P d n row [] known all i e = absurd (cc)
tag_row P d n row (h ∷ held) known all i e = elim (or_cases (h.tag == n) (is_in n (tags held)) i) [
  | inl s ↦
      let one : IsHeldIn d h = All-head (IsHeldIn d) h held known in
      let same : Some h.row ≡ Some row = sym one.row.live ∙ ap (λ (k : ℕ). row_of k d.state.live) (eqb-true h.tag n s) ∙ e in
      let is : h.row ≡ row = cc in
      subst P is (All-head (λ (k : Held). P k.row) h held all)
  | inr s ↦ tag_row P d n row held (All-tail (IsHeldIn d) h held known) (All-tail (λ (k : Held). P k.row) h held all) s e
]

-- each live row is that of its number
abbrev pub OwnNumbers : List NumberedRow → List NumberedRow → Type 0
OwnNumbers live entries = All (λ (entry : NumberedRow). row_of entry.number live ≡ Some entry.row) entries

chosen_step : (P : PlainRow → Type 0) (b : Bool) (entry : NumberedRow) (rest : List NumberedRow) → (b ≡ true → P entry.row) → All P (rows_of rest) → All P (rows_of (cond b (entry ∷ rest) rest))
chosen_step P true entry rest h k = All-cons P entry.row (rows_of rest) (h refl) k
chosen_step P false entry rest h k = k

held_from : (P : PlainRow → Type 0) (e : EngineState) (d : Derived) (entries : List NumberedRow) → Agree e d → All (λ (h : Held). P h.row) e.held → OwnNumbers d.state.live entries → All P (held_rows entries d.held)
held_from P e d [] agree all own = All-nil P
held_from P e d (entry ∷ entries) agree all own =
    chosen_step P (is_held d.held entry.number) entry (filter (λ x. is_held d.held x.number) entries)
    (λ i. tag_row P d entry.number entry.row e.held agree.rows all (agree.all entry.number i) (All-head (λ (x : NumberedRow). row_of x.number d.state.live ≡ Some x.row) entry entries own))
    (held_from P e d entries agree all (All-tail (λ (x : NumberedRow). row_of x.number d.state.live ≡ Some x.row) entry entries own))

-- ---- numbers that rise

-- a number below all of them is none of theirs
other_number : (n low high : ℕ) (entries : List NumberedRow) → n < low → AreNumbered low high entries → All (λ (x : NumberedRow). x.number ≡ n → ⊥) entries
other_number n low high [] less order = All-nil (λ (x : NumberedRow). x.number ≡ n → ⊥)
other_number n low high (entry ∷ entries) less order =
    All-cons (λ (x : NumberedRow). x.number ≡ n → ⊥) entry entries (λ e. let from = order.0 in omega (arith, e, from, less))
    (other_number n (entry.number + 1) high entries (let from = order.0 in omega (arith, from, less)) order.1)

own_behind : (front : NumberedRow) (live entries : List NumberedRow) → All (λ (x : NumberedRow). x.number ≡ front.number → ⊥) entries → OwnNumbers live entries → OwnNumbers (front ∷ live) entries
own_behind front live [] other own = All-nil (λ (x : NumberedRow). row_of x.number (front ∷ live) ≡ Some x.row)
own_behind front live (entry ∷ entries) other own =
    let differs : front.number ≡ entry.number → ⊥ = λ e. All-head (λ (x : NumberedRow). x.number ≡ front.number → ⊥) entry entries other (sym e) in
    All-cons (λ (x : NumberedRow). row_of x.number (front ∷ live) ≡ Some x.row) entry entries
    (ap (λ (b : Bool). if b then Some front.row else row_of entry.number live) (ne_eqb front.number entry.number differs) ∙ All-head (λ (x : NumberedRow). row_of x.number live ≡ Some x.row) entry entries own)
    (own_behind front live entries (All-tail (λ (x : NumberedRow). x.number ≡ front.number → ⊥) entry entries other) (All-tail (λ (x : NumberedRow). row_of x.number live ≡ Some x.row) entry entries own))

own_here : (entry : NumberedRow) (live : List NumberedRow) (b : Bool) → b ≡ true → (if b then Some entry.row else row_of entry.number live) ≡ Some entry.row
own_here entry live true h = refl
own_here entry live false h = absurd (cc)

pub own_numbers : (low high : ℕ) (live : List NumberedRow) → AreNumbered low high live → OwnNumbers live live
own_numbers low high [] order = All-nil (λ (x : NumberedRow). row_of x.number [] ≡ Some x.row)
own_numbers low high (entry ∷ live) order =
    All-cons (λ (x : NumberedRow). row_of x.number (entry ∷ live) ≡ Some x.row) entry live (own_here entry live (entry.number == entry.number) (eq-eqb entry.number entry.number refl))
    (own_behind entry live live (other_number entry.number (entry.number + 1) high live (omega arith) order.1) (own_numbers (entry.number + 1) high live order.1))

-- what is so of each of the engine's rows is so of each held one
pub held_all : (P : PlainRow → Type 0) (e : EngineState) (d : Derived) → Agree e d → AreNumbered 1 d.state.next d.state.live → All (λ (h : Held). P h.row) e.held → All P (held_rows d.state.live d.held)
held_all P e d agree order all = held_from P e d d.state.live agree all (own_numbers 1 d.state.next d.state.live order)

-- ---- back

found_step : (P : PlainRow → Type 0) (test : Bool) (here : Bool) (entry : NumberedRow) (rest kept : List NumberedRow) (row : PlainRow) (n : ℕ) → (entry.number == n) ≡ here → (here ≡ true → test ≡ true) →
    (row_of n rest ≡ Some row → All P (rows_of kept) → P row) → (if here then Some entry.row else row_of n rest) ≡ Some row → All P (rows_of (cond test (entry ∷ kept) kept)) → P row
found_step P true true entry rest kept row n e f more at all = let is : entry.row ≡ row = cc in subst P is (All-head P entry.row (rows_of kept) all)
found_step P false true entry rest kept row n e f more at all = absurd (cc (f refl))
found_step P true false entry rest kept row n e f more at all = more at (All-tail P entry.row (rows_of kept) all)
found_step P false false entry rest kept row n e f more at all = more at all

-- the live row of a held number is among the held rows
pub held_row : (P : PlainRow → Type 0) (held : ℕ → Bool) (n : ℕ) (row : PlainRow) (entries : List NumberedRow) → held n ≡ true → row_of n entries ≡ Some row → All P (rows_of (filter (λ x. held x.number) entries)) → P row
held_row P held n row [] h e all = absurd (cc)
held_row P held n row (entry ∷ entries) h e all =
    found_step P (held entry.number) (entry.number == n) entry entries (filter (λ x. held x.number) entries) row n refl (λ s. ap held (eqb-true entry.number n s) ∙ h)
    (λ at more. held_row P held n row entries h at more) e all

engine_from : (P : PlainRow → Type 0) (d : Derived) (held : List Held) → All (IsHeldIn d) held → All P (held_rows d.state.live d.held) → All P (rows_of_engine held)
engine_from P d [] known all = All-nil P
engine_from P d (h ∷ held) known all =
    let one : IsHeldIn d h = All-head (IsHeldIn d) h held known in
    All-cons P h.row (rows_of_engine held) (held_row P (is_held d.held) h.tag h.row d.state.live one.held one.row.live all) (engine_from P d held (All-tail (IsHeldIn d) h held known) all)

rows_itself : (held : List Held) → All (λ (h : Held). Contains (rows_of_engine held) h.row) held
rows_itself held = by (Contains (rows_of_engine held)) held (All-contains_itself (rows_of_engine held))
  where
    by : (P : PlainRow → Type 0) → (hs : List Held) → All P (rows_of_engine hs) → All (λ (h : Held). P h.row) hs
    by P [] all = All-nil (λ (h : Held). P h.row)
    by P (h ∷ hs) all = All-cons (λ (k : Held). P k.row) h hs (All-head P h.row (rows_of_engine hs) all) (by P hs (All-tail P h.row (rows_of_engine hs) all))

pub same_rows : AgreeingHoldSame
same_rows e d agree order = record {
  there = engine_from (Contains (held_rows d.state.live d.held)) d e.held agree.rows (All-contains_itself (held_rows d.state.live d.held));
  back = held_all (Contains (rows_of_engine e.held)) e d agree order (rows_itself e.held);
}
