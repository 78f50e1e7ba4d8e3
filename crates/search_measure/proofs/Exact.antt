-- A trail that is exact below the engine's level, read as levels.
use Rattle.std.proofs.Common.{◌≡◌, ℕ, zero, suc, ◌+◌, ◌<◌, ◌≤◌, Bool, true, false, if◌then◌else◌, List, [], ◌∷◌, ◌++◌, length, take, refl, sym, ap, ◌∙◌, subst, arith}
use Rattle.std.specs.Prelude.{Some, slice_get}
use Rattle.std.proofs.lemmas.List.{append_assoc, append-nil, length-append}
use Rattle.hrt_base.specs.declared.literal.Lit.{Lit}
use Rattle.pb_rows.specs.Terms.{PlainRow}
use Rattle.pb_rows.specs.Closure.{IsClosure, among}
use Rattle.pb_propagate.specs.Entries.{Entry, decisions_of, is_decision, level_of, lits_of, set_of, up_to}
use Rattle.pb_propagate.specs.Tables.{starts_from}
use Rattle.search_measure.proofs.Levels.{AreLevels}
use Rattle.search_measure.proofs.Shapes.{level-decision, level-other, starts-decision, starts-other, up-other, up-suc, up-zero}

-- the literals before, and the one behind them
take-before : (before rest : List Entry) → take (length before) (lits_of (before ++ rest)) ≡ lits_of before
take-before [] rest = refl
take-before (e ∷ before) rest = ap (λ (l : List Lit). e.lit ∷ l) (take-before before rest)

get-behind : (before rest : List Entry) (e : Entry) → slice_get (lits_of (before ++ e ∷ rest)) (length before) ≡ Some e.lit
get-behind [] rest e = refl
get-behind (b ∷ before) rest e = get-behind before rest e

-- the entries up to each level as high as k are the closure of their decisions, where other entries are before them
abbrev AreExact : List PlainRow → List Entry → List Entry → ℕ → Type 0
AreExact rows before rest k = (j : ℕ) → j ≤ k → IsClosure rows (among (decisions_of (before ++ up_to j rest))) (set_of (before ++ up_to j rest))

decisions-append : (xs ys : List Entry) → decisions_of (xs ++ ys) ≡ decisions_of xs ++ decisions_of ys
decisions-append [] ys = refl
decisions-append (e ∷ xs) ys = by (is_decision e) (decisions-append xs ys)
  where
    by : (b : Bool) → decisions_of (xs ++ ys) ≡ decisions_of xs ++ decisions_of ys → (if b then e.lit ∷ decisions_of (xs ++ ys) else decisions_of (xs ++ ys)) ≡ (if b then e.lit ∷ decisions_of xs else decisions_of xs) ++ decisions_of ys
    by true h = ap (λ (l : List Lit). e.lit ∷ l) h
    by false h = h

-- the levels of the entries up to level k, from these entries on
abbrev FromHere : List PlainRow → List Lit → List Entry → List Entry → ℕ → Type 0
FromHere rows trail before rest k = AreLevels rows trail (decisions_of before) (decisions_of (up_to k rest)) (starts_from (length before) (up_to k rest)) (length before + length (up_to k rest))

moved : (rows : List PlainRow) (trail trail' a a' b : List Lit) (c c' : List ℕ) (n n' : ℕ) → trail ≡ trail' → a ≡ a' → c ≡ c' → n ≡ n' → AreLevels rows trail a b c n → AreLevels rows trail' a' b c' n'
moved rows trail trail' a a' b c c' n n' et ea ec en h =
    subst (λ (t : List Lit). AreLevels rows t a' b c' n') et (subst (λ (x : List Lit). AreLevels rows trail x b c' n') ea (subst (λ (x : List ℕ). AreLevels rows trail a b x n') ec (subst (AreLevels rows trail a b c) en h)))

-- the entries up to level k, as an equation
abbrev At : List PlainRow → List Lit → List Entry → List Entry → Type 0
At rows trail before up = AreLevels rows trail (decisions_of before) (decisions_of up) (starts_from (length before) up) (length before + length up)

decisions-one : (before : List Entry) (e : Entry) → is_decision e ≡ true → decisions_of (before ++ e ∷ []) ≡ decisions_of before ++ e.lit ∷ []
decisions-one before e d = decisions-append before (e ∷ []) ∙ ap (λ (l : List Lit). decisions_of before ++ l) (rw d refl)

decisions-none : (before : List Entry) (e : Entry) → is_decision e ≡ false → decisions_of (before ++ e ∷ []) ≡ decisions_of before
decisions-none before e d = decisions-append before (e ∷ []) ∙ ap (λ (l : List Lit). decisions_of before ++ l) (rw d refl) ∙ append-nil (decisions_of before)

length-one : (before : List Entry) (e : Entry) → length (before ++ e ∷ []) ≡ length before + 1
length-one before e = length-append before (e ∷ [])

-- the closure of the entries before
closed_here : (rows : List PlainRow) (before rest : List Entry) (e : Entry) → is_decision e ≡ true → IsClosure rows (among (decisions_of (before ++ up_to 0 (e ∷ rest)))) (set_of (before ++ up_to 0 (e ∷ rest))) →
    IsClosure rows (among (decisions_of before)) (among (take (length before) (lits_of (before ++ e ∷ rest))))
closed_here rows before rest e d c =
    let none : before ++ up_to 0 (e ∷ rest) ≡ before = ap (λ (l : List Entry). before ++ l) (up-zero e rest d) ∙ append-nil before in
    subst (λ (l : List Lit). IsClosure rows (among (decisions_of before)) (among l)) (sym (take-before before (e ∷ rest)))
    (subst (λ (l : List Entry). IsClosure rows (among (decisions_of l)) (set_of l)) none c)

levels-scan : (rows : List PlainRow) (before rest : List Entry) (k : ℕ) → k < level_of rest → AreExact rows before rest k → At rows (lits_of (before ++ rest)) before (up_to k rest)
levels-scan rows before [] k h x = absurd (omega arith)
levels-scan rows before (e ∷ rest) k h x = by (is_decision e) refl k h x (λ j. levels-scan rows (before ++ e ∷ []) rest j)
  where
    grouped : lits_of ((before ++ e ∷ []) ++ rest) ≡ lits_of (before ++ e ∷ rest)
    grouped = ap lits_of (append_assoc before (e ∷ []) rest)

    Rest : Type 0
    Rest = (j : ℕ) → j < level_of rest → AreExact rows (before ++ e ∷ []) rest j → At rows (lits_of ((before ++ e ∷ []) ++ rest)) (before ++ e ∷ []) (up_to j rest)

    next_exact : (i j : ℕ) → up_to i (e ∷ rest) ≡ e ∷ up_to j rest → IsClosure rows (among (decisions_of (before ++ up_to i (e ∷ rest)))) (set_of (before ++ up_to i (e ∷ rest))) →
        IsClosure rows (among (decisions_of ((before ++ e ∷ []) ++ up_to j rest))) (set_of ((before ++ e ∷ []) ++ up_to j rest))
    next_exact i j u c = subst (λ (l : List Entry). IsClosure rows (among (decisions_of l)) (set_of l)) (ap (λ (l : List Entry). before ++ l) u ∙ sym (append_assoc before (e ∷ []) (up_to j rest))) c

    starts_here : (up : List Entry) → starts_from (length (before ++ e ∷ [])) up ≡ starts_from (length before + 1) up
    starts_here up = ap (λ (n : ℕ). starts_from n up) (length-one before e)

    ends_here : (up : List Entry) → length (before ++ e ∷ []) + length up ≡ length before + suc (length up)
    ends_here up = omega (arith, length-one before e)

    by : (b : Bool) → is_decision e ≡ b → (k : ℕ) → k < level_of (e ∷ rest) → AreExact rows before (e ∷ rest) k → Rest → At rows (lits_of (before ++ e ∷ rest)) before (up_to k (e ∷ rest))
    by true d zero h x rec =
        subst (At rows (lits_of (before ++ e ∷ rest)) before) (sym (up-zero e rest d))
        (let ends : length before ≡ length before + 0 = omega arith in
        subst (λ (n : ℕ). IsClosure rows (among (decisions_of before)) (among (take n (lits_of (before ++ e ∷ rest))))) ends (closed_here rows before rest e d (x 0 (omega arith))))
    by true d (suc k) h x rec =
        subst (At rows (lits_of (before ++ e ∷ rest)) before) (sym (up-suc k e rest d))
        (subst (λ (ds : List Lit). AreLevels rows (lits_of (before ++ e ∷ rest)) (decisions_of before) ds (starts_from (length before) (e ∷ up_to k rest)) (length before + suc (length (up_to k rest)))) (sym (decisions-step (up_to k rest) d))
        (subst (λ (ss : List ℕ). AreLevels rows (lits_of (before ++ e ∷ rest)) (decisions_of before) (e.lit ∷ decisions_of (up_to k rest)) ss (length before + suc (length (up_to k rest)))) (sym (starts-decision (length before) e (up_to k rest) d)) (
          closed_here rows before rest e d (x 0 (omega arith)),
          get-behind before rest e,
          moved rows (lits_of ((before ++ e ∷ []) ++ rest)) (lits_of (before ++ e ∷ rest)) (decisions_of (before ++ e ∷ [])) (decisions_of before ++ e.lit ∷ []) (decisions_of (up_to k rest))
              (starts_from (length (before ++ e ∷ [])) (up_to k rest)) (starts_from (length before + 1) (up_to k rest)) (length (before ++ e ∷ []) + length (up_to k rest)) (length before + suc (length (up_to k rest)))
              grouped (decisions-one before e d) (starts_here (up_to k rest)) (ends_here (up_to k rest))
              (rec k (omega (arith, level-decision e rest d)) (λ j i. next_exact (suc j) j (up-suc j e rest d) (x (suc j) (omega arith)))),
        )))
      where
        decisions-step : (up : List Entry) → is_decision e ≡ true → decisions_of (e ∷ up) ≡ e.lit ∷ decisions_of up
        decisions-step up d = rw d refl
    by false d k h x rec =
        subst (At rows (lits_of (before ++ e ∷ rest)) before) (sym (up-other k e rest d))
        (subst (λ (ds : List Lit). AreLevels rows (lits_of (before ++ e ∷ rest)) (decisions_of before) ds (starts_from (length before) (e ∷ up_to k rest)) (length before + suc (length (up_to k rest)))) (sym (decisions-skip (up_to k rest) d))
        (subst (λ (ss : List ℕ). AreLevels rows (lits_of (before ++ e ∷ rest)) (decisions_of before) (decisions_of (up_to k rest)) ss (length before + suc (length (up_to k rest)))) (sym (starts-other (length before) e (up_to k rest) d))
        (moved rows (lits_of ((before ++ e ∷ []) ++ rest)) (lits_of (before ++ e ∷ rest)) (decisions_of (before ++ e ∷ [])) (decisions_of before) (decisions_of (up_to k rest))
        (starts_from (length (before ++ e ∷ [])) (up_to k rest)) (starts_from (length before + 1) (up_to k rest)) (length (before ++ e ∷ []) + length (up_to k rest)) (length before + suc (length (up_to k rest)))
        grouped (decisions-none before e d) (starts_here (up_to k rest)) (ends_here (up_to k rest))
        (rec k (omega (arith, level-other e rest d)) (λ j i. next_exact j j (up-other j e rest d) (x j i))))))
      where
        decisions-skip : (up : List Entry) → is_decision e ≡ false → decisions_of (e ∷ up) ≡ decisions_of up
        decisions-skip up d = rw d refl

-- the levels of an exact trail up to one below the last
pub levels-exact : (rows : List PlainRow) (trail : List Entry) (k : ℕ) → k < level_of trail → ((j : ℕ) → j ≤ k → IsClosure rows (among (decisions_of (up_to j trail))) (set_of (up_to j trail))) →
    AreLevels rows (lits_of trail) [] (decisions_of (up_to k trail)) (starts_from 0 (up_to k trail)) (length (up_to k trail))
levels-exact rows trail k h x =
    let ends : 0 + length (up_to k trail) ≡ length (up_to k trail) = omega arith in
    subst (AreLevels rows (lits_of trail) [] (decisions_of (up_to k trail)) (starts_from 0 (up_to k trail))) ends (levels-scan rows [] trail k h x)
