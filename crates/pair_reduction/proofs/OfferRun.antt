-- What the steps of an offer's line leave on the stack: its row, and no row on the way is too big.
use Rattle.std.proofs.Common.{◌≡◌, ℕ, zero, suc, ◌*◌, ◌<◌, ◌≤◌, ◌^◌, Bool, true, false, not, ◌&&◌, ◌||◌, ◌==◌, List, [], ◌∷◌, ◌++◌, if◌then◌else◌, ℤ, pos, negsuc, neg_ℤ, ◌+ℤ◌, refl, sym, ap, ◌∙◌, inl, inr, arith, append_assoc}
use Rattle.std.specs.Prelude.{flat_map, Option, Some, Result, Ok, Err}
use Rattle.std.specs.Int.RustNames.{unsigned_abs}
use Rattle.std.proofs.lemmas.Int.{ints}
use Rattle.std.proofs.lemmas.Bool.{and_parts, cases_Bool, eq-eqb, eqb-true, ne_eqb, true≢false, or_left, or_right, not-true}
use Rattle.hrt_base.specs.declared.numbered.RowNo.{RowNo}
use Rattle.pb_rows.specs.Terms.{PlainRow, coef_sum}
use Rattle.pb_rows.specs.Normal.{negative_part, net_term}
use Rattle.pb_rows.specs.Rows.{add, times}
use Rattle.pb_rows.specs.Formula.{NumberedRow, row_of}
use Rattle.pb_rows.proofs.Coefs.{HasNets, add-coefs, coef_row, coef_terms, minus_sum}
use Rattle.pb_rows.proofs.Order.{coef_sum-append}
use Rattle.rank_tables.specs.Numbers.{is_distinct, is_in}
use Rattle.proof_lines.specs.declared.line.PolStep.{PolStep}
use Rattle.proof_lines.specs.declared.line.PolStep.TheVariants.{Id, Times, Add}
use Rattle.proof_rules.specs.Refusals.{Refusal, TooBig, and_then}
use Rattle.proof_rules.specs.Pol.{fits, run_steps}
use Rattle.proof_rules.proofs.Fits.{fits_true}
use Rattle.derivation.specs.Deletions.{Deletions, unit_row_no, unit_row}
use Rattle.pair_reduction.specs.Offers.{unit_steps}

-- ---- one unit row

-- the coefficient of one variable is taken to 0
abbrev pub cleared_at : ℕ → (ℕ → ℤ) → ℕ → ℤ
cleared_at p s v = if v == p then pos 0 else s v

minus_at : (e : Bool) (z w : ℤ) (k : ℕ) → (e ≡ true → z ≡ pos k) → w ≡ (if e then neg_ℤ (pos k) else pos 0) → z +ℤ w ≡ (if e then pos 0 else z)
minus_at true z w k h e = let f : z ≡ pos k = h refl in omega (arith, ints)
minus_at false z w k h e = omega (arith, ints)

unit_net : (e : Bool) (k : ℕ) → (if e then neg_ℤ (pos (1 * k)) else pos 0) +ℤ pos 0 ≡ (if e then neg_ℤ (pos k) else pos 0)
unit_net true k = let f : 1 * k ≡ k = omega arith in rw f (omega (arith, ints))
unit_net false k = refl

eqb_turned : (x y : ℕ) → (x == y) ≡ (y == x)
eqb_turned x y = elim (cases_Bool (y == x)) [
  | inl e ↦ eq-eqb x y (sym (eqb-true y x e)) ∙ sym e
  | inr e ↦ ne_eqb x y (λ f. true≢false (sym (eq-eqb y x (sym f)) ∙ e)) ∙ sym e
]

units-nets : (n p k : ℕ) → p < n → HasNets n (λ v. if v == p then neg_ℤ (pos k) else pos 0) k (times k (unit_row p)).terms
units-nets n p k h = record {
  bound = omega arith;
  nets = λ v l. unit_net (p == v) k ∙ ap (λ (b : Bool). if b then neg_ℤ (pos k) else pos 0) (eqb_turned p v);
  opposites = omega (arith, ints);
}

positive_left : (b : Bool) (z : ℤ) → negative_part z ≡ 0 → negative_part (if b then pos 0 else z) ≡ 0
positive_left true z h = refl
positive_left false z h = h

none_minus : (n : ℕ) (s : ℕ → ℤ) → ((v : ℕ) → negative_part (s v) ≡ 0) → minus_sum n s ≡ 0
none_minus zero s h = refl
none_minus (suc n) s h = omega (arith, none_minus n s h, h n)

pub unit_added : (n c p : ℕ) (s : ℕ → ℤ) → p < n → s p ≡ pos c → ((v : ℕ) → negative_part (s v) ≡ 0) → add (coef_row n s c) (times c (unit_row p)) ≡ coef_row n (cleared_at p s) c
unit_added n c p s h e none =
    add-coefs n s (λ v. if v == p then neg_ℤ (pos c) else pos 0) (cleared_at p s) c (1 * c) c c (coef_row n s c) (times c (unit_row p)) refl (units-nets n p c h) refl
    (λ v l. minus_at (v == p) (s v) (if v == p then neg_ℤ (pos c) else pos 0) c (λ f. ap s (eqb-true v p f) ∙ e) refl)
    (omega (arith, none_minus n s none, none_minus n (cleared_at p s) (λ v. positive_left (v == p) (s v) (none v))))

-- what the pairs that count leave
abbrev pub cleared : (ℕ → Bool) → List ℕ → (ℕ → ℤ) → ℕ → ℤ
cleared counted [] s = s
cleared counted (p ∷ ps) s = cleared counted ps (if counted p then cleared_at p s else s)

-- ---- sizes

-- no coefficient is above 20,001, whatever its sign
abbrev pub AreSmall : (ℕ → ℤ) → Type 0
AreSmall s = (v : ℕ) → unsigned_abs (s v) ≤ 20001

term_size : (v : ℕ) (z : ℤ) → coef_sum (net_term v z) ≤ unsigned_abs z
term_size v (pos zero) = omega arith
term_size v (pos (suc a)) = omega arith
term_size v (negsuc a) = omega arith

part_size : (z : ℤ) → negative_part z ≤ unsigned_abs z
part_size (pos a) = omega arith
part_size (negsuc a) = omega arith

small_sum : (n : ℕ) (s : ℕ → ℤ) → AreSmall s → coef_sum (coef_terms n s) ≤ 20001 * n
small_sum zero s h = omega arith
small_sum (suc n) s h = omega (arith, coef_sum-append (coef_terms n s) (net_term n (s n)), term_size n (s n), small_sum n s h, h n)

pub small_minus : (n : ℕ) (s : ℕ → ℤ) → AreSmall s → minus_sum n s ≤ 20001 * n
small_minus zero s h = omega arith
small_minus (suc n) s h = omega (arith, part_size (s n), small_minus n s h, h n)

pub small_fits : (n d : ℕ) (s : ℕ → ℤ) → n ≤ 100001 → d ≤ 2 ^ 120 → AreSmall s → fits (coef_row n s d) ≡ true
small_fits n d s few degree h = fits_true (coef_row n s d) (record { sum = omega (arith, small_sum n s h, few); degree = degree })

unit_fits : (c p : ℕ) → c ≤ 20000 → fits (times c (unit_row p)) ≡ true
unit_fits c p most = fits_true (times c (unit_row p)) (record { sum = omega (arith, most); degree = omega (arith, most) })

small_left : (b : Bool) (z : ℤ) → unsigned_abs z ≤ 20001 → unsigned_abs (if b then pos 0 else z) ≤ 20001
small_left true z h = omega arith
small_left false z h = h

-- ---- the stack

pub pushed : (b : Bool) (row : PlainRow) (stack : List PlainRow) (next : List PlainRow → Result (List PlainRow) Refusal) → b ≡ true → and_then (if b then Ok (row ∷ stack) else Err TooBig) next ≡ next (row ∷ stack)
pushed b row stack next e = rw e refl

module _ (vars : ℕ) (live : List NumberedRow) where
  -- a live row goes on the stack
  pub id_run : (id : RowNo) (row : PlainRow) (steps : List PolStep) (stack : List PlainRow) → row_of id.0 live ≡ Some row → run_steps vars live (Id id ∷ steps) stack ≡ run_steps vars live steps (row ∷ stack)
  id_run id row steps stack e = rw e refl

  -- the posts times a unit row are added
  pub unit_run : (n c p : ℕ) (s : ℕ → ℤ) (id : RowNo) (steps : List PolStep) → n ≤ 100001 → c ≤ 20000 → AreSmall s → row_of id.0 live ≡ Some (unit_row p) → p < n → s p ≡ pos c → ((v : ℕ) → negative_part (s v) ≡ 0) →
      run_steps vars live (Id id ∷ Times (pos c) ∷ Add ∷ steps) (coef_row n s c ∷ []) ≡ run_steps vars live steps (coef_row n (cleared_at p s) c ∷ [])
  unit_run n c p s id steps small most are e h at none =
      let sum : PlainRow = add (coef_row n s c) (times c (unit_row p)) in
      let is : sum ≡ coef_row n (cleared_at p s) c = unit_added n c p s h at none in
      let fit : fits sum ≡ true = ap fits is ∙ small_fits n c (cleared_at p s) small (omega (arith, most)) (λ v. small_left (v == p) (s v) (are v)) in
      let first : run_steps vars live (Id id ∷ Times (pos c) ∷ Add ∷ steps) (coef_row n s c ∷ []) ≡ run_steps vars live (Times (pos c) ∷ Add ∷ steps) (unit_row p ∷ coef_row n s c ∷ []) =
      id_run id (unit_row p) (Times (pos c) ∷ Add ∷ steps) (coef_row n s c ∷ []) e in
      let second : run_steps vars live (Times (pos c) ∷ Add ∷ steps) (unit_row p ∷ coef_row n s c ∷ []) ≡ run_steps vars live (Add ∷ steps) (times c (unit_row p) ∷ coef_row n s c ∷ []) =
      pushed (fits (times c (unit_row p))) (times c (unit_row p)) (coef_row n s c ∷ []) (λ next. run_steps vars live (Add ∷ steps) next) (unit_fits c p most) in
      let third : run_steps vars live (Add ∷ steps) (times c (unit_row p) ∷ coef_row n s c ∷ []) ≡ run_steps vars live steps (add (coef_row n s c) (times c (unit_row p)) ∷ []) =
      pushed (fits (add (coef_row n s c) (times c (unit_row p)))) (add (coef_row n s c) (times c (unit_row p))) [] (λ next. run_steps vars live steps next) fit in
      first ∙ second ∙ third ∙ ap (λ (row : PlainRow). run_steps vars live steps (row ∷ [])) is

  -- ---- one pair after another

  abbrev pub steps_if : (ℕ → Bool) → ℕ → Deletions → ℕ → List PolStep
  steps_if counted c deletions p = if counted p then unit_steps c (unit_row_no deletions p) else []

  -- a pair that counts is deleted, its unit row is live, and its coefficient is c
  pub record Clears (n c : ℕ) (deletions : Deletions) (s : ℕ → ℤ) (p : ℕ) : Type 0 where
    pub id : RowNo
    pub unit : unit_row_no deletions p ≡ Some id
    pub row : row_of id.0 live ≡ Some (unit_row p)
    pub within : p < n
    pub coef : s p ≡ pos c

  module _ (n c : ℕ) (small : n ≤ 100001) (most : c ≤ 20000) (deletions : Deletions) (counted : ℕ → Bool) where
    one_run : (p : ℕ) (b : Bool) (s : ℕ → ℤ) (steps : List PolStep) → (b ≡ true → Clears n c deletions s p) → AreSmall s → ((v : ℕ) → negative_part (s v) ≡ 0) →
        run_steps vars live ((if b then unit_steps c (unit_row_no deletions p) else []) ++ steps) (coef_row n s c ∷ []) ≡ run_steps vars live steps (coef_row n (if b then cleared_at p s else s) c ∷ [])
    one_run p false s steps h are none = refl
    one_run p true s steps h are none =
        let k = h refl in
        ap (λ (o : Option RowNo). run_steps vars live (unit_steps c o ++ steps) (coef_row n s c ∷ [])) k.unit ∙ unit_run n c p s k.id steps small most are k.row k.within k.coef none

    still_small : (b : Bool) (p v : ℕ) (s : ℕ → ℤ) → unsigned_abs (s v) ≤ 20001 → unsigned_abs ((if b then cleared_at p s else s) v) ≤ 20001
    still_small true p v s h = small_left (v == p) (s v) h
    still_small false p v s h = h

    still_none : (b : Bool) (p v : ℕ) (s : ℕ → ℤ) → negative_part (s v) ≡ 0 → negative_part ((if b then cleared_at p s else s) v) ≡ 0
    still_none true p v s h = positive_left (v == p) (s v) h
    still_none false p v s h = h

    kept_coef : (b : Bool) (p q : ℕ) (s : ℕ → ℤ) → (q ≡ p → ⊥) → (if b then cleared_at p s else s) q ≡ s q
    kept_coef true p q s other = ap (λ (e : Bool). if e then pos 0 else s q) (ne_eqb q p other)
    kept_coef false p q s other = refl

    still_clears : (b : Bool) (p q : ℕ) (s : ℕ → ℤ) → (q ≡ p → ⊥) → Clears n c deletions s q → Clears n c deletions (if b then cleared_at p s else s) q
    still_clears b p q s other k = record { id = k.id; unit = k.unit; row = k.row; within = k.within; coef = kept_coef b p q s other ∙ k.coef }

    pub all_run : (ps : List ℕ) (s : ℕ → ℤ) (steps : List PolStep) → is_distinct ps ≡ true → ((p : ℕ) → is_in p ps ≡ true → counted p ≡ true → Clears n c deletions s p) → AreSmall s → ((v : ℕ) → negative_part (s v) ≡ 0) →
        run_steps vars live (flat_map (steps_if counted c deletions) ps ++ steps) (coef_row n s c ∷ []) ≡ run_steps vars live steps (coef_row n (cleared counted ps s) c ∷ [])
    all_run [] s steps d h are none = refl
    all_run (p ∷ ps) s steps d h are none =
        let parts = and_parts (not (is_in p ps)) (is_distinct ps) d in
        ap (λ (all : List PolStep). run_steps vars live all (coef_row n s c ∷ [])) (append_assoc (steps_if counted c deletions p) (flat_map (steps_if counted c deletions) ps) steps)
        ∙ one_run p (counted p) s (flat_map (steps_if counted c deletions) ps ++ steps) (h p (or_left (p == p) (is_in p ps) (eq-eqb p p refl))) are none
        ∙ all_run ps (if counted p then cleared_at p s else s) steps parts.1
        (λ q i k. still_clears (counted p) p q s (λ e. true≢false (sym (ap (λ (z : ℕ). is_in z ps) (sym e) ∙ i) ∙ not-true (is_in p ps) parts.0)) (h q (or_right (p == q) (is_in q ps) i) k))
        (λ v. still_small (counted p) p v s (are v)) (λ v. still_none (counted p) p v s (none v))

-- ---- what is left

next_at : (b : Bool) (p v : ℕ) (s : ℕ → ℤ) → (if b then cleared_at p s else s) v ≡ (if b && (v == p) then pos 0 else s v)
next_at true p v s = refl
next_at false p v s = refl

closing : (i k b e : Bool) (z : ℤ) → (e ≡ true → k ≡ b) → (if i && k then pos 0 else (if b && e then pos 0 else z)) ≡ (if (e || i) && k then pos 0 else z)
closing i k true false z h = refl
closing i k false false z h = refl
closing true true true true z h = refl
closing false true true true z h = refl
closing i true false true z h = absurd (true≢false (h refl))
closing i false true true z h = absurd (true≢false (sym (h refl)))
closing true false false true z h = refl
closing false false false true z h = refl

pub cleared-is : (counted : ℕ → Bool) (ps : List ℕ) (s : ℕ → ℤ) (v : ℕ) → cleared counted ps s v ≡ (if is_in v ps && counted v then pos 0 else s v)
cleared-is counted [] s v = refl
cleared-is counted (p ∷ ps) s v =
    cleared-is counted ps (if counted p then cleared_at p s else s) v
    ∙ ap (λ (z : ℤ). if is_in v ps && counted v then pos 0 else z) (next_at (counted p) p v s ∙ ap (λ (b : Bool). if counted p && b then pos 0 else s v) (eqb_turned v p))
    ∙ closing (is_in v ps) (counted v) (counted p) (p == v) (s v) (λ e. ap counted (sym (eqb-true p v e)))
