-- Steps are read back from their words.
use Rattle.std.proofs.Common.{◌≡◌, ℕ, ◌-◌, ◌^◌, ◌<◌, ◌≤◌, ℤ, pos, negsuc, Bool, true, false, eqb, List, [], ◌∷◌, ◌++◌, length, Option, Some, None, refl, ap, ap₂, ◌∙◌, arith, if◌then◌else◌}
use Rattle.std.specs.Prelude.{bytes_eq, codes, decimal, flat_map, nat_le, option_map}
use Rattle.std.specs.Fmt.{signed_decimal}
use Rattle.std.specs.List.{list_all}
use Rattle.std.specs.Str.{all_ascii_digits}
use Rattle.std.proofs.lemmas.Bool.{and_from, and_left, and_parts, leb-true}
use Rattle.hrt_base.specs.declared.literal.Lit.{Lit}
use Rattle.hrt_base.specs.declared.numbered.RowNo.{RowNo}
use Rattle.row_text.specs.Numbers.{both, is_small, read_id, read_literal, read_number, read_variable}
use Rattle.row_text.specs.Rows.{literal_text}
use Rattle.row_text.proofs.NumberWords.{Writes, decimal_word, decimal_writes, id_read, literal_read, literal_word, not_first, signed_read, signed_word, variable_read, variable_word}
use Rattle.row_text.proofs.RowBack.{small_abs}
use Rattle.row_text.proofs.Words.{all_words, is_word}
use Rattle.proof_lines.specs.declared.line.PolStep.{PolStep}
use Rattle.proof_lines.specs.declared.line.PolStep.TheVariants.{Id, Axiom, Add, Times, Divide, Saturate, Weaken}
use Rattle.proof_lines.specs.Spelling.{factor, id_or_axiom, is_small_step, read_step, read_steps, row_no}
use Rattle.proof_lines.specs.Steps.{first_step, steps_after}
use Rattle.proof_lines.specs.Texts.{id_text, is_factor, is_spellable_id, is_spellable_literal, is_spellable_step, is_spellable_variable, step_words, variable_text}
use Rattle.proof_lines.proofs.Onto.{before}
use Rattle.proof_lines.proofs.StepByStep.{steps-first}

-- ---- what is made

pub id_made : (r : RowNo) → is_spellable_id r ≡ true → (1 ≤ r.0) × (r.0 ≤ 10 ^ 18 - 1)
id_made r h = let t = and_parts (nat_le 1 r.0) (nat_le r.0 (10 ^ 18 - 1)) h in (leb-true 1 r.0 t.0, leb-true r.0 (10 ^ 18 - 1) t.1)

pub variable_made : (v : ℕ) → is_spellable_variable v ≡ true → (1 ≤ v) × (v ≤ 4294967295)
variable_made v h = let t = and_parts (nat_le 1 v) (nat_le v 4294967295) h in (leb-true 1 v t.0, leb-true v 4294967295 t.1)

pub made_literal_read : (l : Lit) → is_spellable_literal l ≡ true → read_literal (literal_text l) ≡ Some l
made_literal_read l h = let m = variable_made l.var h in literal_read l m.0 m.1

pub made_literal_word : (l : Lit) → is_spellable_literal l ≡ true → is_word (literal_text l) ≡ true
made_literal_word l h = literal_word l (variable_made l.var h).1

pub made_variable_read : (v : ℕ) → is_spellable_variable v ≡ true → read_variable (variable_text v) ≡ Some v
made_variable_read v h = let m = variable_made v h in variable_read v m.0 m.1

pub made_variable_word : (v : ℕ) → is_spellable_variable v ≡ true → is_word (variable_text v) ≡ true
made_variable_word v h = variable_word v (variable_made v h).1

pub made_id_read : (r : RowNo) → is_spellable_id r ≡ true → read_id (id_text r) ≡ Some r.0
made_id_read r h = let m = id_made r h in id_read r.0 m.0 m.1

pub made_id_word : (r : RowNo) → is_spellable_id r ≡ true → is_word (id_text r) ≡ true
made_id_word r h = let m = id_made r h in decimal_word r.0 (omega (arith, m.1))

-- ---- a number is no other word

digit_at_front : (b : ℕ) (ds : List ℕ) → all_ascii_digits (b ∷ ds) ≡ true → (48 ≤ b) × (b ≤ 57)
digit_at_front b ds h =
    let t = and_parts _ (all_ascii_digits ds) h in
    let r = and_parts _ _ t.0 in
    (leb-true _ _ r.0, leb-true _ _ r.1)

digits_not : (n : ℕ) (ds : List ℕ) (c : ℕ) (cs : List ℕ) → Writes n ds → 57 < c → bytes_eq ds (c ∷ cs) ≡ false
digits_not n [] c cs w far = refl
digits_not n (b ∷ ds) c cs w far = let d = digit_at_front b ds w.digits in and_left (eqb b c) (bytes_eq ds cs) (not_first b c (λ e. absurd (omega (arith, d.1))))

digits_not_low : (n : ℕ) (ds : List ℕ) (c : ℕ) (cs : List ℕ) → Writes n ds → c < 48 → bytes_eq ds (c ∷ cs) ≡ false
digits_not_low n [] c cs w far = refl
digits_not_low n (b ∷ ds) c cs w far = let d = digit_at_front b ds w.digits in and_left (eqb b c) (bytes_eq ds cs) (not_first b c (λ e. absurd (omega (arith, d.0))))

pub decimal_not : (n c : ℕ) (cs : List ℕ) → n < 10 ^ 64 → 57 < c → bytes_eq (decimal n) (c ∷ cs) ≡ false
decimal_not n c cs h far = digits_not n (decimal n) c cs (decimal_writes n h) far

pub decimal_not_low : (n c : ℕ) (cs : List ℕ) → n < 10 ^ 64 → c < 48 → bytes_eq (decimal n) (c ∷ cs) ≡ false
decimal_not_low n c cs h far = digits_not_low n (decimal n) c cs (decimal_writes n h) far

-- ---- words that are no operators

-- the tokens don't begin with `*`, `d` or `w`
pub record NoOperator (ts : List (List ℕ)) : Type 0 where
  pub plain : (t : List ℕ) → first_step t ts ≡ read_step t
  pub same : steps_after ts ≡ ts

no_operator_none : NoOperator []
no_operator_none = record { plain = λ t. refl; same = refl }

no_operator_at : (u : List ℕ) (us : List (List ℕ)) → bytes_eq u (codes "*") ≡ false → bytes_eq u (codes "d") ≡ false → bytes_eq u (codes "w") ≡ false → NoOperator (u ∷ us)
no_operator_at u us times divide weaken = record { plain = λ t. rw (times, divide, weaken) refl; same = rw (times, divide, weaken) refl }

no_operator_number : (n : ℕ) (us : List (List ℕ)) → n < 10 ^ 64 → NoOperator (decimal n ∷ us)
no_operator_number n us h = no_operator_at (decimal n) us (decimal_not_low n 42 [] h (omega arith)) (decimal_not n 100 [] h (omega arith)) (decimal_not n 119 [] h (omega arith))

literal_no_operator : (v : ℕ) (neg : Bool) (us : List (List ℕ)) → NoOperator (literal_text (record { var = v; neg = neg }) ∷ us)
literal_no_operator v true us = no_operator_at (literal_text (record { var = v; neg = true })) us refl refl refl
literal_no_operator v false us = no_operator_at (literal_text (record { var = v; neg = false })) us refl refl refl

factor_no_operator : (k : ℤ) (us : List (List ℕ)) → is_factor k ≡ true → is_small k ≡ true → NoOperator (signed_decimal k ∷ us)
factor_no_operator (pos n) us made small = no_operator_number n us (small_abs (pos n) small)
factor_no_operator (negsuc n) us made small = absurd cc

step_no_operator : (step : PolStep) (us : List (List ℕ)) → is_spellable_step step ≡ true → is_small_step step ≡ true → NoOperator (step_words step ++ us)
step_no_operator (Id r) us made small = no_operator_number r.0 us (omega (arith, (id_made r made).1))
step_no_operator (Axiom l) us made small = literal_no_operator l.var l.neg us
step_no_operator Add us made small = no_operator_at (codes "+") us refl refl refl
step_no_operator (Times k) us made small = factor_no_operator k (codes "*" ∷ us) made small
step_no_operator (Divide k) us made small = factor_no_operator k (codes "d" ∷ us) made small
step_no_operator Saturate us made small = no_operator_at (codes "s") us refl refl refl
step_no_operator (Weaken v) us made small = no_operator_at (variable_text v) (codes "w" ∷ us) refl refl refl

steps_no_operator : (steps : List PolStep) → list_all is_spellable_step steps ≡ true → list_all is_small_step steps ≡ true → NoOperator (flat_map step_words steps)
steps_no_operator [] made small = no_operator_none
steps_no_operator (step ∷ steps) made small =
    step_no_operator step (flat_map step_words steps) (and_parts (is_spellable_step step) (list_all is_spellable_step steps) made).0 (and_parts (is_small_step step) (list_all is_small_step steps) small).0

-- ---- one step

id_step : (n : ℕ) → n < 10 ^ 64 → read_id (decimal n) ≡ Some n → read_step (decimal n) ≡ Some (Id (row_no n))
id_step n h e = rw (decimal_not_low n 43 [] h (omega arith), decimal_not n 115 [] h (omega arith), e) refl

abbrev nothing : Option ℕ
nothing = None

none_either : (b : Bool) → (if b then nothing else nothing) ≡ nothing
none_either true = refl
none_either false = refl

axiom_step : (v : ℕ) (neg : Bool) → is_spellable_variable v ≡ true → read_step (literal_text (record { var = v; neg = neg })) ≡ Some (Axiom (record { var = v; neg = neg }))
axiom_step v true made =
    let t : List ℕ = literal_text (record { var = v; neg = true }) in
    ap₂ id_or_axiom (none_either (nat_le (length t) 18)) (made_literal_read (record { var = v; neg = true }) made)
axiom_step v false made =
    let t : List ℕ = literal_text (record { var = v; neg = false }) in
    ap₂ id_or_axiom (none_either (nat_le (length t) 18)) (made_literal_read (record { var = v; neg = false }) made)

factor_at : (n : ℕ) → nat_le 1 n ≡ true → factor (Some (pos n)) ≡ Some (pos n)
factor_at n h = rw h refl

factor_read : (k : ℤ) → is_factor k ≡ true → is_small k ≡ true → factor (read_number (signed_decimal k)) ≡ Some k
factor_read (pos n) made small = ap factor (signed_read (pos n) (small_abs (pos n) small)) ∙ factor_at n made
factor_read (negsuc n) made small = absurd cc

plain_ahead : (t : List ℕ) (step : PolStep) (us : List (List ℕ)) → NoOperator us → read_step t ≡ Some step → read_steps (t ∷ us) ≡ both before (Some step) (read_steps us)
plain_ahead t step us none e = steps-first t us ∙ ap₂ (λ (o : Option PolStep) (vs : List (List ℕ)). both before o (read_steps vs)) (none.plain t ∙ e) none.same

step_ahead : (step : PolStep) (us : List (List ℕ)) → NoOperator us → is_spellable_step step ≡ true → is_small_step step ≡ true → read_steps (step_words step ++ us) ≡ both before (Some step) (read_steps us)
step_ahead (Id r) us none made small = plain_ahead (id_text r) (Id r) us none (id_step r.0 (omega (arith, (id_made r made).1)) (made_id_read r made))
step_ahead (Axiom l) us none made small = plain_ahead (literal_text l) (Axiom l) us none (axiom_step l.var l.neg made)
step_ahead Add us none made small = plain_ahead (codes "+") Add us none refl
step_ahead (Times k) us none made small = steps-first (signed_decimal k) (codes "*" ∷ us) ∙ ap (λ (o : Option ℤ). both before (option_map Times o) (read_steps us)) (factor_read k made small)
step_ahead (Divide k) us none made small = steps-first (signed_decimal k) (codes "d" ∷ us) ∙ ap (λ (o : Option ℤ). both before (option_map Divide o) (read_steps us)) (factor_read k made small)
step_ahead Saturate us none made small = plain_ahead (codes "s") Saturate us none refl
step_ahead (Weaken v) us none made small = steps-first (variable_text v) (codes "w" ∷ us) ∙ ap (λ (o : Option ℕ). both before (option_map Weaken o) (read_steps us)) (made_variable_read v made)

pub steps_back : (steps : List PolStep) → list_all is_spellable_step steps ≡ true → list_all is_small_step steps ≡ true → read_steps (flat_map step_words steps) ≡ Some steps
steps_back [] made small = refl
steps_back (step ∷ steps) made small =
    let m = and_parts (is_spellable_step step) (list_all is_spellable_step steps) made in
    let s = and_parts (is_small_step step) (list_all is_small_step steps) small in
    step_ahead step (flat_map step_words steps) (steps_no_operator steps m.1 s.1) m.0 s.0 ∙ ap (both before (Some step)) (steps_back steps m.1 s.1)

-- ---- its words

step_words_are : (step : PolStep) → is_spellable_step step ≡ true → is_small_step step ≡ true → list_all is_word (step_words step) ≡ true
step_words_are (Id r) made small = and_from (is_word (id_text r)) true (made_id_word r made) refl
step_words_are (Axiom l) made small = and_from (is_word (literal_text l)) true (made_literal_word l made) refl
step_words_are Add made small = refl
step_words_are (Times k) made small = and_from (is_word (signed_decimal k)) true (signed_word k (small_abs k small)) refl
step_words_are (Divide k) made small = and_from (is_word (signed_decimal k)) true (signed_word k (small_abs k small)) refl
step_words_are Saturate made small = refl
step_words_are (Weaken v) made small = and_from (is_word (variable_text v)) true (made_variable_word v made) refl

pub steps_words_are : (steps : List PolStep) → list_all is_spellable_step steps ≡ true → list_all is_small_step steps ≡ true → list_all is_word (flat_map step_words steps) ≡ true
steps_words_are [] made small = refl
steps_words_are (step ∷ steps) made small =
    let m = and_parts (is_spellable_step step) (list_all is_spellable_step steps) made in
    let s = and_parts (is_small_step step) (list_all is_small_step steps) small in
    all_words (step_words step) (flat_map step_words steps) (step_words_are step m.0 s.0) (steps_words_are steps m.1 s.1)
