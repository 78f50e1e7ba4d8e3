-- Lines whose numbers fit can be written.
use Rattle.std.proofs.Common.{◌≡◌, ℕ, ◌+◌, ◌-◌, ◌*◌, ◌<◌, ◌≤◌, ◌^◌, Bool, true, ◌&&◌, ◌==◌, List, [], ◌∷◌, ◌++◌, map, nat_le, length, pos, refl, ap, arith}
use Rattle.std.specs.Prelude.{Some, flat_map, codes, decimal}
use Rattle.std.specs.List.{list_all}
use Rattle.std.proofs.lemmas.Bool.{and_from, and_parts, eq-eqb, le-leb, or_left, or_right}
use Rattle.std.proofs.lemmas.Fmt.{length-decimal-le, length-decimal-le_wide}
use Rattle.std.proofs.lemmas.List.{length-append}
use Rattle.std.proofs.lemmas.List.Concat.{flat_map-append}
use Rattle.hrt_base.specs.declared.numbered.RowNo.{RowNo}
use Rattle.pb_rows.specs.Terms.{PlainRow}
use Rattle.pb_rows.specs.Formula.{NumberedRow, row_of}
use Rattle.rank_tables.specs.Numbers.{is_in}
use Rattle.row_text.specs.Tokens.{spaced}
use Rattle.row_text.proofs.RowWords.{spaced_append}
use Rattle.proof_lines.specs.declared.line.PolStep.{PolStep}
use Rattle.proof_lines.specs.declared.line.PolStep.TheVariants.{Id, Times, Divide, Saturate, Weaken, Add}
use Rattle.proof_lines.specs.declared.line.Line.TheVariants.{Del, Pol}
use Rattle.proof_lines.specs.Spelling.{is_small_step}
use Rattle.proof_lines.specs.Texts.{id_text, is_nonempty_and_all, is_spellable_id, is_spellable_step, step_words}
use Rattle.proof_rules.specs.Held.{row_numbers}
use Rattle.proof_rules.specs.States.{AreNumbered}
use Rattle.proof_rules.proofs.Numbers.{live_within}
use Rattle.derivation.specs.Steps.{IsWritable}

-- ---- steps

-- the steps can be written in so many bytes
pub record AreGood (steps : List PolStep) (most : ℕ) : Type 0 where
  pub made : list_all is_spellable_step steps ≡ true
  pub small : list_all is_small_step steps ≡ true
  pub short : length (spaced (flat_map step_words steps)) ≤ most

all_append : (test : PolStep → Bool) (xs ys : List PolStep) → list_all test xs ≡ true → list_all test ys ≡ true → list_all test (xs ++ ys) ≡ true
all_append test [] ys h k = k
all_append test (x ∷ xs) ys h k = let p = and_parts (test x) (list_all test xs) h in and_from (test x) (list_all test (xs ++ ys)) p.0 (all_append test xs ys p.1 k)

pub good_append : (xs ys : List PolStep) (a b : ℕ) → AreGood xs a → AreGood ys b → AreGood (xs ++ ys) (a + b)
good_append xs ys a b h k = record {
  made = all_append is_spellable_step xs ys h.made k.made;
  small = all_append is_small_step xs ys h.small k.small;
  short = omega (
    arith,
    h.short,
    k.short,
    ap (λ (ws : List (List ℕ)). length (spaced ws)) (flat_map-append step_words xs ys),
    ap length (spaced_append (flat_map step_words xs) (flat_map step_words ys)),
    length-append (spaced (flat_map step_words xs)) (spaced (flat_map step_words ys)),
  );
}

pub good_less : (steps : List PolStep) (a b : ℕ) → a ≤ b → AreGood steps a → AreGood steps b
good_less steps a b l h = record { made = h.made; small = h.small; short = omega (arith, h.short) }

pub none_good : (a : ℕ) → AreGood [] a
none_good a = record { made = refl; small = refl; short = omega arith }

pub add_good : AreGood (Add ∷ []) 2
add_good = record { made = refl; small = refl; short = omega arith }

pub saturate_good : AreGood (Saturate ∷ []) 2
saturate_good = record { made = refl; small = refl; short = omega arith }

pub id_good : (id : RowNo) → 1 ≤ id.0 → id.0 < 10 ^ 18 → AreGood (Id id ∷ []) 19
id_good id h k = record {
  made = and_from (nat_le 1 id.0 && nat_le id.0 (10 ^ 18 - 1)) true (and_from (nat_le 1 id.0) (nat_le id.0 (10 ^ 18 - 1)) (le-leb 1 id.0 h) (le-leb id.0 (10 ^ 18 - 1) (omega arith))) refl;
  small = refl;
  short = omega (arith, length-append (decimal id.0) [], length-decimal-le 18 id.0 (omega arith) k (omega arith));
}

pub times_good : (c : ℕ) → 1 ≤ c → c ≤ 20000 → AreGood (Times (pos c) ∷ []) 8
times_good c h k = record {
  made = and_from (nat_le 1 c) true (le-leb 1 c h) refl;
  small = and_from (nat_le c (2 ^ 120)) true (le-leb c (2 ^ 120) (omega arith)) refl;
  short = omega (arith, length-append (decimal c) (32 ∷ codes "*" ++ []), length-decimal-le 5 c (omega arith) (omega arith) (omega arith));
}

pub divide_good : (c : ℕ) → 1 ≤ c → c ≤ 2 ^ 120 → AreGood (Divide (pos c) ∷ []) 40
divide_good c h k = record {
  made = and_from (nat_le 1 c) true (le-leb 1 c h) refl;
  small = and_from (nat_le c (2 ^ 120)) true (le-leb c (2 ^ 120) k) refl;
  short = omega (arith, length-append (decimal c) (32 ∷ codes "d" ++ []), length-decimal-le_wide 37 c (omega arith) (omega arith) (omega arith));
}

pub weaken_good : (v : ℕ) → 1 ≤ v → v ≤ 100000 → AreGood (Weaken v ∷ []) 10
weaken_good v h k = record {
  made = and_from (nat_le 1 v && nat_le v 4294967295) true (and_from (nat_le 1 v) (nat_le v 4294967295) (le-leb 1 v h) (le-leb v 4294967295 (omega arith))) refl;
  small = refl;
  short = omega (arith, length-append (decimal v) (32 ∷ codes "w" ++ []), length-decimal-le 6 v (omega arith) (omega arith) (omega arith));
}

-- a live row has a number that can be written
pub live_good : (live : List NumberedRow) (next : ℕ) → AreNumbered 1 next live → next ≤ 10 ^ 18 → (id : RowNo) (row : PlainRow) → row_of id.0 live ≡ Some row → AreGood (Id id ∷ []) 19
live_good live next order few id row e = let place = live_within id.0 next row live order e in id_good id place.0 (omega (arith, place.1))

pub good_writable : (step : PolStep) (steps : List PolStep) (most : ℕ) → AreGood (step ∷ steps) most → most ≤ 16000000 → IsWritable (Pol (step ∷ steps))
good_writable step steps most h l = record {
  made = h.made;
  small = h.small;
  short = omega (arith, h.short, length-append (codes "pol" ++ spaced (flat_map step_words (step ∷ steps))) (10 ∷ []), length-append (codes "pol") (spaced (flat_map step_words (step ∷ steps))));
}

-- ---- rows that are deleted

ids_made : (ids : List RowNo) → ((n : ℕ) → is_in n (row_numbers ids) ≡ true → (1 ≤ n) × (n < 10 ^ 18)) → list_all is_spellable_id ids ≡ true
ids_made [] h = refl
ids_made (x ∷ ids) h =
    let here = h x.0 (or_left (x.0 == x.0) (is_in x.0 (row_numbers ids)) (eq-eqb x.0 x.0 refl)) in
    and_from (is_spellable_id x) (list_all is_spellable_id ids) (and_from (nat_le 1 x.0) (nat_le x.0 (10 ^ 18 - 1)) (le-leb 1 x.0 here.0) (le-leb x.0 (10 ^ 18 - 1) (omega (arith, here.1))))
    (ids_made ids (λ n i. h n (or_right (x.0 == n) (is_in n (row_numbers ids)) i)))

ids_short : (ids : List RowNo) → ((n : ℕ) → is_in n (row_numbers ids) ≡ true → (1 ≤ n) × (n < 10 ^ 18)) → length (spaced (map id_text ids)) ≤ 19 * length ids
ids_short [] h = omega arith
ids_short (x ∷ ids) h =
    let here = h x.0 (or_left (x.0 == x.0) (is_in x.0 (row_numbers ids)) (eq-eqb x.0 x.0 refl)) in
    let rest = ids_short ids (λ n i. h n (or_right (x.0 == n) (is_in n (row_numbers ids)) i)) in
    omega (arith, rest, length-append (decimal x.0) (spaced (map id_text ids)), length-decimal-le 18 x.0 (omega arith) here.1 (omega (arith, here.1)))

some_made : (ids : List RowNo) → 0 < length ids → list_all is_spellable_id ids ≡ true → is_nonempty_and_all is_spellable_id ids ≡ true
some_made [] l h = absurd (omega arith)
some_made (x ∷ ids) l h = h

pub del_writable : (ids : List RowNo) → 0 < length ids → length ids ≤ 100000 → ((n : ℕ) → is_in n (row_numbers ids) ≡ true → (1 ≤ n) × (n < 10 ^ 18)) → IsWritable (Del ids)
del_writable ids some few h = record {
  made = some_made ids some (ids_made ids h);
  small = refl;
  short = omega (arith, ids_short ids h, few, length-append (codes "del" ++ 32 ∷ (codes "id" ++ spaced (map id_text ids))) (10 ∷ []));
}
