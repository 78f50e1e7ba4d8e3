-- The point of a matching: it satisfies the model, and its line can be written.
use Rattle.std.proofs.Common.{◌≡◌, ℕ, zero, ◌≤◌, ◌==◌, Bool, true, false, not, ◌||◌, cond, nat_le, List, [], ◌∷◌, ◌++◌, length, length-append, map, filter, refl, sym, ap, ap₂, ◌∙◌, subst, arith}
use Rattle.std.specs.Prelude.{codes, ◌*◌}
use Rattle.std.specs.List.{All, list_all}
use Rattle.std.proofs.lemmas.Bool.{and_from, and_parts, eq-eqb, le-leb, leb-true, or_left, or_right}
use Rattle.std.proofs.lemmas.Fmt.{length-decimal-le}
use Rattle.std.proofs.lemmas.List.{length-map}
use Rattle.std.proofs.lemmas.List.Elements.{All-tail}
use Rattle.hrt_base.specs.declared.numbered.PairNo.{PairNo}
use Rattle.pb_rows.specs.Points.{Point, point_of, value_at}
use Rattle.rank_tables.specs.Numbers.{is_in, numbers_to}
use Rattle.rank_tables.specs.Instance.{Lists, pair_count}
use Rattle.rank_tables.specs.Stability.{is_weakly_stable}
use Rattle.rank_tables.specs.Tables.{numbers_of}
use Rattle.rank_tables.proofs.Below.{length-numbers_to, numbers_to-within}
use Rattle.rank_tables.proofs.Membership.{Matching, in_order_length, in_order_stable, stable_parts}
use Rattle.rank_tables.proofs.Numbers.{is_in-numbers_to}
use Rattle.row_text.specs.Rows.{literal_text}
use Rattle.row_text.specs.Tokens.{spaced}
use Rattle.stability_model.specs.Model.{all_rows_hold, objective, pairs_of_point}
use Rattle.stability_model.proofs.ModelExact.{ModelExact, ObjectiveExact}
use Rattle.proof_lines.specs.declared.line.Line.TheVariants.{Soli}
use Rattle.proof_lines.specs.Texts.{is_spellable_literal}
use Rattle.derivation.specs.Steps.{IsWritable, literal_at, literals_at}
use Rattle.matching_log.specs.Logged.{value_of}
use Rattle.matching_log.specs.Logged.{IsPointOf}

-- ---- one pair after another

or_none : (b : Bool) → (b || false) ≡ (false || b)
or_none true = refl
or_none false = refl

or_apart : (a b c : Bool) → (a || (b || c)) ≡ ((a || b) || c)
or_apart true b c = refl
or_apart false b c = refl

in_more : (v : ℕ) (done : List PairNo) (p : PairNo) → is_in v (numbers_of (done ++ p ∷ [])) ≡ (is_in v (numbers_of done) || (p.0 == v))
in_more v [] p = or_none (p.0 == v)
in_more v (q ∷ done) p = ap (λ (b : Bool). (q.0 == v) || b) (in_more v done p) ∙ or_apart (q.0 == v) (is_in v (numbers_of done)) (p.0 == v)

-- ---- it satisfies the model

pub filter_alike : (p q : ℕ → Bool) (xs : List ℕ) → ((x : ℕ) → is_in x xs ≡ true → p x ≡ q x) → filter p xs ≡ filter q xs
filter_alike p q [] h = refl
filter_alike p q (x ∷ xs) h =
    ap₂ (λ (b : Bool) (rest : List ℕ). cond b (x ∷ rest) rest) (h x (or_left (x == x) (is_in x xs) (eq-eqb x x refl))) (filter_alike p q xs (λ y i. h y (or_right (x == y) (is_in y xs) i)))

module _ (lists : Lists) (pairs : List PairNo) (bits : List Bool) (is : IsPointOf (pair_count lists) pairs bits) (stable : is_weakly_stable lists (numbers_of pairs) ≡ true) where
  parts : Matching lists (numbers_of pairs)
  parts = stable_parts lists (numbers_of pairs) stable

  pairs_same : pairs_of_point lists (point_of bits) ≡ filter (λ p. is_in p (numbers_of pairs)) (numbers_to (pair_count lists))
  pairs_same = filter_alike (point_of bits) (λ p. is_in p (numbers_of pairs)) (numbers_to (pair_count lists)) (λ v i.
      let range = and_parts (nat_le 1 v) (nat_le v (pair_count lists)) (sym (is_in-numbers_to (pair_count lists) v) ∙ i) in
      is v (leb-true 1 v range.0) (leb-true v (pair_count lists) range.1))

  pub point_solves : all_rows_hold lists (point_of bits) ≡ true
  point_solves = ModelExact lists (point_of bits) ∙ ap (is_weakly_stable lists) pairs_same ∙ in_order_stable lists (numbers_of pairs) parts.distinct parts.in_range ∙ stable

  pub point_value : value_at (point_of bits) (objective lists) ≡ value_of (length pairs)
  point_value =
      ObjectiveExact lists (point_of bits) ∙ ap (λ (ps : List ℕ). value_of (length ps)) pairs_same
      ∙ ap value_of (in_order_length lists (numbers_of pairs) parts.distinct parts.in_range ∙ length-map pairs (λ p. p.0))

-- ---- its line can be written

abbrev IsNear : ℕ → Type 0
IsNear v = (1 ≤ v) × (v ≤ 100000)

literals_made : (p : Point) (ns : List ℕ) → All IsNear ns → list_all is_spellable_literal (map (literal_at p) ns) ≡ true
literals_made p [] all = refl
literals_made p (v ∷ ns) all =
    let near : IsNear v = all zero v (omega arith) in
    and_from (is_spellable_literal (literal_at p v)) (list_all is_spellable_literal (map (literal_at p) ns))
    (and_from (nat_le 1 v) (nat_le v 4294967295) (le-leb 1 v near.0) (le-leb v 4294967295 (omega (arith, near.1)))) (literals_made p ns (All-tail IsNear v ns all))

literal_short : (neg : Bool) (v : ℕ) → v ≤ 100000 → length (literal_text (record { var = v; neg = neg })) ≤ 12
literal_short true v h = omega (arith, length-decimal-le 10 v (omega arith) (omega arith) (omega arith))
literal_short false v h = omega (arith, length-decimal-le 10 v (omega arith) (omega arith) (omega arith))

literals_short : (p : Point) (ns : List ℕ) → All IsNear ns → length (spaced (map literal_text (map (literal_at p) ns))) ≤ 13 * length ns
literals_short p [] all = omega arith
literals_short p (v ∷ ns) all =
    let near : IsNear v = all zero v (omega arith) in
    omega (arith, literal_short (not (p v)) v near.1, literals_short p ns (All-tail IsNear v ns all), length-append (literal_text (literal_at p v)) (spaced (map literal_text (map (literal_at p) ns))))

pub solution_writable : (n : ℕ) (p : Point) → n ≤ 100000 → IsWritable (Soli (literals_at n p))
solution_writable n p h = record {
  made = literals_made p (numbers_to n) (numbers_to-within n 100000 h);
  small = refl;
  short = omega (arith, h, length-numbers_to n, literals_short p (numbers_to n) (numbers_to-within n 100000 h), length-append (codes "soli" ++ spaced (map literal_text (literals_at n p))) (10 ∷ []));
}

-- ---- the same, as it is seen

pub point_as : (lists : Lists) (pairs : List PairNo) (items bits : List Bool) (n : ℕ) → bits ≡ items → n ≡ pair_count lists → IsPointOf n pairs items → IsPointOf (pair_count lists) pairs bits
point_as lists pairs items bits n bits_are n_is is = subst (IsPointOf (pair_count lists) pairs) (sym bits_are) (subst (λ (k : ℕ). IsPointOf k pairs items) n_is is)
