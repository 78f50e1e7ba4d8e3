-- Tokens before a colon, read one by one, and a line feed at the end.
use Rattle.std.proofs.Common.{◌≡◌, ℕ, zero, suc, false, eqb, List, [], ◌∷◌, ◌++◌, length, get_or, take, Some, refl, ap, arith}
use Rattle.std.specs.Prelude.{option_map}
use Rattle.std.proofs.lemmas.List.{append-nil}
use Rattle.std.proofs.lemmas.Bool.Decides.{nat_tests}
use Rattle.proof_lines.specs.Notes.{Front, without_feed}

abbrev pub with_items : {A : Type 0} → List A → Front A → Front A
with_items xs front = record { items = xs ++ front.items; behind = front.behind }

pub items_end : {A : Type 0} (xs : List A) (behind : List (List ℕ)) → option_map (with_items xs) (Some (record { items = []; behind = behind })) ≡ Some (record { items = xs; behind = behind })
items_end {A} xs behind = ap (λ (ys : List A). Some (record { items = ys; behind = behind })) (append-nil xs)

-- ---- a line feed at the end

pub feed_dropped : (line : List ℕ) (n : ℕ) → length line ≡ suc n → get_or line n 0 ≡ 10 → without_feed line ≡ take n line
feed_dropped [] n len is = absurd (omega arith)
feed_dropped (b ∷ []) zero len is = rw is refl
feed_dropped (b ∷ []) (suc n) len is = absurd (omega arith)
feed_dropped (b ∷ c ∷ line) zero len is = absurd (omega arith)
feed_dropped (b ∷ c ∷ line) (suc n) len is = ap (λ (l : List ℕ). b ∷ l) (feed_dropped (c ∷ line) n (omega arith) is)

pub no_feed : (line : List ℕ) (n : ℕ) → length line ≡ suc n → (get_or line n 0 ≡ 10 → ⊥) → without_feed line ≡ line
no_feed [] n len is = refl
no_feed (b ∷ []) zero len is = let other : eqb b 10 ≡ false = grind (arith, nat_tests) in rw other refl
no_feed (b ∷ []) (suc n) len is = absurd (omega arith)
no_feed (b ∷ c ∷ line) zero len is = absurd (omega arith)
no_feed (b ∷ c ∷ line) (suc n) len is = ap (λ (l : List ℕ). b ∷ l) (no_feed (c ∷ line) n (omega arith) is)

pub no_feed_nil : (line : List ℕ) → length line ≡ 0 → without_feed line ≡ line
no_feed_nil [] len = refl
no_feed_nil (b ∷ line) len = absurd (omega arith)
