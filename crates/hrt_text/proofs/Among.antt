-- Looking names up by their bytes.
use Rattle.std.proofs.Common.{◌≡◌, ◌||◌, Bool, true, false, cond, List, [], ◌∷◌, position, Some, None, refl, ap, ap₂, sym, ℕ, ◌+◌, nat_lt, not}
use Rattle.std.proofs.lemmas.List.{length-map}
use Rattle.std.specs.List.{list_any, position_or_len}
use Rattle.std.specs.Borrow.{Bor}
use Rattle.std.specs.Str.{bytes_eq}
use Rattle.std.proofs.lemmas.Bool.{false_from_ne_true}
use Rattle.std.proofs.lemmas.Slice.Eq.{bytes_eq-Decides}
use Rattle.rank_tables.specs.Names.{is_among}
use Rattle.hrt_text.specs.Views.{texts}

pub is_among-texts : (name : List ℕ) (ks : List (Bor (List ℕ))) → list_any (λ k. bytes_eq name k.now) ks ≡ is_among name (texts ks)
is_among-texts name [] = refl
is_among-texts name (k ∷ ks) = ap (λ b. bytes_eq name k.now || b) (is_among-texts name ks)

first-texts : (name : List ℕ) (ks : List (Bor (List ℕ))) → position_or_len (λ k. bytes_eq name k.now) ks ≡ position_or_len (bytes_eq name) (texts ks)
first-texts name [] = refl
first-texts name (k ∷ ks) = ap (λ n. cond (not (bytes_eq name k.now)) (1 + n) 0) (first-texts name ks)

pub position-texts : (name : List ℕ) (ks : List (Bor (List ℕ))) → position (λ k. bytes_eq name k.now) ks ≡ position (bytes_eq name) (texts ks)
position-texts name ks =
    ap₂ (λ (i n : ℕ). cond (nat_lt i n) (Some i) None) (first-texts name ks) (sym (length-map ks (λ (k : Bor (List ℕ)). k.now)))

pub not_true : (b : Bool) → not b ≡ true → b ≡ false
not_true true h = absurd cc
not_true false h = refl

pub bytes_eq-same : (a : List ℕ) → bytes_eq a a ≡ true
bytes_eq-same a = (bytes_eq-Decides a a).1 refl

pub bytes_eq-turned : (a b : List ℕ) → bytes_eq a b ≡ false → bytes_eq b a ≡ false
bytes_eq-turned a b h = false_from_ne_true (bytes_eq b a) (λ (e : bytes_eq b a ≡ true). let k = (bytes_eq-Decides a b).1 (sym ((bytes_eq-Decides b a).0 e)) in absurd cc)
