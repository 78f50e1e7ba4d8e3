-- Texts that are written part by part, one part for each element of a list.
use Rattle.std.proofs.Common.{◌≡◌, ℕ, ◌+◌, ◌<◌, List, [], ◌∷◌, ◌++◌, length, get_or, take, drop, sym, ap, ap₂, subst, ◌∙◌, add-one, take-append-drop}
use Rattle.std.specs.Prelude.{flat_map}
use Rattle.std.proofs.lemmas.List.{append-nil}
use Rattle.std.proofs.lemmas.List.Concat.{flat_map-append}
use Rattle.std.proofs.Math.Seq.{take-suc}
use Rattle.hrt_base.specs.declared.port.Port.{Port}
use Rattle.hrt_base.specs.World.{World}
use Rattle.hrt_base.specs.Calls.{Sent, SentPart}
use Rattle.hrt_base.proofs.Pieces.{sent_more, sent_then_part, part_longer}

next : {A : Type 0} (f : A → List ℕ) (xs : List A) (i : ℕ) (d : A) → i < length xs → flat_map f (take (i + 1) xs) ≡ flat_map f (take i xs) ++ f (get_or xs i d)
next f xs i d inside =
    let more : take (i + 1) xs ≡ take i xs ++ get_or xs i d ∷ [] = rw add-one (take-suc xs i d inside) in
    ap (flat_map f) more ∙ flat_map-append f (take i xs) (get_or xs i d ∷ []) ∙ ap (λ (l : List ℕ). flat_map f (take i xs) ++ l) (append-nil (f (get_or xs i d)))

-- the whole text, cut behind element i
whole : {A : Type 0} (f : A → List ℕ) (xs : List A) (i : ℕ) (d : A) → i < length xs → (flat_map f (take i xs) ++ f (get_or xs i d)) ++ flat_map f (drop (i + 1) xs) ≡ flat_map f xs
whole f xs i d inside =
    ap (λ (l : List ℕ). l ++ flat_map f (drop (i + 1) xs)) (sym (next f xs i d inside))
    ∙ sym (flat_map-append f (take (i + 1) xs) (drop (i + 1) xs)) ∙ ap (flat_map f) (take-append-drop (i + 1) xs)

-- the part of element i was written behind the parts before it
pub part_sent : {A : Type 0} (f : A → List ℕ) (xs : List A) (i : ℕ) (d : A) (told : Type 0) (port : Port) (w v u : World) → i < length xs
    → Sent told port (flat_map f (take i xs)) w v → Sent told port (f (get_or xs i d)) v u → Sent told port (flat_map f (take (i + 1) xs)) w u
part_sent f xs i d told port w v u inside first second =
    subst (λ (l : List ℕ). Sent told port l w u) (sym (next f xs i d inside)) (sent_more told port _ _ w v u first second)

-- and when the writing failed there
pub part_failed : {A : Type 0} (f : A → List ℕ) (xs : List A) (i : ℕ) (d : A) (told : Type 0) (port : Port) (w v u : World) → i < length xs
    → Sent told port (flat_map f (take i xs)) w v → SentPart told port (f (get_or xs i d)) v u → SentPart told port (flat_map f xs) w u
part_failed f xs i d told port w v u inside first second =
    subst (λ (l : List ℕ). SentPart told port l w u) (whole f xs i d inside)
    (part_longer told port _ (flat_map f (drop (i + 1) xs)) w u (sent_then_part told port _ _ w v u first second))

-- ---- texts in other words

pub sent_as : (told : Type 0) (port : Port) (a b : List ℕ) (w u : World) → a ≡ b → Sent told port a w u → Sent told port b w u
sent_as told port a b w u same sent = subst (λ (l : List ℕ). Sent told port l w u) same sent

pub failed_as : (told : Type 0) (port : Port) (a b : List ℕ) (w u : World) → a ≡ b → SentPart told port a w u → SentPart told port b w u
failed_as told port a b w u same part = subst (λ (l : List ℕ). SentPart told port l w u) same part

-- ---- a text in three parts

pub three_sent : (told : Type 0) (port : Port) (a b c : List ℕ) (w v u x : World) → Sent told port a w v → Sent told port b v u → Sent told port c u x → Sent told port (a ++ (b ++ c)) w x
three_sent told port a b c w v u x first second third = sent_more told port a (b ++ c) w v x first (sent_more told port b c v u x second third)

pub second_failed : (told : Type 0) (port : Port) (a b c : List ℕ) (w v u : World) → Sent told port a w v → SentPart told port b v u → SentPart told port (a ++ (b ++ c)) w u
second_failed told port a b c w v u first second = sent_then_part told port a (b ++ c) w v u first (part_longer told port b c v u second)

pub third_failed : (told : Type 0) (port : Port) (a b c : List ℕ) (w v u x : World) → Sent told port a w v → Sent told port b v u → SentPart told port c u x → SentPart told port (a ++ (b ++ c)) w x
third_failed told port a b c w v u x first second third = sent_then_part told port a (b ++ c) w v x first (sent_then_part told port b c v u x second third)

-- ---- pieces

pub two_pieces : (a b s t : List ℕ) → a ≡ s → b ≡ t → a ++ (b ++ []) ≡ s ++ t
two_pieces a b s t e f = ap₂ (λ (x y : List ℕ). x ++ y) e (append-nil b ∙ f)

pub three_pieces : (a b c s t u : List ℕ) → a ≡ s → b ≡ t → c ≡ u → a ++ (b ++ (c ++ [])) ≡ s ++ (t ++ u)
three_pieces a b c s t u e f g = ap₂ (λ (x y : List ℕ). x ++ y) e (two_pieces b c t u f g)

pub five_pieces : (a b c d e s t u v z : List ℕ) → a ≡ s → b ≡ t → c ≡ u → d ≡ v → e ≡ z → a ++ (b ++ (c ++ (d ++ (e ++ [])))) ≡ s ++ (t ++ (u ++ (v ++ z)))
five_pieces a b c d e s t u v z p q r x y = ap₂ (λ (l m : List ℕ). l ++ m) p (ap₂ (λ (l m : List ℕ). l ++ m) q (three_pieces c d e u v z r x y))
