-- The definitions of a text of pairs, computed on texts worked by hand. The instance is `tied`: its pairs are a x, a y and b x.
use Rattle.std.specs.Prelude.{◌≡◌, ℕ, List, [], ◌∷◌, ◌++◌, Option, refl, codes}
use Rattle.hrt_text.specs.Text.{rows}
use Rattle.hrt_reader.specs.Refusal.{Refusal}
use Rattle.hrt_reader.specs.PairsText.{pairs_refusal, pairs_spelling, SpellsPairs}
use Rattle.worked_texts.proofs.Texts.{text, at, tied}

abbrev refused : List (List ℕ) → Option Refusal
refused lines = pairs_refusal tied (rows (text lines))

pub spelled : pairs_spelling tied (2 ∷ 3 ∷ []) ≡ text (codes "pair a y" ∷ codes "pair b x" ∷ [])
spelled = refl

pub written_order : SpellsPairs tied (text (codes "pair b x" ∷ codes "pair a x" ∷ [])) (3 ∷ 1 ∷ [])
written_order = record { accepted = refl; says = refl }

-- no pair, and none but blank lines
pub no_bytes : SpellsPairs tied [] []
no_bytes = record { accepted = refl; says = refl }

pub blank_lines : SpellsPairs tied (text (codes "" ∷ codes "# none" ∷ [])) []
blank_lines = record { accepted = refl; says = refl }

-- a tab, a comment behind a name, a line end of two bytes, and no line feed at the end
pub loose : SpellsPairs tied (9 ∷ (codes "pair a y#first" ++ 13 ∷ 10 ∷ 13 ∷ 10 ∷ codes "pair  b x ")) (2 ∷ 3 ∷ [])
loose = record { accepted = refl; says = refl }

pub one_name : refused (codes "pair a x" ∷ codes "pair a" ∷ []) ≡ at 2 1
one_name = refl

pub three_names : refused (codes "pair a x y" ∷ []) ≡ at 1 1
three_names = refl

pub colon : refused (codes "pair a: x" ∷ []) ≡ at 1 1
colon = refl

pub other_word : refused (codes "pairs a x" ∷ []) ≡ at 1 1
other_word = refl

pub unknown_resident : refused (codes "pair c x" ∷ []) ≡ at 1 2
unknown_resident = refl

-- the sides have name spaces of their own
pub other_side : refused (codes "pair x a" ∷ []) ≡ at 1 2
other_side = refl

-- a word that is no name isn't declared either, and a return in the middle of a line is a byte of a word
pub no_name : refused ((codes "pair a" ++ 1 ∷ codes " x") ∷ []) ≡ at 1 2
no_name = refl

pub lone_return : refused ((codes "pair a x" ++ 13 ∷ codes " ") ∷ []) ≡ at 1 2
lone_return = refl

pub not_acceptable : refused (codes "pair b y" ∷ []) ≡ at 1 3
not_acceptable = refl

pub repeated : refused (codes "pair a x" ∷ codes "pair b x" ∷ codes "" ∷ codes "pair a x" ∷ []) ≡ at 4 4
repeated = refl

-- the least line, and not the least number
pub least_line : refused (codes "pair a x" ∷ codes "pair a x" ∷ codes "pair" ∷ []) ≡ at 2 4
least_line = refl
