-- Texts that are accepted, by the page that says which are, and texts that are not.
use Rattle.std.proofs.Common.{◌≡◌, ℕ, List, [], ◌∷◌, ◌++◌, refl, sym, ◌∙◌, arith}
use Rattle.std.specs.Prelude.{codes}
use Rattle.hrt_text.specs.Text.{rows}
use Rattle.rank_tables.specs.Instance.{Lists}
use Rattle.hrt_reader.specs.Accepted.{Declaration, MakeInstance, Spells, of_resident, of_hospital, single, tie}
use Rattle.hrt_reader.specs.Refusal.{refusal}
use Rattle.hrt_reader.proofs.Unrefused.{reads_as}
use Rattle.worked_texts.proofs.Texts.{text, at, tied}

-- ---- accepted

abbrev a : List ℕ
a = codes "a"

abbrev b : List ℕ
b = codes "b"

abbrev x : List ℕ
x = codes "x"

abbrev y : List ℕ
y = codes "y"

abbrev one : List ℕ
one = codes "1"

abbrev declared : List Declaration
declared =
    of_resident a (single x ∷ single y ∷ []) ∷ of_resident b (single x ∷ [])
    ∷ of_hospital x one (tie a (b ∷ []) ∷ []) ∷ of_hospital y one (single a ∷ []) ∷ []

make : MakeInstance declared
make = record { lawful = refl; residents_apart = refl; hospitals_apart = refl; few_residents = omega arith; few_hospitals = omega arith }

pub canonical : Spells (text (codes "hrt 1" ∷ codes "resident a: x y" ∷ codes "resident b: x" ∷ codes "hospital x 1: (a b)" ∷ codes "hospital y 1: a" ∷ codes "end" ∷ [])) tied
canonical = record { declarations = declared; spelled = refl; make_instance = make; lists_are = refl }

-- line ends of two bytes, tabs, blank lines, comments, blanks in the tie, and no line feed after `end`
pub loose : Spells (
    13 ∷ 10 ∷ (codes "hrt" ++ 9 ∷ 49 ∷ 13 ∷ 10 ∷ 13 ∷ 10 ∷ (codes "resident" ++ 9 ∷ 97 ∷ 58 ∷ 9 ∷ 120 ∷ 9 ∷ (codes "y # note" ++ 13 ∷ 10 ∷ (codes "resident b: x#note" ++ 13 ∷ 10 ∷
    (codes "hospital x 1: ( a  b )" ++ 13 ∷ 10 ∷ 9 ∷ (codes "hospital" ++ 9 ∷ (codes "y 1" ++ 9 ∷ 58 ∷ 97 ∷ 13 ∷ 10 ∷ codes "end")))))))) tied
loose = record { declarations = declared; spelled = refl; make_instance = make; lists_are = refl }

-- hospitals before residents, a list that names what is declared later, and a tie of one name
abbrev turned : List Declaration
turned =
    of_hospital x one (tie a (b ∷ []) ∷ []) ∷ of_resident a (tie x [] ∷ single y ∷ [])
    ∷ of_hospital y one (single a ∷ []) ∷ of_resident b (single x ∷ []) ∷ []

pub any_order : Spells (text (codes "hrt 1" ∷ codes "hospital x 1: (a b)" ∷ codes "resident a: (x) y" ∷ codes "hospital y 1: a" ∷ codes "resident b: x" ∷ codes "end" ∷ [])) tied
any_order = record {
  declarations = turned;
  spelled = refl;
  make_instance = record { lawful = refl; residents_apart = refl; hospitals_apart = refl; few_residents = omega arith; few_hospitals = omega arith };
  lists_are = refl;
}

abbrev nobody : Lists
nobody = record { residents = []; hospitals = [] }

pub nothing_declared : Spells (text (codes "hrt 1" ∷ codes "end" ∷ codes "# no more" ∷ [])) nobody
nothing_declared = record {
  declarations = [];
  spelled = refl;
  make_instance = record { lawful = refl; residents_apart = refl; hospitals_apart = refl; few_residents = omega arith; few_hospitals = omega arith };
  lists_are = refl;
}

-- ---- not accepted

-- the bytes spell no lists
abbrev SpellsNothing : List ℕ → Type 0
SpellsNothing bytes = (lists : Lists) → Spells bytes lists → ⊥

by_refusal : (bytes : List ℕ) (line kind : ℕ) → refusal (rows bytes) ≡ at line kind → SpellsNothing bytes
by_refusal bytes line kind e lists spells = let none = sym e ∙ (reads_as bytes lists spells).accepted in absurd cc

pub no_bytes : SpellsNothing []
no_bytes = by_refusal _ 1 1 refl

pub no_end : SpellsNothing (text (codes "hrt 1" ∷ codes "resident a:" ∷ []))
no_end = by_refusal _ 2 9 refl

pub more_after_end : SpellsNothing (text (codes "hrt 1" ∷ codes "end" ∷ codes "resident a:" ∷ []))
more_after_end = by_refusal _ 3 10 refl

pub another_header : SpellsNothing (text (codes "hrt 2" ∷ codes "end" ∷ []))
another_header = by_refusal _ 1 1 refl

pub empty_tie : SpellsNothing (text (codes "hrt 1" ∷ codes "resident a: ()" ∷ codes "end" ∷ []))
empty_tie = by_refusal _ 2 8 refl

pub named_twice : SpellsNothing (text (codes "hrt 1" ∷ codes "resident a: x x" ∷ codes "hospital x 1:" ∷ codes "end" ∷ []))
named_twice = by_refusal _ 2 7 refl

pub declared_twice : SpellsNothing (text (codes "hrt 1" ∷ codes "resident a:" ∷ codes "resident a:" ∷ codes "end" ∷ []))
declared_twice = by_refusal _ 3 5 refl

pub unknown : SpellsNothing (text (codes "hrt 1" ∷ codes "resident a: x" ∷ codes "end" ∷ []))
unknown = by_refusal _ 2 6 refl

pub too_many_posts : SpellsNothing (text (codes "hrt 1" ∷ codes "hospital x 20001:" ∷ codes "end" ∷ []))
too_many_posts = by_refusal _ 2 4 refl
