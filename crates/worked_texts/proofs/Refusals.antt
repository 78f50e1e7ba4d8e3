-- Which kinds stand in texts of instances.
use Rattle.std.specs.Prelude.{◌≡◌, true, false, [], ◌∷◌, ◌++◌, replicate, None, refl, codes}
use Rattle.std.specs.Fmt.{digits}
use Rattle.hrt_text.specs.Text.{rows, tokens, colon, opening, closing, word}
use Rattle.hrt_text.specs.Grammar.{form_of}
use Rattle.hrt_reader.specs.Refusal.{refusal, lists_of_rows, has_kind, too_many_residents, too_many_hospitals}
use Rattle.hrt_reader.specs.Spelling.{spelling}
use Rattle.worked_texts.proofs.Texts.{text, at, tied}

pub tied-spelling : spelling tied ≡ text (codes "hrt 1" ∷ codes "resident a: x y" ∷ codes "resident b: x" ∷ codes "hospital x 1: (a b)" ∷ codes "hospital y 1: a" ∷ codes "end" ∷ [])
unfolding digits
tied-spelling = refl

pub tied-accepted : refusal (rows (text (codes "hrt 1" ∷ codes "resident a: x y" ∷ codes "resident b: x" ∷ codes "hospital x 1: (a b)" ∷ codes "hospital y 1: a" ∷ codes "end" ∷ []))) ≡ None
tied-accepted = refl

pub tied-says : lists_of_rows (rows (text (codes "hrt 1" ∷ codes "resident a: x y" ∷ codes "resident b: x" ∷ codes "hospital x 1: (a b)" ∷ codes "hospital y 1: a" ∷ codes "end" ∷ []))) ≡ tied
tied-says = refl

-- A without its last line
pub no_end : refusal (rows (text (codes "hrt 1" ∷ codes "resident a: x y" ∷ codes "resident b: x" ∷ codes "hospital x 1: (a b)" ∷ codes "hospital y 1: a" ∷ []))) ≡ at 5 9
no_end = refl

pub after_end : refusal (rows (text (codes "hrt 1" ∷ codes "resident a: x y" ∷ codes "resident b: x" ∷ codes "hospital x 1: (a b)" ∷ codes "hospital y 1: a" ∷ codes "end" ∷ codes "resident c:" ∷ []))) ≡ at 7 10
after_end = refl

-- an empty file
pub no_text : refusal (rows (text ([]))) ≡ at 1 1
no_text = refl

pub blank_text : refusal (rows (text (codes "" ∷ codes "# note" ∷ codes "" ∷ []))) ≡ at 1 1
blank_text = refl

pub other_header : refusal (rows (text (codes "" ∷ codes "hrt 2" ∷ codes "end" ∷ []))) ≡ at 2 1
other_header = refl

pub named_twice : refusal (rows (text (codes "hrt 1" ∷ codes "resident a: (x y) x" ∷ codes "resident b: x" ∷ codes "hospital x 1: (a b)" ∷ codes "hospital y 1: a" ∷ codes "end" ∷ []))) ≡ at 2 7
named_twice = refl

pub unknown : refusal (rows (text (codes "hrt 1" ∷ codes "resident a: x q" ∷ codes "resident b: x" ∷ codes "hospital x 1: (a b)" ∷ codes "hospital y 1: a" ∷ codes "end" ∷ []))) ≡ at 2 6
unknown = refl

pub capacity_above : refusal (rows (text (codes "hrt 1" ∷ codes "resident a: x y" ∷ codes "resident b: x" ∷ codes "hospital x 1: (a b)" ∷ codes "hospital y 20001: a" ∷ codes "end" ∷ []))) ≡ at 5 4
capacity_above = refl

pub capacity_most : refusal (rows (text (codes "hrt 1" ∷ codes "resident a: x y" ∷ codes "resident b: x" ∷ codes "hospital x 1: (a b)" ∷ codes "hospital y 20000: a" ∷ codes "end" ∷ []))) ≡ None
capacity_most = refl

pub capacity_word : refusal (rows (text (codes "hrt 1" ∷ codes "resident a: x y" ∷ codes "resident b: x" ∷ codes "hospital x 1: (a b)" ∷ codes "hospital y one: a" ∷ codes "end" ∷ []))) ≡ at 5 4
capacity_word = refl

pub capacity_long : refusal (rows (text (codes "hrt 1" ∷ codes "resident a: x y" ∷ codes "resident b: x" ∷ codes "hospital x 1: (a b)" ∷ codes "hospital y 000001: a" ∷ codes "end" ∷ []))) ≡ at 5 4
capacity_long = refl

pub first_token : refusal (rows (text (codes "hrt 1" ∷ codes "residents a: x y" ∷ codes "resident b: x" ∷ codes "hospital x 1: (a b)" ∷ codes "hospital y 1: a" ∷ codes "end" ∷ []))) ≡ at 2 2
first_token = refl

pub no_colon : refusal (rows (text (codes "hrt 1" ∷ codes "resident a x y" ∷ codes "resident b: x" ∷ codes "hospital x 1: (a b)" ∷ codes "hospital y 1: a" ∷ codes "end" ∷ []))) ≡ at 2 2
no_colon = refl

pub capacity_mark : refusal (rows (text (codes "hrt 1" ∷ codes "resident a: x y" ∷ codes "resident b: x" ∷ codes "hospital x 1: (a b)" ∷ codes "hospital y : 1: a" ∷ codes "end" ∷ []))) ≡ at 5 2
capacity_mark = refl

-- `end` isn't alone, so the text has no end, which is a greater number
pub end_more : refusal (rows (text (codes "hrt 1" ∷ codes "resident a: x y" ∷ codes "resident b: x" ∷ codes "hospital x 1: (a b)" ∷ codes "hospital y 1: a" ∷ codes "end end" ∷ []))) ≡ at 6 2
end_more = refl

pub long_name : refusal (rows (text (codes "hrt 1" ∷ codes "resident nnnnnnnnnnnnnnnnnnnnnnnnnnnnnnnnnnnnnnnnnnnnnnnnnnnnnnnnnnnnnnnnn: x y" ∷ codes "resident b: x" ∷ codes "hospital x 1: (a b)" ∷ codes "hospital y 1: a" ∷ codes "end" ∷ []))) ≡ at 2 3
long_name = refl

pub name_64 : refusal (rows (text (codes "hrt 1" ∷ codes "resident nnnnnnnnnnnnnnnnnnnnnnnnnnnnnnnnnnnnnnnnnnnnnnnnnnnnnnnnnnnnnnnn:" ∷ codes "end" ∷ []))) ≡ None
name_64 = refl

pub declared_twice : refusal (rows (text (codes "hrt 1" ∷ codes "resident a: x y" ∷ codes "resident b: x" ∷ codes "resident a:" ∷ codes "hospital x 1: (a b)" ∷ codes "hospital y 1: a" ∷ codes "end" ∷ []))) ≡ at 4 5
declared_twice = refl

-- the sides have name spaces of their own
pub other_side : refusal (rows (text (codes "hrt 1" ∷ codes "resident a:" ∷ codes "hospital a 1:" ∷ codes "end" ∷ []))) ≡ None
other_side = refl

pub nested : refusal (rows (text (codes "hrt 1" ∷ codes "resident a: x y" ∷ codes "resident b: x" ∷ codes "hospital x 1: (a (b))" ∷ codes "hospital y 1: a" ∷ codes "end" ∷ []))) ≡ at 4 8
nested = refl

pub empty_tie : refusal (rows (text (codes "hrt 1" ∷ codes "resident a: x y" ∷ codes "resident b: x" ∷ codes "hospital x 1: a () b" ∷ codes "hospital y 1: a" ∷ codes "end" ∷ []))) ≡ at 4 8
empty_tie = refl

pub unpaired : refusal (rows (text (codes "hrt 1" ∷ codes "resident a: x y" ∷ codes "resident b: x" ∷ codes "hospital x 1: (a b" ∷ codes "hospital y 1: a" ∷ codes "end" ∷ []))) ≡ at 4 8
unpaired = refl

pub second_colon : refusal (rows (text (codes "hrt 1" ∷ codes "resident a: x y" ∷ codes "resident b: x" ∷ codes "hospital x 1: a : b" ∷ codes "hospital y 1: a" ∷ codes "end" ∷ []))) ≡ at 4 8
second_colon = refl

pub tie_of_one : refusal (rows (text (codes "hrt 1" ∷ codes "resident a: x y" ∷ codes "resident b: x" ∷ codes "hospital x 1: (a b)" ∷ codes "hospital y 1: ( a )" ∷ codes "end" ∷ []))) ≡ None
tie_of_one = refl

-- three kinds in one line
pub least_number : refusal (rows (text (codes "hrt 1" ∷ codes "resident a: x y" ∷ codes "resident b: x" ∷ codes "hospital x 1: (a b)" ∷ codes "hospital y x: a a (" ∷ codes "end" ∷ []))) ≡ at 5 4
least_number = refl

-- kind 6 is looked for only where no other stands
pub least_line : refusal (rows (text (codes "hrt 1" ∷ codes "resident a: q" ∷ codes "hospital x 1: a a" ∷ codes "end" ∷ []))) ≡ at 3 7
least_line = refl

pub unknown_least : refusal (rows (text (codes "hrt 1" ∷ codes "hospital x 1: b" ∷ codes "resident a: q" ∷ codes "end" ∷ []))) ≡ at 2 6
unknown_least = refl

pub after_bad_header : refusal (rows (text (codes "hrt" ∷ codes "resident a a" ∷ codes "bad" ∷ []))) ≡ at 1 1
after_bad_header = refl

pub some_tokens : tokens (codes "a:(bc d)#e") ≡ word (codes "a") ∷ colon ∷ opening ∷ word (codes "bc") ∷ word (codes "d") ∷ closing ∷ []
some_tokens = refl

-- a byte 1 is no byte of a name
pub low_byte : refusal (rows (text (codes "hrt 1" ∷ (codes "resident " ++ 1 ∷ codes ":") ∷ []))) ≡ at 2 3
low_byte = refl

-- a kind beyond the least
pub also_bad_tie : has_kind (rows (text (codes "hrt 1" ∷ codes "hospital y x: a a (" ∷ []))) 2 8 ≡ true
also_bad_tie = refl

-- the 20,001st
pub too_many : too_many_residents (replicate 20000 (tokens (codes "resident a:"))) (form_of (tokens (codes "resident b:"))) ≡ true
too_many = refl

pub too_many-hospitals : too_many_hospitals (replicate 20000 (tokens (codes "hospital a 1:"))) (form_of (tokens (codes "hospital b 1:"))) ≡ true
too_many-hospitals = refl

pub not_too_many : too_many_residents (replicate 19999 (tokens (codes "resident a:"))) (form_of (tokens (codes "resident b:"))) ≡ false
not_too_many = refl

-- a comment sign ends a word, also in the middle of it
pub sign_in_word : refusal (rows (text (codes "hrt 1" ∷ codes "resident a#b: x" ∷ codes "end" ∷ []))) ≡ at 2 2
sign_in_word = refl

-- a return that isn't the last byte of its line is a byte of a word
pub return_in_name : refusal (rows (text (codes "hrt 1" ∷ (codes "resident a" ++ 13 ∷ codes ":") ∷ codes "end" ∷ []))) ≡ at 2 3
return_in_name = refl

pub two_returns : refusal (rows (text ((codes "hrt 1" ++ 13 ∷ 13 ∷ []) ∷ codes "end" ∷ []))) ≡ at 1 1
two_returns = refl

pub return_in_line : refusal (rows (text (codes "hrt 1" ∷ (codes "end " ++ 13 ∷ codes " ") ∷ []))) ≡ at 2 2
return_in_line = refl

-- a capacity with a zero before it is a spelling, but not the canonical one
pub zero_before : refusal (rows (text (codes "hrt 1" ∷ codes "hospital x 01:" ∷ codes "end" ∷ []))) ≡ None
zero_before = refl

-- words are looked at also where the items are no list
pub twice_in_no_list : refusal (rows (text (codes "hrt 1" ∷ codes "resident a: x x (" ∷ []))) ≡ at 2 7
twice_in_no_list = refl

pub no_name_in_no_list : refusal (rows (text (codes "hrt 1" ∷ (codes "resident a: " ++ 1 ∷ codes " (") ∷ []))) ≡ at 2 3
no_name_in_no_list = refl

pub no_end_blank : refusal (rows (text (codes "hrt 1" ∷ codes "" ∷ []))) ≡ at 2 9
no_end_blank = refl

pub blank_after_end : refusal (rows (text (codes "hrt 1" ∷ codes "end" ∷ codes "# note" ∷ codes "" ∷ []))) ≡ None
blank_after_end = refl

pub end_twice : refusal (rows (text (codes "hrt 1" ∷ codes "end" ∷ codes "end" ∷ []))) ≡ at 3 10
end_twice = refl

pub header_twice : refusal (rows (text (codes "hrt 1" ∷ codes "hrt 1" ∷ codes "end" ∷ []))) ≡ at 2 2
header_twice = refl

-- names of the other side are not declared on this one
pub other_side_unknown : refusal (rows (text (codes "hrt 1" ∷ codes "resident a: a" ∷ codes "end" ∷ []))) ≡ at 2 6
other_side_unknown = refl
