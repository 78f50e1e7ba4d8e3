-- Lines and the notes that they are.
use Rattle.std.proofs.Common.{◌≡◌, [], ◌∷◌, ◌++◌, refl, true, false, None, Some}
use Rattle.std.specs.Prelude.{codes}
use Rattle.proof_lines.specs.Spelling.{row_no}
use Rattle.proof_lines.specs.Notes.{note_of}
use Rattle.proof_lines.specs.declared.note.Note.TheVariants.{Unit as unit_note, Bound as bound_note, Load as load_note, Learn as learn_note, Drop as drop_note}

unit_with_feed : note_of (codes "* note unit 7" ++ 10 ∷ []) ≡ Some (unit_note (row_no 7))
unit_with_feed = refl

bound_with_blanks : note_of (codes "  *  note bound    12 ") ≡ Some (bound_note (row_no 12))
bound_with_blanks = refl

drop_with_return : note_of (codes "* note drop 3" ++ 13 ∷ 10 ∷ []) ≡ Some (drop_note (row_no 3))
drop_with_return = refl

load : note_of (codes "* note load x1 x3 : 8 9") ≡ Some (load_note (1 ∷ 3 ∷ []) (row_no 8 ∷ row_no 9 ∷ []))
load = refl

load_nothing_true : note_of (codes "* note load : 8") ≡ Some (load_note [] (row_no 8 ∷ []))
load_nothing_true = refl

learn : note_of (codes "* note learn 20 : x1 ~x2 : ~x3") ≡ Some (learn_note (row_no 20) (record { var = 1; neg = false } ∷ record { var = 2; neg = true } ∷ []) (record { var = 3; neg = true }))
learn = refl

learn_without_decisions : note_of (codes "* note learn 20 : : x3") ≡ Some (learn_note (row_no 20) [] (record { var = 3; neg = false }))
learn_without_decisions = refl

-- ---- no notes

glued_star : note_of (codes "*note unit 7") ≡ None
glued_star = refl

leading_zero : note_of (codes "* note unit 07") ≡ None
leading_zero = refl

words_left : note_of (codes "* note drop 3 4") ≡ None
words_left = refl

no_row : note_of (codes "* note bound") ≡ None
no_row = refl

two_feeds : note_of (codes "* note unit 7" ++ 10 ∷ 10 ∷ []) ≡ None
two_feeds = refl

no_colon : note_of (codes "* note load x1 8") ≡ None
no_colon = refl

glued_colon : note_of (codes "* note load x1: 8") ≡ None
glued_colon = refl

no_rows_loaded : note_of (codes "* note load x1 :") ≡ None
no_rows_loaded = refl

negated_true : note_of (codes "* note load ~x1 : 8") ≡ None
negated_true = refl

learn_one_colon : note_of (codes "* note learn 20 : x3") ≡ None
learn_one_colon = refl

learn_two_literals : note_of (codes "* note learn 20 : : x3 x4") ≡ None
learn_two_literals = refl

variable_zero : note_of (codes "* note load x0 : 8") ≡ None
variable_zero = refl

unknown_kind : note_of (codes "* note keep 8") ≡ None
unknown_kind = refl

a_rup_line : note_of (codes "rup >= 0 ;") ≡ None
a_rup_line = refl

nothing : note_of [] ≡ None
nothing = refl
