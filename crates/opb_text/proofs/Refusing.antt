-- The refusal of a line by what it says.
use Rattle.std.proofs.Common.{◌≡◌, ℕ, ◌^◌, ◌<◌, Bool, true, false, List, Option, Some, None, refl}
use Rattle.std.specs.Prelude.{option_map}
use Rattle.std.proofs.lemmas.Bool.{lt-ltb}
use Rattle.hrt_base.specs.declared.literal.Term.{Term}
use Rattle.pb_rows.specs.Terms.{Written}
use Rattle.pb_rows.specs.Normal.{all_sizes}
use Rattle.row_text.specs.declared.readings.Reading.TheVariants.{Unspelled, TooBig as too_big}
use Rattle.row_text.specs.Readings.{reading}
use Rattle.row_text.specs.Rows.{is_small_row}
use Rattle.row_text.proofs.Kept.{big-read, unspelled-read}
use Rattle.opb_text.specs.declared.refusal.OpbRefusal.{OpbRefusal}
use Rattle.opb_text.specs.declared.refusal.OpbRefusal.TheVariants.{Syntax, TooBig}
use Rattle.opb_text.specs.Refusal.{IsRefusedBy, row_refusal, statement_refusal}
use Rattle.opb_text.specs.Statements.{constraint, minimize}
use Rattle.opb_text.proofs.BigNumbers.{big_row}

-- an objective behind anything that is said
pub late_objective : (k : ℕ) (begun : Bool) (rows : ℕ) (o : Option (List Term)) → begun ≡ true → statement_refusal k begun rows (option_map minimize o) ≡ Some (Syntax k)
late_objective k begun rows None late = refl
late_objective k begun rows (Some terms) late = rw late refl

-- the rows before an objective don't matter
pub first_objective : (k : ℕ) (begun : Bool) (rows : ℕ) (o : Option (List Term)) (e : OpbRefusal) → begun ≡ false
    → IsRefusedBy (statement_refusal k false 0 (option_map minimize o)) e → IsRefusedBy (statement_refusal k begun rows (option_map minimize o)) e
first_objective k begun rows None e first h = h
first_objective k begun rows (Some terms) e first h = rw first h

pub too_big_row : (k rows : ℕ) (row : Written) → 2 ^ 120 < all_sizes row.terms row.at_least → row_refusal k rows row ≡ Some (TooBig k)
too_big_row k rows row h = rw (lt-ltb (2 ^ 120) (all_sizes row.terms row.at_least) h) refl

big_row_refused : (k : ℕ) (begun : Bool) (rows : ℕ) (o : Option Written) (row : Written) → o ≡ Some row → is_small_row row ≡ false
    → statement_refusal k begun rows (option_map constraint o) ≡ Some (TooBig k)
big_row_refused k begun rows o row is big = rw is (too_big_row k rows row (big_row row big))

pub big_numbers : (k : ℕ) (begun : Bool) (rows : ℕ) (o : Option Written) → too_big ≡ reading is_small_row o → statement_refusal k begun rows (option_map constraint o) ≡ Some (TooBig k)
big_numbers k begun rows o kept = let b = big-read is_small_row o kept in big_row_refused k begun rows o b.0 b.1 b.2

pub no_row : (k : ℕ) (begun : Bool) (rows : ℕ) (o : Option Written) → Unspelled ≡ reading is_small_row o → statement_refusal k begun rows (option_map constraint o) ≡ Some (Syntax k)
no_row k begun rows o kept = rw (unspelled-read is_small_row o kept) refl

pub spelled_row : (k : ℕ) (begun : Bool) (rows : ℕ) (o : Option Written) (row : Written) (e : OpbRefusal) → o ≡ Some row
    → IsRefusedBy (row_refusal k rows row) e → IsRefusedBy (statement_refusal k begun rows (option_map constraint o)) e
spelled_row k begun rows o row e is h = rw is h
