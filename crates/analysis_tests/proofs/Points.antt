-- Rows of a model that hold at a point, one after another.
use Rattle.std.proofs.Common.{◌≡◌, ◌<◌, ◌≤◌, ◌+◌, ◌-◌, ℕ, Bool, true, List, take, length, get_or, sym, ap, ◌∙◌, arith}
use Rattle.std.specs.Prelude.{Some, slice_get}
use Rattle.std.specs.List.{list_all}
use Rattle.std.proofs.lemmas.Bool.{and_from}
use Rattle.std.proofs.lemmas.List.{take_all}
use Rattle.std.proofs.lemmas.List.Folds.{list_all_more}
use Rattle.std.proofs.lemmas.Option.{slice_get-get_or}
use Rattle.pb_rows.specs.Terms.{PlainRow}
use Rattle.pb_rows.specs.Points.{Point}
use Rattle.pb_rows.specs.Rows.{holds}

pub hold_next : (p : Point) (rs : List PlainRow) (k : ℕ) (row : PlainRow) (b : Bool) → 1 ≤ k → k ≤ length rs → list_all (holds p) (take (k - 1) rs) ≡ true → slice_get rs (k - 1) ≡ Some row → b ≡ holds p row → b ≡ true → list_all (holds p) (take (k + 1 - 1) rs) ≡ true
hold_next p rs k row b first last all at is h =
    let there : slice_get rs (k - 1) ≡ Some (get_or rs (k - 1) row) = slice_get-get_or rs (k - 1) row (omega arith) in
    let same : get_or rs (k - 1) row ≡ row = cc in
    let next : k + 1 - 1 ≡ k - 1 + 1 = omega arith in
    ap (λ (n : ℕ). list_all (holds p) (take n rs)) next
    ∙ (list_all_more (holds p) rs (k - 1) row (omega arith) ∙ and_from (list_all (holds p) (take (k - 1) rs)) (holds p (get_or rs (k - 1) row)) all (ap (holds p) same ∙ (sym is ∙ h)))

pub hold_all : (p : Point) (rs : List PlainRow) (k : ℕ) → length rs < k → list_all (holds p) (take (k - 1) rs) ≡ true → list_all (holds p) rs ≡ true
hold_all p rs k past all = sym (ap (list_all (holds p)) (take_all (k - 1) rs (omega (arith, past)))) ∙ all
