use Rattle.std.proofs.Common.{◌≡◌, ◌<◌, ◌≤◌, ℕ, List, length, get_or, sym, ap, ◌∙◌, subst, arith}
use Rattle.std.specs.List.{All}
use Rattle.std.specs.declared.vec.Vec.{Vec}
use Rattle.hrt_base.specs.declared.numbered.PairNo.{PairNo}
use Rattle.rank_tables.specs.WellFormed.{most_pairs}
use Rattle.rank_tables.specs.Building.{row_at}
use Rattle.rank_tables.specs.Counting.{ranked_row, IsRising, IsEntryNo}
use Rattle.rank_tables.proofs.RowsGrow.{row_at-read}
use Rattle.rank_tables.proofs.terms.terms_of_rows.Goals as goal

row_read : {T A : Type 0} (rows : List (Vec T A)) (i : ℕ) (row : Vec T A) (items : List T) → i < length rows → row ≡ get_or rows i row → items ≡ row.items →
    row_at rows i ≡ items
row_read rows i row items l is read = row_at-read rows i row l ∙ sym (ap (λ row. row.items) is) ∙ sym read

pub terms_of_row-terms-requires-clause-numbers : goal.terms_of_row-terms-requires-clause-numbers
terms_of_row-terms-requires-clause-numbers c =
    let i = c.loop-row.row-index in
    let here = row_read c.args.rows.now i c.row-item.result c.deref.result.now (omega arith) c.row-item.is c.deref.ensures.value in
    subst (All (IsEntryNo c.args.entries.now)) here (c.requires.numbers i)

pub terms_of_row-terms-requires-clause-rising : goal.terms_of_row-terms-requires-clause-rising
terms_of_row-terms-requires-clause-rising c =
    let i = c.loop-row.row-index in
    let here = row_read c.args.rows.now i c.row-item.result c.deref.result.now (omega arith) c.row-item.is c.deref.ensures.value in
    subst (λ (row : List PairNo). IsRising 0 (ranked_row c.args.side c.args.hospitals.now c.args.entries.now row)) here (c.requires.rising i)

pub terms_of_row-terms-requires-clause-short : goal.terms_of_row-terms-requires-clause-short
terms_of_row-terms-requires-clause-short c =
    let i = c.loop-row.row-index in
    let here = row_read c.args.rows.now i c.row-item.result c.deref.result.now (omega arith) c.row-item.is c.deref.ensures.value in
    subst (λ (row : List PairNo). length row ≤ most_pairs) here (c.requires.short i)
