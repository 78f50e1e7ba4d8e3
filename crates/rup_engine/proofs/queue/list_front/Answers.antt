use Rattle.std.proofs.Common.{◌≡◌, ◌∙◌, ◌∷◌, ◌++◌, [], Some, None, List, append_assoc, ap, sym, subst, refl}
use Rattle.std.proofs.lemmas.List.{get_or_read}
use Rattle.pb_rows.specs.Terms.{PlainRow}
use Rattle.pb_rows.specs.Formula.{NumberedRow, without}
use Rattle.rup_engine.specs.Live.{LiveRows}
use Rattle.rup_engine.specs.Queue.{HasNumber, waiting_entries, place_at}
use Rattle.rup_engine.proofs.Queues.{apart-moved, first-entry, numbered-by, unlisted}
use Rattle.rup_engine.proofs.queue.list_front.Goals as goal

pub add-requires-clause-fresh : goal.add-requires-clause-fresh
add-requires-clause-fresh c =
    let at : place_at c.args.queue.now.places.items c.args.queue.now.front ≡ Some c.in-Some.entry =
    sym (get_or_read c.args.queue.now.places.items c.args.queue.now.front c.index.result.now c.requires.more c.index.ensures None) ∙ c.in-Some.is in
    let has : HasNumber c.in-Some.entry.number.0 (place_at c.args.queue.now.places.items c.args.queue.now.front) = subst (HasNumber c.in-Some.entry.number.0) (sym at) refl in
    unlisted _ _ c.in-Some.entry.number.0 c.requires.apart (numbered-by c.in-Some.entry.number.0 c.args.queue.now.places.items c.args.queue.now.front has)

pub returns-clause-apart : goal.returns-clause-apart
returns-clause-apart c =
    let e : NumberedRow = record { number = c.in-Some.entry.number.0; row = c.in_ok-row.row } in
    let rows : c.add.new.self.rows ≡ c.args.listed.now.rows ++ e ∷ [] = ap (λ (l : LiveRows). l.rows) c.in_ok-add.ensures.ok in
    rw (rows, c.drop_at.ensures.entries) (apart-moved c.args.listed.now.rows (waiting_entries c.args.queue.now.places.items) e c.requires.apart)

pub returns-clause-rows : goal.returns-clause-rows
returns-clause-rows c =
    let at : place_at c.args.queue.now.places.items c.args.queue.now.front ≡ Some c.in-Some.entry =
    sym (get_or_read c.args.queue.now.places.items c.args.queue.now.front c.index.result.now c.requires.more c.index.ensures None) ∙ c.in-Some.is in
    let has : HasNumber c.in-Some.entry.number.0 (place_at c.args.queue.now.places.items c.args.queue.now.front) = subst (HasNumber c.in-Some.entry.number.0) (sym at) refl in
    let e : NumberedRow = record { number = c.in-Some.entry.number.0; row = c.in_ok-row.row } in
    let rest : List NumberedRow = without c.in-Some.entry.number.0 (waiting_entries c.args.queue.now.places.items) in
    let rows : c.add.new.self.rows ≡ c.args.listed.now.rows ++ e ∷ [] = ap (λ (l : LiveRows). l.rows) c.in_ok-add.ensures.ok in
    let first : waiting_entries c.args.queue.now.places.items ≡ e ∷ rest =
    first-entry c.args.queue.now.places.items c.args.queue.now.front c.in-Some.entry (λ j h. c.requires.queue.empty j h) at
    (λ j h. c.requires.queue.distinct j c.args.queue.now.front c.in-Some.entry.number.0 h has)
    ∙ ap (λ (r : PlainRow). let x : NumberedRow = record { number = c.in-Some.entry.number.0; row = r } in x ∷ rest) (sym c.in_ok-row.ensures) in
    rw (rows, c.drop_at.ensures.entries) (append_assoc c.args.listed.now.rows (e ∷ []) rest ∙ ap (λ (x : List NumberedRow). c.args.listed.now.rows ++ x) (sym first))
