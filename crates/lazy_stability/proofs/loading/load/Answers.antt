use Rattle.std.proofs.Common.{◌≤◌, length, subst, sym, ap, ◌∙◌, arith}
use Rattle.std.proofs.lemmas.List.{length-map}
use Rattle.std.specs.Prelude.{IsTrue}
use Rattle.hrt_base.specs.declared.numbered.PairNo.{PairNo}
use Rattle.rank_tables.specs.Instance.{Lists}
use Rattle.stability_model.specs.Model.{pair_row_no, rows}
use Rattle.proof_lines.specs.Spelling.{most_bytes, row_no}
use Rattle.proof_lines.specs.Texts.{is_spellable_note, note_text}
use Rattle.proof_lines.specs.declared.note.Note.{Note}
use Rattle.proof_rules.specs.Notes.{IsTrueNote}
use Rattle.agreement.specs.Agreement.{Agree}
use Rattle.derivation.specs.Derived.{Derived}
use Rattle.derivation.specs.Steps.{with_note}
use Rattle.lazy_stability.specs.Candidates.{candidate, point_of_trail}
use Rattle.lazy_stability.specs.Loads.{LoadsRows, load_note}
use Rattle.lazy_stability.proofs.Loaded.{agree_again, can_load, falsified, known, load_honest, not_held}
use Rattle.lazy_stability.proofs.LoadText.{note_made, note_short}
use Rattle.lazy_stability.proofs.loading.load.Goals as goal

pub note-requires-clause-so : goal.note-requires-clause-so
note-requires-clause-so c =
    let e = c.args.engine.now in
    let d = c.args.deriv.now in
    let pairs = c.args.pairs.now in
    let can = can_load c.args.model.now e d pairs c.requires.same c.requires.agree c.next-next.ensures.in_order c.requires.ready c.requires.full c.level-level.ensures.order c.requires.quiet c.row_count-rows.ensures.short c.requires.matching c.requires.block in
    let said = c.in_ok-load_note.ensures ∙ ap (λ (lists : Lists). load_note lists (candidate lists e) pairs) c.requires.same in
    subst (IsTrueNote d.lists d.state.live d.held) (sym said) (load_honest e d pairs can c.requires.some)

pub note-requires-clause-made : goal.note-requires-clause-made
note-requires-clause-made c =
    let e = c.args.engine.now in
    let d = c.args.deriv.now in
    let pairs = c.args.pairs.now in
    let can = can_load c.args.model.now e d pairs c.requires.same c.requires.agree c.next-next.ensures.in_order c.requires.ready c.requires.full c.level-level.ensures.order c.requires.quiet c.row_count-rows.ensures.short c.requires.matching c.requires.block in
    let said = c.in_ok-load_note.ensures ∙ ap (λ (lists : Lists). load_note lists (candidate lists e) pairs) c.requires.same in
    let few : length (rows d.lists) ≤ 140000 = subst (λ (lists : Lists). length (rows lists) ≤ 140000) c.requires.same (omega (arith, c.row_count-rows.ensures.count, c.row_count-rows.ensures.few)) in
    subst (λ (note : Note). IsTrue (is_spellable_note note)) (sym said)
    (note_made d.lists (point_of_trail e.trail) pairs few c.requires.block.distinct (known e d pairs can) (omega (arith, c.requires.some, length-map pairs (λ (p : PairNo). row_no (pair_row_no d.lists p.0)))))

pub note-requires-clause-short : goal.note-requires-clause-short
note-requires-clause-short c =
    let e = c.args.engine.now in
    let d = c.args.deriv.now in
    let pairs = c.args.pairs.now in
    let can = can_load c.args.model.now e d pairs c.requires.same c.requires.agree c.next-next.ensures.in_order c.requires.ready c.requires.full c.level-level.ensures.order c.requires.quiet c.row_count-rows.ensures.short c.requires.matching c.requires.block in
    let said = c.in_ok-load_note.ensures ∙ ap (λ (lists : Lists). load_note lists (candidate lists e) pairs) c.requires.same in
    let few : length (rows d.lists) ≤ 140000 = subst (λ (lists : Lists). length (rows lists) ≤ 140000) c.requires.same (omega (arith, c.row_count-rows.ensures.count, c.row_count-rows.ensures.few)) in
    subst (λ (note : Note). length (note_text note) ≤ most_bytes) (sym said) (note_short d.lists (point_of_trail e.trail) pairs few c.requires.block.distinct (known e d pairs can))

pub returns-clause-note : goal.returns-clause-note
returns-clause-note c =
    let e = c.args.engine.now in
    let d = c.args.deriv.now in
    let pairs = c.args.pairs.now in
    let can = can_load c.args.model.now e d pairs c.requires.same c.requires.agree c.next-next.ensures.in_order c.requires.ready c.requires.full c.level-level.ensures.order c.requires.quiet c.row_count-rows.ensures.short c.requires.matching c.requires.block in
    let said = c.in_ok-load_note.ensures ∙ ap (λ (lists : Lists). load_note lists (candidate lists e) pairs) c.requires.same in
    let few : length (rows d.lists) ≤ 140000 = subst (λ (lists : Lists). length (rows lists) ≤ 140000) c.requires.same (omega (arith, c.row_count-rows.ensures.count, c.row_count-rows.ensures.few)) in
    record {
      made = note_made d.lists (point_of_trail e.trail) pairs few c.requires.block.distinct (known e d pairs can) (omega (arith, c.requires.some, length-map pairs (λ (p : PairNo). row_no (pair_row_no d.lists p.0))));
      short = note_short d.lists (point_of_trail e.trail) pairs few c.requires.block.distinct (known e d pairs can);
      unconcluded = c.requires.ready.unconcluded;
      so = load_honest e d pairs can c.requires.some;
      is = c.in_ok-note.ensures.note ∙ ap (λ (note : Note). with_note note d) said;
    }

pub returns-clause-agree : goal.returns-clause-agree
returns-clause-agree c =
    let e = c.args.engine.now in
    let d = c.args.deriv.now in
    let pairs = c.args.pairs.now in
    let can = can_load c.args.model.now e d pairs c.requires.same c.requires.agree c.next-next.ensures.in_order c.requires.ready c.requires.full c.level-level.ensures.order c.requires.quiet c.row_count-rows.ensures.short c.requires.matching c.requires.block in
    let said = c.in_ok-load_note.ensures ∙ ap (λ (lists : Lists). load_note lists (candidate lists e) pairs) c.requires.same in
    let loads = subst (λ (lists : Lists). LoadsRows lists pairs c.in_ok-places.places.items e c.add_rows.new.engine) c.requires.same c.in_ok-places.ensures.ok in
    subst (λ (new : Derived). Agree c.add_rows.new.engine new) (sym (c.in_ok-note.ensures.note ∙ ap (λ (note : Note). with_note note d) said)) (agree_again e d pairs can c.add_rows.new.engine c.in_ok-places.places.items loads)

pub returns-clause-new : goal.returns-clause-new
returns-clause-new c =
    let e = c.args.engine.now in
    let d = c.args.deriv.now in
    let pairs = c.args.pairs.now in
    let can = can_load c.args.model.now e d pairs c.requires.same c.requires.agree c.next-next.ensures.in_order c.requires.ready c.requires.full c.level-level.ensures.order c.requires.quiet c.row_count-rows.ensures.short c.requires.matching c.requires.block in
    not_held e d pairs can

pub returns-clause-falsified : goal.returns-clause-falsified
returns-clause-falsified c =
    let e = c.args.engine.now in
    let d = c.args.deriv.now in
    let pairs = c.args.pairs.now in
    let can = can_load c.args.model.now e d pairs c.requires.same c.requires.agree c.next-next.ensures.in_order c.requires.ready c.requires.full c.level-level.ensures.order c.requires.quiet c.row_count-rows.ensures.short c.requires.matching c.requires.block in
    falsified e d pairs can
