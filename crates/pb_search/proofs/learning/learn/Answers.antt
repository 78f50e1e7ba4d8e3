use Rattle.std.proofs.Common.{◌≤◌, length, refl, ap, sym, subst, ◌∙◌}
use Rattle.std.specs.Prelude.{IsTrue}
use Rattle.rank_tables.specs.WellFormed.{most_pairs}
use Rattle.proof_lines.specs.declared.note.Note.{Note}
use Rattle.proof_lines.specs.Spelling.{most_bytes}
use Rattle.proof_lines.specs.Texts.{is_spellable_note, note_text}
use Rattle.proof_rules.specs.Notes.{IsTrueNote}
use Rattle.derivation.specs.Steps.{with_note}
use Rattle.pb_propagate.specs.Entries.{up_to}
use Rattle.pb_propagate.specs.Engines.{EngineState}
use Rattle.conflict_cuts.proofs.Analyzed.{few_vars}
use Rattle.pb_search.proofs.Noting.{learned_row, takes}
use Rattle.pb_search.proofs.learning.learn.Goals as goal

pub note-requires-clause-so : goal.note-requires-clause-so
note-requires-clause-so c =
    let few : c.args.engine.now.vars ≤ most_pairs = few_vars c.args.engine.now.vars c.pairs-pairs.result c.instance.result.now c.args.model.now c.args.deriv.now.lists c.requires.agree.vars c.requires.same c.instance.ensures c.pairs-pairs.ensures.count c.pairs-pairs.ensures.few in
    let n = c.args.new.now in
    let d = c.args.deriv.now in
    let t = takes c.args.engine.now d n.id n.row n.level n.asserts c.level-level.ensures.order c.next-next.ensures.in_order few c.requires.ready c.requires.agree c.requires.exact c.requires.live c.requires.asserts c.in_ok-note.ensures.small _ refl in
    subst (IsTrueNote d.lists d.state.live d.held) (sym c.in_ok-note.ensures.is) t.so

pub note-requires-clause-made : goal.note-requires-clause-made
note-requires-clause-made c =
    let few : c.args.engine.now.vars ≤ most_pairs = few_vars c.args.engine.now.vars c.pairs-pairs.result c.instance.result.now c.args.model.now c.args.deriv.now.lists c.requires.agree.vars c.requires.same c.instance.ensures c.pairs-pairs.ensures.count c.pairs-pairs.ensures.few in
    let n = c.args.new.now in
    let d = c.args.deriv.now in
    let t = takes c.args.engine.now d n.id n.row n.level n.asserts c.level-level.ensures.order c.next-next.ensures.in_order few c.requires.ready c.requires.agree c.requires.exact c.requires.live c.requires.asserts c.in_ok-note.ensures.small _ refl in
    subst (λ (note : Note). IsTrue (is_spellable_note note)) (sym c.in_ok-note.ensures.is) t.made

pub note-requires-clause-short : goal.note-requires-clause-short
note-requires-clause-short c =
    let few : c.args.engine.now.vars ≤ most_pairs = few_vars c.args.engine.now.vars c.pairs-pairs.result c.instance.result.now c.args.model.now c.args.deriv.now.lists c.requires.agree.vars c.requires.same c.instance.ensures c.pairs-pairs.ensures.count c.pairs-pairs.ensures.few in
    let n = c.args.new.now in
    let d = c.args.deriv.now in
    let t = takes c.args.engine.now d n.id n.row n.level n.asserts c.level-level.ensures.order c.next-next.ensures.in_order few c.requires.ready c.requires.agree c.requires.exact c.requires.live c.requires.asserts c.in_ok-note.ensures.small _ refl in
    subst (λ (note : Note). length (note_text note) ≤ most_bytes) (sym c.in_ok-note.ensures.is) t.short

pub returns : goal.returns
returns c =
    let few : c.args.engine.now.vars ≤ most_pairs = few_vars c.args.engine.now.vars c.pairs-pairs.result c.instance.result.now c.args.model.now c.args.deriv.now.lists c.requires.agree.vars c.requires.same c.instance.ensures c.pairs-pairs.ensures.count c.pairs-pairs.ensures.few in
    let n = c.args.new.now in
    let d = c.args.deriv.now in
    learned_row c.args.engine.now d n.id n.row n.level n.asserts c.level-level.ensures.order c.next-next.ensures.in_order few c.requires.ready c.requires.agree c.requires.exact c.requires.live c.requires.asserts c.in_ok-note.ensures.small
    c.back_to.new.self c.note.new.self c.in_ok-add_row.field-0.0 (c.in_ok-note-2.ensures.note ∙ ap (λ (note : Note). with_note note d) c.in_ok-note.ensures.is) c.note.ensures.valid (c.note.ensures.ready c.requires.ready) c.requires.formed c.requires.free
    (ap (λ (e : EngineState). e.vars) c.back_to.ensures ∙ ap (λ (e : EngineState). e.vars) c.in_ok-add_row.ensures.ok)
    (ap (λ (e : EngineState). e.held) c.back_to.ensures ∙ ap (λ (e : EngineState). e.held) c.in_ok-add_row.ensures.ok)
    (ap (λ (e : EngineState). e.trail) c.back_to.ensures ∙ ap (λ (e : EngineState). up_to n.level e.trail) c.in_ok-add_row.ensures.ok)
