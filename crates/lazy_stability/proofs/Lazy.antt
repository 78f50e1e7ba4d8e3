-- Loads keep the law of a written proof, and texts that keep it have lazy rows.
use Rattle.std.proofs.Common.{◌≡◌, ℕ, true, List, [], ◌∷◌, ◌++◌, refl, sym, ap, ◌∙◌, subst, inl, inr, arith}
use Rattle.std.specs.Prelude.{◌⊎◌, Contains, Option, Some, None, is_some}
use Rattle.std.proofs.lemmas.Bool.{or_cases}
use Rattle.std.proofs.lemmas.List.Elements.{Contains-append_left, Contains-append_right}
use Rattle.hrt_base.specs.declared.numbered.RowNo.{RowNo}
use Rattle.pb_rows.specs.Formula.{Formula}
use Rattle.rank_tables.specs.Instance.{Lists}
use Rattle.rank_tables.specs.Numbers.{is_in}
use Rattle.stability_model.specs.Model.{formula, pair_row_no}
use Rattle.proof_lines.specs.declared.note.Note.{Note}
use Rattle.proof_lines.specs.declared.note.Note.TheVariants.{Unit as UnitRow, Bound as BoundRow, Load, Learn, Drop}
use Rattle.proof_lines.specs.Notes.{note_in}
use Rattle.proof_rules.specs.Valid.{Place, Start, Headed, Proving, Closing, Claimed, Done}
use Rattle.proof_rules.specs.Texts.{Cut, cut}
use Rattle.proof_rules.specs.Held.{Held, is_held, row_numbers}
use Rattle.proof_rules.specs.Told.{IsTrueIn, NoteAt, Told, noted, notes_by, notes_of, told_after, told_by}
use Rattle.proof_rules.proofs.Held.{is_in-append}
use Rattle.proof_rules.proofs.Pieces.{cut-whole}
use Rattle.derivation.specs.Traces.{AreLawful, HeldRowsAreLoaded, IsLawfulText, Trace, first_trace, loaded_after, since_note, trace_after, trace_by, trace_of}
use Rattle.derivation.proofs.NoneDeleted.{none_deleted}
use Rattle.lazy_stability.specs.Laws.{IsHonest, IsLoadedBy, LawfulRowsAreLazy, LoadsAreLawful}
use Rattle.lazy_stability.specs.Loads.{row_numbers_of}

-- ---- a load

marked : (next : ℕ) (trues : List ℕ) (ids : List RowNo) (since : Option ℕ) → is_some since ≡ true → Some next ≡ since_note next (Load trues ids) since
marked next trues ids (Some k) h = refl
marked next trues ids None h = absurd (cc)

pub loads_lawful : LoadsAreLawful
loads_lawful old new t m pairs ready some takes = (
  new,
  takes,
  (none_deleted old ready, some),
  (
    refl,
    ap (λ (since : Option ℕ). record t {
      told = record { place = Proving new.state; held = new.held };
      since = since;
      loaded = t.loaded ++ row_numbers (row_numbers_of old.lists pairs);
    }) (marked old.state.next m (row_numbers_of old.lists pairs) t.since some),
  ),
)

-- ---- honest notes

honest_note : (lists : Lists) (place : Place) (held : Held) (note : Note) → IsTrueIn lists place held note → IsHonest lists place held note
honest_note lists (Proving s) held (Load trues ids) h = h
honest_note lists (Proving s) held (UnitRow id) h = tt
honest_note lists (Proving s) held (BoundRow id) h = tt
honest_note lists (Proving s) held (Learn id decisions l) h = tt
honest_note lists (Proving s) held (Drop id) h = tt
honest_note lists Start held note h = absurd h
honest_note lists Headed held note h = absurd h
honest_note lists (Closing s) held note h = absurd h
honest_note lists (Claimed c) held note h = absurd h
honest_note lists (Done c) held note h = absurd h

-- ---- loaded rows

-- more notes behind or before
more_notes : (n : ℕ) (some more : List NoteAt) → ((at : NoteAt) → Contains some at → Contains more at) → IsLoadedBy some n → IsLoadedBy more n
more_notes n some more within by = record { at = by.at; stands = within by.at by.stands; trues = by.trues; ids = by.ids; is = by.is; names = by.names }

-- what one note loads
noted_loads : (n : ℕ) (told : Told) (o : Option Note) (loaded : List ℕ) → is_in n (loaded_after o loaded) ≡ true → (is_in n loaded ≡ true) ⊎ IsLoadedBy (noted told o) n
noted_loads n told (Some (Load trues ids)) loaded i = elim (or_cases (is_in n loaded) (is_in n (row_numbers ids)) (sym (is_in-append n loaded (row_numbers ids)) ∙ i)) [
  | inl s ↦ inl s
  | inr s ↦ inr (record { at = record { place = told.place; held = told.held; note = Load trues ids }; stands = (0, omega arith, refl); trues = trues; ids = ids; is = refl; names = s })
]
noted_loads n told None loaded i = inl i
noted_loads n told (Some (UnitRow id)) loaded i = inl i
noted_loads n told (Some (BoundRow id)) loaded i = inl i
noted_loads n told (Some (Learn id decisions l)) loaded i = inl i
noted_loads n told (Some (Drop id)) loaded i = inl i

-- what lines load was loaded before them or by one of their notes
lines_load : (f : Formula) (n : ℕ) (t : Trace) (texts : List (List ℕ)) → is_in n (trace_by f t texts).loaded ≡ true → (is_in n t.loaded ≡ true) ⊎ IsLoadedBy (notes_by f t.told texts) n
lines_load f n t [] i = inl i
lines_load f n t (text ∷ texts) i = elim (lines_load f n (trace_after f t text) texts i) [
  | inl s ↦ elim (noted_loads n t.told (note_in text) t.loaded s) [
    | inl s ↦ inl s
    | inr s ↦ inr (more_notes n (noted t.told (note_in text)) (noted t.told (note_in text) ++ notes_by f (told_after f t.told text) texts) (λ at c. Contains-append_left (noted t.told (note_in text)) (notes_by f (told_after f t.told text) texts) at c) s)
  ]
  | inr s ↦ inr (more_notes n (notes_by f (told_after f t.told text) texts) (noted t.told (note_in text) ++ notes_by f (told_after f t.told text) texts) (λ at c. Contains-append_right (noted t.told (note_in text)) (notes_by f (told_after f t.told text) texts) at c) s)
]

-- lines that keep the law keep it as far as one looks
lawful_front : (lists : Lists) (t : Trace) (xs ys : List (List ℕ)) → AreLawful lists t (xs ++ ys) → AreLawful lists t xs
lawful_front lists t [] ys h = tt
lawful_front lists t (x ∷ xs) ys h = (h.0, lawful_front lists (trace_after (formula lists) t x) xs ys h.1)

-- what is told of held rows is what is told without the rest
held_told : (f : Formula) (t : Trace) (texts : List (List ℕ)) → (trace_by f t texts).told ≡ told_by f t.told texts
held_told f t [] = refl
held_told f t (text ∷ texts) = held_told f (trace_after f t text) texts

-- nothing is loaded before any line
none_before : (n : ℕ) (notes : List NoteAt) → (is_in n [] ≡ true) ⊎ IsLoadedBy notes n → IsLoadedBy notes n
none_before n notes (inl i) = absurd (cc)
none_before n notes (inr by) = by

pub lawful_lazy : HeldRowsAreLoaded → LawfulRowsAreLazy
lawful_lazy held_loaded lists bytes law true_notes = record {
  honest = λ k at l. honest_note lists _ _ _ (true_notes k at l);
  loaded = λ front back same whole p number held.
      let kept : IsLawfulText lists front = lawful_front lists (first_trace lists) (cut front).whole (cut back).whole (subst (AreLawful lists (first_trace lists)) (ap (λ (bs : List ℕ). (cut bs).whole) same ∙ ap (λ (c : Cut). c.whole) (cut-whole front back whole)) law) in
      let told : is_held (trace_of lists front).told.held (pair_row_no lists p) ≡ true = ap (λ (t : Told). is_held t.held (pair_row_no lists p)) (held_told (formula lists) (first_trace lists) (cut front).whole) ∙ held in
      none_before (pair_row_no lists p) (notes_of lists front) (lines_load (formula lists) (pair_row_no lists p) (first_trace lists) (cut front).whole (held_loaded lists front kept p number told));
}
