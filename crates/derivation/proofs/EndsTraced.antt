-- What a text tells at the start, and that its lines keep the law to the end.
use Rattle.std.proofs.Common.{◌≡◌, ℕ, List, [], ◌++◌, length, refl, sym, ap, ap₂, ◌∙◌, subst}
use Rattle.std.specs.Prelude.{Option, Some, None}
use Rattle.std.proofs.lemmas.List.{append_assoc}
use Rattle.rank_tables.specs.Instance.{Lists}
use Rattle.stability_model.specs.Model.{formula, rows}
use Rattle.proof_lines.specs.declared.line.Claim.{Claim}
use Rattle.proof_lines.specs.declared.line.Line.{Line}
use Rattle.proof_lines.specs.declared.line.Line.TheVariants.{Header, Count, Output, Conclusion, End, Comment}
use Rattle.proof_lines.specs.declared.note.Note.{Note}
use Rattle.proof_lines.specs.Spelling.{read_line}
use Rattle.proof_lines.specs.Notes.{note_in}
use Rattle.proof_lines.specs.Texts.{line_text, spelling}
use Rattle.proof_rules.specs.Claims.{Shows}
use Rattle.proof_rules.specs.States.{State, first_state}
use Rattle.proof_rules.specs.Valid.{Place, Start, Headed, Proving, Closing, Claimed, Done}
use Rattle.proof_rules.specs.Texts.{Cut, cut}
use Rattle.proof_rules.specs.Held.{NoneIsDeleted, after_any_note, after_line, first_held}
use Rattle.proof_rules.specs.Told.{Told, first_told, place_after, told_after}
use Rattle.proof_rules.proofs.Told.{cut-line}
use Rattle.derivation.specs.Derived.{Derived, IsProofUpTo, StandsFor}
use Rattle.derivation.specs.Steps.{IsWritable, concluded, end_lines, first_derived}
use Rattle.derivation.specs.Traces.{IsLawfulAt, IsLawfulText, Trace, first_trace, trace_after, trace_of}
use Rattle.derivation.specs.Pieces.{EndsLawful, StandsTraced, StartsTraced, opened}
use Rattle.derivation.proofs.Spelled.{line_is_one, line_reads}
use Rattle.derivation.proofs.NotesOfLines.{no_note}
use Rattle.derivation.proofs.Standing.{end_writable, header_writable, concluded_leads, leads_claim, leads_done, leads_output, open_leads, output_writable}
use Rattle.derivation.proofs.Traced.{after_any, at_line, lawful-line, led-told, open_place, place_told, shown-told, trace-line}

-- ---- lines outside the steps

-- outside the steps a line that is no note keeps the law
at_start : (lists : Lists) (t : Trace) (p : Place) (o : Option Line) (n : Option Note) → p ≡ Start → n ≡ None → IsLawfulAt lists t p o n
at_start lists t p o n e f = subst (λ (x : Place). IsLawfulAt lists t x o n) (sym e) (subst (IsLawfulAt lists t Start o) (sym f) tt)

at_headed : (lists : Lists) (t : Trace) (p : Place) (o : Option Line) (n : Option Note) → p ≡ Headed → n ≡ None → IsLawfulAt lists t p o n
at_headed lists t p o n e f = subst (λ (x : Place). IsLawfulAt lists t x o n) (sym e) (subst (IsLawfulAt lists t Headed o) (sym f) tt)

at_closing : (lists : Lists) (t : Trace) (p : Place) (o : Option Line) (n : Option Note) (s : State) → p ≡ Closing s → n ≡ None → IsLawfulAt lists t p o n
at_closing lists t p o n s e f = subst (λ (x : Place). IsLawfulAt lists t x o n) (sym e) (subst (IsLawfulAt lists t (Closing s) o) (sym f) tt)

at_claimed : (lists : Lists) (t : Trace) (p : Place) (o : Option Line) (n : Option Note) (claim : Claim) → p ≡ Claimed claim → n ≡ None → IsLawfulAt lists t p o n
at_claimed lists t p o n claim e f = subst (λ (x : Place). IsLawfulAt lists t x o n) (sym e) (subst (IsLawfulAt lists t (Claimed claim) o) (sym f) tt)

silent : (line : Line) → IsWritable line → (line ≡ Comment → ⊥) → note_in (spelling line) ≡ None
silent line w other = no_note (spelling line) line (line_reads line w) other

-- ---- the start

module _ (lists : Lists) (w : IsWritable (Count (length (rows lists)))) where
  abbrev headed : Trace
  headed = record { told = record { place = Headed; held = first_held lists }; since = None; units = []; made = []; loaded = [] }

  header_silent : note_in (spelling Header) ≡ None
  header_silent = silent Header header_writable (λ e. absurd (cc))

  count_silent : note_in (spelling (Count (length (rows lists)))) ≡ None
  count_silent = silent (Count (length (rows lists))) w (λ e. absurd (cc))

  told_headed : told_after (formula lists) (first_told lists) (spelling Header) ≡ record { place = Headed; held = first_held lists }
  told_headed = ap₂ (λ (o : Option Line) (n : Option Note). record { place = place_after (formula lists) Start o; held = after_any_note n (after_line Start o (first_held lists)) }) (line_reads Header header_writable) header_silent

  header_trace : trace_of lists (line_text Header) ≡ headed
  header_trace =
      trace-line lists [] (spelling Header) refl (line_is_one Header header_writable)
      ∙ after_any (formula lists) (first_trace lists) (spelling Header) (record { place = Headed; held = first_held lists }) (Some Header) None Start refl (line_reads Header header_writable) header_silent told_headed

  header_whole : (cut (line_text Header)).rest ≡ []
  header_whole = ap (λ (c : Cut). c.rest) (cut-line (spelling Header) (line_is_one Header header_writable))

  header_lawful : IsLawfulText lists (line_text Header)
  header_lawful = lawful-line lists [] (spelling Header) refl (line_is_one Header header_writable) tt (at_start lists (first_trace lists) Start (read_line (spelling Header)) (note_in (spelling Header)) refl header_silent)

  pub first_traced : StandsFor [] (first_derived lists) → StandsTraced [] (first_derived lists) (opened lists)
  first_traced stands =
      let bytes : List ℕ = line_text Header ++ line_text (Count (length (rows lists))) in
      let one = trace-line lists (line_text Header) (spelling (Count (length (rows lists)))) header_whole (line_is_one (Count (length (rows lists))) w) ∙ ap (λ (x : Trace). trace_after (formula lists) x (spelling (Count (length (rows lists))))) header_trace in
      let told : told_after (formula lists) headed.told (spelling (Count (length (rows lists)))) ≡ record { place = Proving (first_state (formula lists)); held = first_held lists } =
      ap (λ (x : Trace). x.told) (sym one) ∙ shown-told [] (first_derived lists) stands in
      record {
        stands = stands;
        trace = one ∙ after_any (formula lists) headed (spelling (Count (length (rows lists)))) (record { place = Proving (first_state (formula lists)); held = first_held lists }) (Some (Count (length (rows lists)))) None Headed refl (line_reads (Count (length (rows lists))) w) count_silent told;
        lawful = lawful-line lists (line_text Header) (spelling (Count (length (rows lists)))) header_whole (line_is_one (Count (length (rows lists))) w) header_lawful
            (subst (λ (x : Trace). IsLawfulAt lists x x.told.place (read_line (spelling (Count (length (rows lists))))) (note_in (spelling (Count (length (rows lists)))))) (sym header_trace)
            (at_headed lists headed Headed (read_line (spelling (Count (length (rows lists))))) (note_in (spelling (Count (length (rows lists))))) refl count_silent));
      }

pub starts_traced : StartsTraced
starts_traced lists w stands = first_traced lists w stands

-- ---- the end

module _ (text : List ℕ) (d : Derived) (t : Trace) (claim : Claim) (st : StandsTraced text d t) (begun : d.claim ≡ None) (live : NoneIsDeleted d.lists d.state.live d.held) (w : IsWritable (Conclusion claim)) (shown : Shows (formula d.lists) d.state claim) where
  before : t.told ≡ record { place = Proving d.state; held = d.held }
  before = open_place text d t st begun

  output_silent : note_in (spelling Output) ≡ None
  output_silent = silent Output output_writable (λ e. absurd (cc))

  claim_silent : note_in (spelling (Conclusion claim)) ≡ None
  claim_silent = silent (Conclusion claim) w (λ e. absurd (cc))

  end_silent : note_in (spelling End) ≡ None
  end_silent = silent End end_writable (λ e. absurd (cc))

  output_lawful : IsLawfulText d.lists ((text ++ d.pending) ++ line_text Output)
  output_lawful =
      lawful-line d.lists (text ++ d.pending) (spelling Output) st.stands.tells.whole (line_is_one Output output_writable) st.lawful
      (subst (λ (x : Trace). IsLawfulAt d.lists x x.told.place (read_line (spelling Output)) (note_in (spelling Output))) (sym st.trace)
      (at_line d.lists t t.told.place (read_line (spelling Output)) (note_in (spelling Output)) d.state Output (ap (λ (x : Told). x.place) before) (line_reads Output output_writable) output_silent
      (subst (NoneIsDeleted d.lists d.state.live) (sym (ap (λ (x : Told). x.held) before)) live, tt)))

  leads : IsProofUpTo d.lists (text ++ d.pending) (Proving d.state) d.held
  leads = open_leads text d begun st.stands

  behind_output : IsProofUpTo d.lists ((text ++ d.pending) ++ line_text Output) (Closing d.state) d.held
  behind_output = leads_output d.lists (text ++ d.pending) d.state d.held claim leads w shown

  behind_claim : IsProofUpTo d.lists (((text ++ d.pending) ++ line_text Output) ++ line_text (Conclusion claim)) (Claimed claim) d.held
  behind_claim = leads_claim d.lists (text ++ d.pending) d.state d.held claim leads w shown

  claim_lawful : IsLawfulText d.lists (((text ++ d.pending) ++ line_text Output) ++ line_text (Conclusion claim))
  claim_lawful =
      let bytes : List ℕ = (text ++ d.pending) ++ line_text Output in
      lawful-line d.lists bytes (spelling (Conclusion claim)) behind_output.tells.whole (line_is_one (Conclusion claim) w) output_lawful
      (at_closing d.lists (trace_of d.lists bytes) (trace_of d.lists bytes).told.place (read_line (spelling (Conclusion claim))) (note_in (spelling (Conclusion claim))) d.state (place_told d.lists bytes (Closing d.state) behind_output.tells.reaches) claim_silent)

  all_lawful : IsLawfulText d.lists ((((text ++ d.pending) ++ line_text Output) ++ line_text (Conclusion claim)) ++ line_text End)
  all_lawful =
      let bytes : List ℕ = ((text ++ d.pending) ++ line_text Output) ++ line_text (Conclusion claim) in
      lawful-line d.lists bytes (spelling End) behind_claim.tells.whole (line_is_one End end_writable) claim_lawful
      (at_claimed d.lists (trace_of d.lists bytes) (trace_of d.lists bytes).told.place (read_line (spelling End)) (note_in (spelling End)) claim (place_told d.lists bytes (Claimed claim) behind_claim.tells.reaches) end_silent)

  abbrev ended : Place → Trace
  ended place = record t { told = record { place = place; held = d.held } }

  trace_output : trace_of d.lists ((text ++ d.pending) ++ line_text Output) ≡ ended (Closing d.state)
  trace_output =
      let one = trace-line d.lists (text ++ d.pending) (spelling Output) st.stands.tells.whole (line_is_one Output output_writable) ∙ ap (λ (x : Trace). trace_after (formula d.lists) x (spelling Output)) st.trace in
      one ∙ after_any (formula d.lists) t (spelling Output) (record { place = Closing d.state; held = d.held }) (Some Output) None (Proving d.state) (ap (λ (x : Told). x.place) before) (line_reads Output output_writable) output_silent
      (ap (λ (x : Trace). x.told) (sym one) ∙ led-told d.lists ((text ++ d.pending) ++ line_text Output) (Closing d.state) d.held behind_output)

  trace_claim : trace_of d.lists (((text ++ d.pending) ++ line_text Output) ++ line_text (Conclusion claim)) ≡ ended (Claimed claim)
  trace_claim =
      let one = trace-line d.lists ((text ++ d.pending) ++ line_text Output) (spelling (Conclusion claim)) behind_output.tells.whole (line_is_one (Conclusion claim) w) ∙ ap (λ (x : Trace). trace_after (formula d.lists) x (spelling (Conclusion claim))) trace_output in
      one ∙ after_any (formula d.lists) (ended (Closing d.state)) (spelling (Conclusion claim)) (record { place = Claimed claim; held = d.held }) (Some (Conclusion claim)) None (Closing d.state) refl (line_reads (Conclusion claim) w) claim_silent
      (ap (λ (x : Trace). x.told) (sym one) ∙ led-told d.lists (((text ++ d.pending) ++ line_text Output) ++ line_text (Conclusion claim)) (Claimed claim) d.held behind_claim)

  trace_end : trace_of d.lists ((((text ++ d.pending) ++ line_text Output) ++ line_text (Conclusion claim)) ++ line_text End) ≡ ended (Done claim)
  trace_end =
      let one = trace-line d.lists (((text ++ d.pending) ++ line_text Output) ++ line_text (Conclusion claim)) (spelling End) behind_claim.tells.whole (line_is_one End end_writable) ∙ ap (λ (x : Trace). trace_after (formula d.lists) x (spelling End)) trace_claim in
      one ∙ after_any (formula d.lists) (ended (Claimed claim)) (spelling End) (record { place = Done claim; held = d.held }) (Some End) None (Claimed claim) refl (line_reads End end_writable) end_silent
      (ap (λ (x : Trace). x.told) (sym one) ∙ led-told d.lists ((((text ++ d.pending) ++ line_text Output) ++ line_text (Conclusion claim)) ++ line_text End) (Done claim) d.held
      (leads_done d.lists (text ++ d.pending) d.state d.held claim leads w shown))

  whole_is : ((((text ++ d.pending) ++ line_text Output) ++ line_text (Conclusion claim)) ++ line_text End) ≡ text ++ (concluded claim d).pending
  whole_is =
      append_assoc ((text ++ d.pending) ++ line_text Output) (line_text (Conclusion claim)) (line_text End)
      ∙ append_assoc (text ++ d.pending) (line_text Output) (line_text (Conclusion claim) ++ line_text End)
      ∙ append_assoc text d.pending (end_lines claim)

  pub ends_traced : StandsTraced text (concluded claim d) (ended (Done claim))
  ends_traced = record {
    stands = concluded_leads claim d text w shown begun st.stands;
    trace = ap (trace_of d.lists) (sym whole_is) ∙ trace_end;
    lawful = subst (IsLawfulText d.lists) whole_is all_lawful;
  }

pub ends_lawful : EndsLawful
ends_lawful text d t claim st begun live w shown = ends_traced text d t claim st begun live w shown
