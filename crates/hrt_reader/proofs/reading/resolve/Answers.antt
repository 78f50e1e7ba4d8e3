use Rattle.std.proofs.Common.{◌≡◌, ◌∙◌, ◌+◌, ◌++◌, ◌∷◌, [], ℕ, suc, List, true, false, not, sym, ap, subst, map, length, take, drop, arith, below_more}
use Rattle.hrt_text.specs.Text.{Row, rows, tokens}
use Rattle.rank_tables.specs.Instance.{Lists}
use Rattle.rank_tables.specs.declared.draft.DraftResident.{DraftResident}
use Rattle.rank_tables.specs.declared.draft.DraftHospital.{DraftHospital}
use Rattle.hrt_reader.specs.Refusal.{declared_residents, declared_hospitals, residents_of, hospitals_of, resident_in, hospital_in, has_kind}
use Rattle.hrt_reader.proofs.Places.{drop_next, all_read, all_taken, within_at}
use Rattle.hrt_reader.proofs.Accepted.{fine_at, six_at}
use Rattle.hrt_reader.proofs.Unknowns.{AllKnown, unknown_refused, all_known, few_residents, few_hospitals, residents_more, hospitals_more, both}
use Rattle.rank_tables.specs.WellFormed.{IsWellFormed}
use Rattle.hrt_reader.proofs.AcceptedLists.{accepted_well_formed}
use Rattle.hrt_reader.proofs.reading.resolve.Goals as goal

pub add_line-requires-clause-few_residents : goal.add_line-requires-clause-few_residents
add_line-requires-clause-few_residents c = omega (arith, few_residents (rows c.args.text.now) c.args.names.now.residents.keys c.requires.residents, c.requires.short)

pub add_line-requires-clause-few_hospitals : goal.add_line-requires-clause-few_hospitals
add_line-requires-clause-few_hospitals c = omega (arith, few_hospitals (rows c.args.text.now) c.args.names.now.hospitals.keys c.requires.hospitals, c.requires.short)

pub add_line-requires-clause-fine : goal.add_line-requires-clause-fine
add_line-requires-clause-fine c =
    let all : List Row = rows c.args.text.now in
    let row : Row = tokens c.in-Some.line.now in
    let after : List Row = rows c.in-Some.after.now in
    let e : drop c.loop-line.number all ≡ row ∷ after = c.loop-line.invariant.rest ∙ ap (map tokens) c.in-Some.ensures.some in
    fine_at all c.loop-line.number row after c.requires.accepted e

pub returns-then-not-known-clause-refused : goal.returns-then-not-known-clause-refused
returns-then-not-known-clause-refused c =
    let all : List Row = rows c.args.text.now in
    let i : ℕ = c.loop-line.number in
    let row : Row = tokens c.in-Some.line.now in
    let after : List Row = rows c.in-Some.after.now in
    let v = c.loop-line.invariant in
    let e : drop i all ≡ row ∷ after = v.rest ∙ ap (map tokens) c.in-Some.ensures.some in
    let unknown = c.in_ok-known.ensures.known all (sym c.requires.residents) (sym c.requires.hospitals) in
    let six : has_kind all (i + 1) 6 ≡ true =
    let s : i + 1 ≡ suc i = omega arith in
    subst (λ (k : ℕ). has_kind all k 6 ≡ true) (sym s) (six_at all i row after c.requires.accepted e ∙ unknown ∙ ap not c.if-not-known.true) in
    let s : i + 1 ≡ suc i = omega arith in
    unknown_refused all i c.requires.accepted (omega (arith, within_at all i row after e)) v.known (subst (λ (k : ℕ). has_kind all k 6 ≡ true) s six)

pub loop-line-preserved : goal.loop-line-preserved
loop-line-preserved c =
    let all : List Row = rows c.args.text.now in
    let i : ℕ = c.loop-line.number in
    let row : Row = tokens c.in-Some.line.now in
    let after : List Row = rows c.in-Some.after.now in
    let v = c.loop-line.invariant in
    let e : drop i all ≡ row ∷ after = v.rest ∙ ap (map tokens) c.in-Some.ensures.some in
    let done = c.in_ok-known.ensures in
    let known = done.known all (sym c.requires.residents) (sym c.requires.hospitals) in
    record {
      rest = drop_next all i row after e;
      within = omega (arith, within_at all i row after e);
      residents = residents_more (declared_hospitals all) all i row after e
          ∙ ap (λ (l : List DraftResident). l ++ map (resident_in (declared_hospitals all)) (residents_of (row ∷ []))) v.residents
          ∙ ap (λ (names : List (List ℕ)). c.loop-line.residents.items ++ map (resident_in names) (residents_of (row ∷ []))) (sym c.requires.hospitals)
          ∙ sym (done.residents c.if-not-known.false);
      hospitals = hospitals_more (declared_residents all) all i row after e
          ∙ ap (λ (l : List DraftHospital). l ++ map (hospital_in (declared_residents all)) (hospitals_of (row ∷ []))) v.hospitals
          ∙ ap (λ (names : List (List ℕ)). c.loop-line.hospitals.items ++ map (hospital_in names) (hospitals_of (row ∷ []))) (sym c.requires.residents)
          ∙ sym (done.hospitals c.if-not-known.false);
      known = below_more (λ (k : ℕ). has_kind all (suc k) 6 ≡ false) i v.known (six_at all i row after c.requires.accepted e ∙ known ∙ ap not c.if-not-known.false);
    }

pub returns-clause-reads : goal.returns-clause-reads
returns-clause-reads c =
    let all : List Row = rows c.args.text.now in
    let v = c.loop-line.invariant in
    let end : c.loop-line.number ≡ length all = all_read all c.loop-line.number (v.rest ∙ ap (map tokens) c.in_default.ensures.none) v.within in
    let whole : take c.loop-line.number all ≡ all = ap (λ (k : ℕ). take k all) end ∙ all_taken all in
    record {
      accepted = all_known all c.requires.accepted (subst (λ (k : ℕ). AllKnown all k) end v.known);
      says = ap (λ (l : List DraftResident). both l (map (hospital_in (declared_residents all)) (hospitals_of all)))
          (ap (λ (l : List Row). map (resident_in (declared_hospitals all)) (residents_of l)) (sym whole) ∙ v.residents)
          ∙ ap (both c.loop-line.residents.items)
          (ap (λ (l : List Row). map (hospital_in (declared_residents all)) (hospitals_of l)) (sym whole) ∙ v.hospitals);
    }

pub returns-clause-well_formed : goal.returns-clause-well_formed
returns-clause-well_formed c =
    let all : List Row = rows c.args.text.now in
    let v = c.loop-line.invariant in
    let end : c.loop-line.number ≡ length all = all_read all c.loop-line.number (v.rest ∙ ap (map tokens) c.in_default.ensures.none) v.within in
    let whole : take c.loop-line.number all ≡ all = ap (λ (k : ℕ). take k all) end ∙ all_taken all in
    let accepted = all_known all c.requires.accepted (subst (λ (k : ℕ). AllKnown all k) end v.known) in
    let says = ap (λ (l : List DraftResident). both l (map (hospital_in (declared_residents all)) (hospitals_of all)))
    (ap (λ (l : List Row). map (resident_in (declared_hospitals all)) (residents_of l)) (sym whole) ∙ v.residents)
    ∙ ap (both c.loop-line.residents.items)
    (ap (λ (l : List Row). map (hospital_in (declared_residents all)) (hospitals_of l)) (sym whole) ∙ v.hospitals) in
    subst (λ (l : Lists). IsWellFormed l) says (accepted_well_formed all accepted)
