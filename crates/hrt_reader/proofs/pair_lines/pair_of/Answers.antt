use Rattle.std.proofs.Common.{◌≡◌, ◌∙◌, ℕ, List, Option, position, sym, ap, ap₂, subst, arith}
use Rattle.std.specs.Prelude.{bytes_eq, option_map}
use Rattle.std.proofs.lemmas.List.{length-map}
use Rattle.hrt_base.specs.declared.numbered.PairNo.{PairNo}
use Rattle.rank_tables.specs.Instance.{pair_no}
use Rattle.rank_tables.specs.Names.{is_among}
use Rattle.rank_tables.specs.WellFormed.{names_of_residents, names_of_hospitals}
use Rattle.rank_tables.specs.declared.draft.DraftResident.{DraftResident}
use Rattle.rank_tables.specs.declared.draft.DraftHospital.{DraftHospital}
use Rattle.hrt_reader.proofs.TokenReading.{found_number, found_none}
use Rattle.hrt_reader.proofs.PairKinds.{kind_unknown, kind_unacceptable, first_lost, second_lost, both_found}
use Rattle.hrt_reader.proofs.pair_lines.pair_of.Goals as goal

-- what a look-up among the keys says of the names
among : (w : List ℕ) (keys names : List (List ℕ)) (found answer : Option ℕ) → keys ≡ names → found ≡ position (bytes_eq w) keys → found ≡ answer → position (bytes_eq w) names ≡ answer
among w keys names found answer same by is = subst (λ (l : List (List ℕ)). position (bytes_eq w) l ≡ answer) same (sym by ∙ is)

pub returns-in_default-clause-refused : goal.returns-in_default-clause-refused
returns-in_default-clause-refused c = λ before.
    kind_unknown c.args.instance.now before c.args.resident.now c.args.hospital.now
    (first_lost (is_among c.args.resident.now (names_of_residents c.args.instance.now)) (is_among c.args.hospital.now (names_of_hospitals c.args.instance.now))
    (found_none c.args.resident.now (names_of_residents c.args.instance.now) (among _ _ _ _ _ c.requires.residents c.number_of.ensures c.in_default.is)))

pub returns-in_default-number_of-clause-refused : goal.returns-in_default-number_of-clause-refused
returns-in_default-number_of-clause-refused c = λ before.
    kind_unknown c.args.instance.now before c.args.resident.now c.args.hospital.now
    (second_lost (is_among c.args.resident.now (names_of_residents c.args.instance.now)) (is_among c.args.hospital.now (names_of_hospitals c.args.instance.now))
    (found_none c.args.hospital.now (names_of_hospitals c.args.instance.now) (among _ _ _ _ _ c.requires.hospitals c.number_of-2.ensures c.in_default-number_of.is)))

pub overflow_cast-r : goal.overflow_cast-r
overflow_cast-r c =
    let found = found_number c.args.resident.now (names_of_residents c.args.instance.now) c.in-Some.r (among _ _ _ _ _ c.requires.residents c.number_of.ensures c.in-Some.is) in
    omega (arith, found.2, length-map c.args.instance.now.residents (λ (r : DraftResident). r.name), c.requires.well_formed.few_residents)

pub overflow_cast-h : goal.overflow_cast-h
overflow_cast-h c =
    let found = found_number c.args.hospital.now (names_of_hospitals c.args.instance.now) c.in-Some-number_of.h (among _ _ _ _ _ c.requires.hospitals c.number_of-2.ensures c.in-Some-number_of.is) in
    omega (arith, found.2, length-map c.args.instance.now.hospitals (λ (h : DraftHospital). h.name), c.requires.well_formed.few_hospitals)

pub returns-in-Some-pair_no-clause-known : goal.returns-in-Some-pair_no-clause-known
returns-in-Some-pair_no-clause-known c =
    let r = found_number c.args.resident.now (names_of_residents c.args.instance.now) c.in-Some.r (among _ _ _ _ _ c.requires.residents c.number_of.ensures c.in-Some.is) in
    let h = found_number c.args.hospital.now (names_of_hospitals c.args.instance.now) c.in-Some-number_of.h (among _ _ _ _ _ c.requires.hospitals c.number_of-2.ensures c.in-Some-number_of.is) in
    both_found (is_among c.args.resident.now (names_of_residents c.args.instance.now)) (is_among c.args.hospital.now (names_of_hospitals c.args.instance.now)) r.0 h.0

pub returns-in-Some-pair_no-clause-named : goal.returns-in-Some-pair_no-clause-named
returns-in-Some-pair_no-clause-named c =
    let r = found_number c.args.resident.now (names_of_residents c.args.instance.now) c.in-Some.r (among _ _ _ _ _ c.requires.residents c.number_of.ensures c.in-Some.is) in
    let h = found_number c.args.hospital.now (names_of_hospitals c.args.instance.now) c.in-Some-number_of.h (among _ _ _ _ _ c.requires.hospitals c.number_of-2.ensures c.in-Some-number_of.is) in
    ap₂ (pair_no c.args.instance.now) (sym r.1) (sym h.1) ∙ sym c.pair_no.ensures.number ∙ ap (option_map (λ (p : PairNo). p.0)) c.in-Some-pair_no.is

pub returns-in-None-clause-refused : goal.returns-in-None-clause-refused
returns-in-None-clause-refused c = λ before.
    let r = found_number c.args.resident.now (names_of_residents c.args.instance.now) c.in-Some.r (among _ _ _ _ _ c.requires.residents c.number_of.ensures c.in-Some.is) in
    let h = found_number c.args.hospital.now (names_of_hospitals c.args.instance.now) c.in-Some-number_of.h (among _ _ _ _ _ c.requires.hospitals c.number_of-2.ensures c.in-Some-number_of.is) in
    kind_unacceptable c.args.instance.now before c.args.resident.now c.args.hospital.now
    (both_found (is_among c.args.resident.now (names_of_residents c.args.instance.now)) (is_among c.args.hospital.now (names_of_hospitals c.args.instance.now)) r.0 h.0)
    (ap₂ (pair_no c.args.instance.now) (sym r.1) (sym h.1) ∙ sym c.pair_no.ensures.number ∙ ap (option_map (λ (p : PairNo). p.0)) c.in-None.is)
