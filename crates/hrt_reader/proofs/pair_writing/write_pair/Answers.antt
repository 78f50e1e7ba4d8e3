use Rattle.std.proofs.Common.{◌≡◌, ◌∙◌, [], ℕ, List, Option, sym, ap}
use Rattle.std.specs.Prelude.{unwrap_or}
use Rattle.std.proofs.lemmas.Result.{on_ok_weaker, on_err_weaker}
use Rattle.rank_tables.specs.Instance.{Lists}
use Rattle.rank_tables.specs.WellFormed.{names_of_residents, names_of_hospitals}
use Rattle.hrt_reader.specs.Spelling.{name_at}
use Rattle.hrt_reader.proofs.Flat.{five_pieces, sent_as, failed_as}
use Rattle.hrt_reader.proofs.PairsBack.{resident_of, hospital_of, pair_pieces}
use Rattle.hrt_reader.proofs.pair_writing.write_pair.Goals as goal

pub returns-clause-sent : goal.returns-clause-sent
returns-clause-sent g c =
    let lists : Lists = c.args.instance.now in
    let bytes : Option (List ℕ) → List ℕ = λ o. unwrap_or o [] in
    let resident : c.bytes-resident.result.now ≡ resident_of lists c.args.pair.0 = c.bytes-resident.ensures.value ∙ sym (ap bytes c.resident_name.ensures) ∙ ap (name_at (names_of_residents lists)) c.resident_of.ensures.value in
    let hospital : c.bytes-hospital.result.now ≡ hospital_of lists c.args.pair.0 = c.bytes-hospital.ensures.value ∙ sym (ap bytes c.hospital_name.ensures) ∙ ap (name_at (names_of_hospitals lists)) c.hospital_of.ensures.value in
    let is = five_pieces _ _ _ _ _ _ _ _ _ _ c.as_slice.ensures resident c.as_slice-2.ensures hospital c.as_slice-3.ensures in
    on_ok_weaker _ (sent_as _ _ _ _ _ _ (is ∙ pair_pieces (resident_of lists c.args.pair.0) (hospital_of lists c.args.pair.0))) c.write_pieces.ensures.sent

pub returns-clause-failed : goal.returns-clause-failed
returns-clause-failed g c =
    let lists : Lists = c.args.instance.now in
    let bytes : Option (List ℕ) → List ℕ = λ o. unwrap_or o [] in
    let resident : c.bytes-resident.result.now ≡ resident_of lists c.args.pair.0 = c.bytes-resident.ensures.value ∙ sym (ap bytes c.resident_name.ensures) ∙ ap (name_at (names_of_residents lists)) c.resident_of.ensures.value in
    let hospital : c.bytes-hospital.result.now ≡ hospital_of lists c.args.pair.0 = c.bytes-hospital.ensures.value ∙ sym (ap bytes c.hospital_name.ensures) ∙ ap (name_at (names_of_hospitals lists)) c.hospital_of.ensures.value in
    let is = five_pieces _ _ _ _ _ _ _ _ _ _ c.as_slice.ensures resident c.as_slice-2.ensures hospital c.as_slice-3.ensures in
    on_err_weaker _ (failed_as _ _ _ _ _ _ (is ∙ pair_pieces (resident_of lists c.args.pair.0) (hospital_of lists c.args.pair.0))) c.write_pieces.ensures.failed
