use Rattle.std.proofs.Common.{◌≡◌, ◌++◌, ◌∷◌, [], ◌∙◌, ℕ, List, Option, IsTrue, sym, ap, subst, rules}
use Rattle.std.specs.Prelude.{codes, decimal, unwrap_or}
use Rattle.std.specs.List.{concat, list_all}
use Rattle.std.proofs.lemmas.Result.{on_ok_weaker, on_err_weaker}
use Rattle.rank_tables.specs.Instance.{groups_of_hospital, capacity_of}
use Rattle.rank_tables.specs.WellFormed.{names_of_residents, names_of_hospitals}
use Rattle.hrt_reader.specs.Spelling.{name_at, items_text}
use Rattle.hrt_reader.specs.Written.{is_number}
use Rattle.hrt_base.proofs.Pieces.{part_longer}
use Rattle.hrt_reader.proofs.Flat.{failed_as, sent_as, three_sent, second_failed, third_failed, five_pieces}
use Rattle.hrt_reader.proofs.WrittenLines.{hospital_numbers, front_of_hospital}
use Rattle.hrt_reader.proofs.writing.write_hospital.Goals as goal

pub write_items-requires-clause-numbers : goal.write_items-requires-clause-numbers
write_items-requires-clause-numbers g c =
    subst (λ (l : List (List ℕ)). IsTrue (list_all (is_number (names_of_residents c.args.instance.now)) (concat l))) (sym c.hospital_list.ensures)
    (hospital_numbers c.args.instance.now c.args.h c.requires.well_formed c.requires.declared)

pub returns-in_err-write_pieces-clause-failed : goal.returns-in_err-write_pieces-clause-failed
returns-in_err-write_pieces-clause-failed g c =
    let name : List ℕ = name_at (names_of_hospitals c.args.instance.now) c.args.h in
    let named : c.bytes-name.result.now ≡ name = c.bytes-name.ensures.value ∙ sym (ap (λ (o : Option (List ℕ)). unwrap_or o []) c.hospital_name.ensures) in
    let posts : List ℕ = decimal (capacity_of c.args.instance.now c.args.h) in
    let spelled : c.as_bytes-capacity.result.now ≡ posts = c.as_bytes-capacity.ensures.value ∙ c.format.ensures.text ∙ ap decimal c.capacity.ensures.value in
    let rest : List ℕ = items_text (names_of_residents c.args.instance.now) (groups_of_hospital c.args.instance.now c.args.h) ++ 10 ∷ [] in
    let is = failed_as _ _ _ (codes "hospital " ++ (name ++ (32 ∷ (posts ++ 58 ∷ [])))) _ _ (five_pieces _ _ _ _ _ _ _ _ _ _ c.as_slice.ensures named c.as_slice-2.ensures spelled c.as_slice-3.ensures) c.in_err-write_pieces.ensures.failed in
    let part = failed_as _ _ _ _ _ _ (front_of_hospital name posts rest) (part_longer _ _ _ rest _ _ is) in
    search rules

pub returns-in_err-write_items-clause-failed : goal.returns-in_err-write_items-clause-failed
returns-in_err-write_items-clause-failed g c =
    let name : List ℕ = name_at (names_of_hospitals c.args.instance.now) c.args.h in
    let named : c.bytes-name.result.now ≡ name = c.bytes-name.ensures.value ∙ sym (ap (λ (o : Option (List ℕ)). unwrap_or o []) c.hospital_name.ensures) in
    let posts : List ℕ = decimal (capacity_of c.args.instance.now c.args.h) in
    let spelled : c.as_bytes-capacity.result.now ≡ posts = c.as_bytes-capacity.ensures.value ∙ c.format.ensures.text ∙ ap decimal c.capacity.ensures.value in
    let names : List (List ℕ) = names_of_residents c.args.instance.now in
    let items : List ℕ = items_text names (groups_of_hospital c.args.instance.now c.args.h) in
    let is = sent_as _ _ _ (codes "hospital " ++ (name ++ (32 ∷ (posts ++ 58 ∷ [])))) _ _ (five_pieces _ _ _ _ _ _ _ _ _ _ c.as_slice.ensures named c.as_slice-2.ensures spelled c.as_slice-3.ensures) c.in_ok-write_pieces.ensures.sent in
    let then = failed_as _ _ _ items _ _ (ap (items_text names) c.hospital_list.ensures) c.in_err-write_items.ensures.failed in
    let part = failed_as _ _ _ _ _ _ (front_of_hospital name posts (items ++ 10 ∷ [])) (second_failed _ _ _ items (10 ∷ []) _ _ _ is then) in
    search rules

pub returns-clause-sent : goal.returns-clause-sent
returns-clause-sent g c =
    let name : List ℕ = name_at (names_of_hospitals c.args.instance.now) c.args.h in
    let named : c.bytes-name.result.now ≡ name = c.bytes-name.ensures.value ∙ sym (ap (λ (o : Option (List ℕ)). unwrap_or o []) c.hospital_name.ensures) in
    let posts : List ℕ = decimal (capacity_of c.args.instance.now c.args.h) in
    let spelled : c.as_bytes-capacity.result.now ≡ posts = c.as_bytes-capacity.ensures.value ∙ c.format.ensures.text ∙ ap decimal c.capacity.ensures.value in
    let names : List (List ℕ) = names_of_residents c.args.instance.now in
    let items : List ℕ = items_text names (groups_of_hospital c.args.instance.now c.args.h) in
    let is = sent_as _ _ _ (codes "hospital " ++ (name ++ (32 ∷ (posts ++ 58 ∷ [])))) _ _ (five_pieces _ _ _ _ _ _ _ _ _ _ c.as_slice.ensures named c.as_slice-2.ensures spelled c.as_slice-3.ensures) c.in_ok-write_pieces.ensures.sent in
    let then = sent_as _ _ _ items _ _ (ap (items_text names) c.hospital_list.ensures) c.in_ok-write_items.ensures.sent in
    on_ok_weaker _ (λ sent. sent_as _ _ _ _ _ _ (front_of_hospital name posts (items ++ 10 ∷ [])) (three_sent _ _ _ items (10 ∷ []) _ _ _ _ is then sent)) c.write_all.ensures.sent

pub returns-clause-failed : goal.returns-clause-failed
returns-clause-failed g c =
    let name : List ℕ = name_at (names_of_hospitals c.args.instance.now) c.args.h in
    let named : c.bytes-name.result.now ≡ name = c.bytes-name.ensures.value ∙ sym (ap (λ (o : Option (List ℕ)). unwrap_or o []) c.hospital_name.ensures) in
    let posts : List ℕ = decimal (capacity_of c.args.instance.now c.args.h) in
    let spelled : c.as_bytes-capacity.result.now ≡ posts = c.as_bytes-capacity.ensures.value ∙ c.format.ensures.text ∙ ap decimal c.capacity.ensures.value in
    let names : List (List ℕ) = names_of_residents c.args.instance.now in
    let items : List ℕ = items_text names (groups_of_hospital c.args.instance.now c.args.h) in
    let is = sent_as _ _ _ (codes "hospital " ++ (name ++ (32 ∷ (posts ++ 58 ∷ [])))) _ _ (five_pieces _ _ _ _ _ _ _ _ _ _ c.as_slice.ensures named c.as_slice-2.ensures spelled c.as_slice-3.ensures) c.in_ok-write_pieces.ensures.sent in
    let then = sent_as _ _ _ items _ _ (ap (items_text names) c.hospital_list.ensures) c.in_ok-write_items.ensures.sent in
    on_err_weaker _ (λ part. failed_as _ _ _ _ _ _ (front_of_hospital name posts (items ++ 10 ∷ [])) (third_failed _ _ _ items (10 ∷ []) _ _ _ _ is then part)) c.write_all.ensures.failed
