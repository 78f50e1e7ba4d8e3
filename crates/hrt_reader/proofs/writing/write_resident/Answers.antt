use Rattle.std.proofs.Common.{◌≡◌, ◌++◌, ◌∷◌, [], ◌∙◌, ℕ, List, Option, IsTrue, sym, ap, subst, rules}
use Rattle.std.specs.Prelude.{codes, unwrap_or}
use Rattle.std.specs.List.{concat, list_all}
use Rattle.std.proofs.lemmas.Result.{on_ok_weaker, on_err_weaker}
use Rattle.rank_tables.specs.Instance.{groups_of_resident}
use Rattle.rank_tables.specs.WellFormed.{names_of_residents, names_of_hospitals}
use Rattle.hrt_reader.specs.Spelling.{name_at, items_text}
use Rattle.hrt_reader.specs.Written.{is_number}
use Rattle.hrt_base.proofs.Pieces.{part_longer}
use Rattle.hrt_reader.proofs.Flat.{failed_as, sent_as, three_sent, second_failed, third_failed, three_pieces}
use Rattle.hrt_reader.proofs.WrittenLines.{resident_numbers, front_of_resident}
use Rattle.hrt_reader.proofs.writing.write_resident.Goals as goal

pub write_items-requires-clause-numbers : goal.write_items-requires-clause-numbers
write_items-requires-clause-numbers g c =
    subst (λ (l : List (List ℕ)). IsTrue (list_all (is_number (names_of_hospitals c.args.instance.now)) (concat l))) (sym c.resident_list.ensures)
    (resident_numbers c.args.instance.now c.args.r c.requires.well_formed c.requires.declared)

pub returns-in_err-write_pieces-clause-failed : goal.returns-in_err-write_pieces-clause-failed
returns-in_err-write_pieces-clause-failed g c =
    let name : List ℕ = name_at (names_of_residents c.args.instance.now) c.args.r in
    let named : c.bytes-name.result.now ≡ name = c.bytes-name.ensures.value ∙ sym (ap (λ (o : Option (List ℕ)). unwrap_or o []) c.resident_name.ensures) in
    let rest : List ℕ = items_text (names_of_hospitals c.args.instance.now) (groups_of_resident c.args.instance.now c.args.r) ++ 10 ∷ [] in
    let is = failed_as _ _ _ (codes "resident " ++ (name ++ 58 ∷ [])) _ _ (three_pieces _ _ _ _ _ _ c.as_slice.ensures named c.as_slice-2.ensures) c.in_err-write_pieces.ensures.failed in
    let part = failed_as _ _ _ _ _ _ (front_of_resident name rest) (part_longer _ _ _ rest _ _ is) in
    search rules

pub returns-in_err-write_items-clause-failed : goal.returns-in_err-write_items-clause-failed
returns-in_err-write_items-clause-failed g c =
    let name : List ℕ = name_at (names_of_residents c.args.instance.now) c.args.r in
    let named : c.bytes-name.result.now ≡ name = c.bytes-name.ensures.value ∙ sym (ap (λ (o : Option (List ℕ)). unwrap_or o []) c.resident_name.ensures) in
    let names : List (List ℕ) = names_of_hospitals c.args.instance.now in
    let items : List ℕ = items_text names (groups_of_resident c.args.instance.now c.args.r) in
    let is = sent_as _ _ _ (codes "resident " ++ (name ++ 58 ∷ [])) _ _ (three_pieces _ _ _ _ _ _ c.as_slice.ensures named c.as_slice-2.ensures) c.in_ok-write_pieces.ensures.sent in
    let then = failed_as _ _ _ items _ _ (ap (items_text names) c.resident_list.ensures) c.in_err-write_items.ensures.failed in
    let part = failed_as _ _ _ _ _ _ (front_of_resident name (items ++ 10 ∷ [])) (second_failed _ _ _ items (10 ∷ []) _ _ _ is then) in
    search rules

pub returns-clause-sent : goal.returns-clause-sent
returns-clause-sent g c =
    let name : List ℕ = name_at (names_of_residents c.args.instance.now) c.args.r in
    let named : c.bytes-name.result.now ≡ name = c.bytes-name.ensures.value ∙ sym (ap (λ (o : Option (List ℕ)). unwrap_or o []) c.resident_name.ensures) in
    let names : List (List ℕ) = names_of_hospitals c.args.instance.now in
    let items : List ℕ = items_text names (groups_of_resident c.args.instance.now c.args.r) in
    let is = sent_as _ _ _ (codes "resident " ++ (name ++ 58 ∷ [])) _ _ (three_pieces _ _ _ _ _ _ c.as_slice.ensures named c.as_slice-2.ensures) c.in_ok-write_pieces.ensures.sent in
    let then = sent_as _ _ _ items _ _ (ap (items_text names) c.resident_list.ensures) c.in_ok-write_items.ensures.sent in
    on_ok_weaker _ (λ sent. sent_as _ _ _ _ _ _ (front_of_resident name (items ++ 10 ∷ [])) (three_sent _ _ _ items (10 ∷ []) _ _ _ _ is then sent)) c.write_all.ensures.sent

pub returns-clause-failed : goal.returns-clause-failed
returns-clause-failed g c =
    let name : List ℕ = name_at (names_of_residents c.args.instance.now) c.args.r in
    let named : c.bytes-name.result.now ≡ name = c.bytes-name.ensures.value ∙ sym (ap (λ (o : Option (List ℕ)). unwrap_or o []) c.resident_name.ensures) in
    let names : List (List ℕ) = names_of_hospitals c.args.instance.now in
    let items : List ℕ = items_text names (groups_of_resident c.args.instance.now c.args.r) in
    let is = sent_as _ _ _ (codes "resident " ++ (name ++ 58 ∷ [])) _ _ (three_pieces _ _ _ _ _ _ c.as_slice.ensures named c.as_slice-2.ensures) c.in_ok-write_pieces.ensures.sent in
    let then = sent_as _ _ _ items _ _ (ap (items_text names) c.resident_list.ensures) c.in_ok-write_items.ensures.sent in
    on_err_weaker _ (λ part. failed_as _ _ _ _ _ _ (front_of_resident name (items ++ 10 ∷ [])) (third_failed _ _ _ items (10 ∷ []) _ _ _ _ is then part)) c.write_all.ensures.failed
