-- As many declarations as names.
use Rattle.std.proofs.Common.{◌≡◌, ℕ, List, length, sym, ap, ◌∙◌}
use Rattle.std.specs.Borrow.{Bor}
use Rattle.std.proofs.lemmas.List.{length-map}
use Rattle.hrt_text.specs.Text.{Row}
use Rattle.hrt_reader.specs.Refusal.{ResidentLine, HospitalLine, residents_of, hospitals_of, declared_residents, declared_hospitals}
use Rattle.hrt_text.specs.Views.{texts}

pub residents_count : (before : List Row) (keys : List (Bor (List ℕ))) → declared_residents before ≡ texts keys → length (residents_of before) ≡ length keys
residents_count before keys e = sym (length-map (residents_of before) (λ (l : ResidentLine). l.name)) ∙ ap length e ∙ length-map keys (λ (k : Bor (List ℕ)). k.now)

pub hospitals_count : (before : List Row) (keys : List (Bor (List ℕ))) → declared_hospitals before ≡ texts keys → length (hospitals_of before) ≡ length keys
hospitals_count before keys e = sym (length-map (hospitals_of before) (λ (l : HospitalLine). l.name)) ∙ ap length e ∙ length-map keys (λ (k : Bor (List ℕ)). k.now)
