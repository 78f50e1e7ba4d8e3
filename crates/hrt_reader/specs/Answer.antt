-- What `read_instance` answers.
use Rattle.std.specs.Prelude.{◌≡◌, ℕ, ◌<◌, ◌≤◌, Some, None, List}
use Rattle.rank_tables.specs.Instance.{pair_count}
use Rattle.rank_tables.specs.Terms.{model_terms}
use Rattle.rank_tables.specs.WellFormed.{most_pairs, most_terms}
use Rattle.hrt_text.specs.Text.{rows}
use Rattle.hrt_reader.specs.declared.refusals.ReadRefusal.{ReadRefusal}
use Rattle.hrt_reader.specs.declared.refusals.ReadRefusal.TheVariants.{Bad, Limit, NoMemory}
use Rattle.hrt_reader.specs.declared.refusals.LimitKind.TheVariants.{Residents, Hospitals, Pairs, Terms}
use Rattle.hrt_reader.specs.Kinds.{number}
use Rattle.hrt_reader.specs.Refusal.{refusal, lists_of_rows}

-- The text is refused so. Too many pairs are told only of a text that has no other refusal, and too many terms of the 0/1
-- model only where there aren't too many pairs; want of memory tells nothing.
abbrev pub IsRefused : List ℕ → ReadRefusal → Type 0
IsRefused bytes (Bad kind line) = refusal (rows bytes) ≡ Some (record { line = line; kind = number kind })
IsRefused bytes (Limit Residents) = (line : ℕ) × (refusal (rows bytes) ≡ Some (record { line = line; kind = 11 }))
IsRefused bytes (Limit Hospitals) = (line : ℕ) × (refusal (rows bytes) ≡ Some (record { line = line; kind = 12 }))
IsRefused bytes (Limit Pairs) = (refusal (rows bytes) ≡ None) × (most_pairs < pair_count (lists_of_rows (rows bytes)))
IsRefused bytes (Limit Terms) =
    (refusal (rows bytes) ≡ None) × (pair_count (lists_of_rows (rows bytes)) ≤ most_pairs) × (most_terms < model_terms (lists_of_rows (rows bytes)))
IsRefused bytes NoMemory = Unit {0}
