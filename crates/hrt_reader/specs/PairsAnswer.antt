-- What `read_pairs` answers.
use Rattle.std.specs.Prelude.{◌≡◌, ℕ, List, [], ◌∷◌, find, Option, Some}
use Rattle.rank_tables.specs.Instance.{Lists}
use Rattle.hrt_text.specs.Text.{Row}
use Rattle.hrt_reader.specs.Refusal.{Refusal}
use Rattle.hrt_reader.specs.PairsText.{PairForm, blank, pair, other, stands_in_pair}
use Rattle.hrt_reader.specs.declared.pair_refusals.PairsKind.{PairsKind}
use Rattle.hrt_reader.specs.declared.pair_refusals.PairsKind.TheVariants as kind
use Rattle.hrt_reader.specs.declared.pair_refusals.PairsRefusal.{PairsRefusal}
use Rattle.hrt_reader.specs.declared.pair_refusals.PairsRefusal.TheVariants.{Bad, NoMemory}
use Rattle.hrt_reader.specs.declared.pair_forms.PairForm.{PairForm as CodeForm}
use Rattle.hrt_reader.specs.declared.pair_forms.PairForm.TheVariants as form

-- the number of a kind
abbrev pub pairs_number : PairsKind → ℕ
pairs_number kind.BadLine = 1
pairs_number kind.UnknownName = 2
pairs_number kind.NotAcceptable = 3
pairs_number kind.RepeatedPair = 4

-- The code's refusal is this one; want of memory tells nothing.
abbrev pub ArePairsRefusedBy : Option Refusal → PairsRefusal → Type 0
ArePairsRefusedBy refusal (Bad kind line) = refusal ≡ Some (record { line = line; kind = pairs_number kind })
ArePairsRefusedBy refusal NoMemory = Unit {0}

-- the code's form of a line as the grammar's
abbrev pub view_pair_form : CodeForm → PairForm
view_pair_form form.Blank = blank
view_pair_form (form.Pair resident hospital) = pair resident.now hospital.now
view_pair_form form.Other = other

-- the least kind of a line, after these lines
unfoldable pub pair_kind_there : Lists → List Row → PairForm → Option ℕ
pair_kind_there lists before form = find (λ n. stands_in_pair lists n before form) (1 ∷ 2 ∷ 3 ∷ 4 ∷ [])
