-- What the two passes over a text answer.
use Rattle.std.specs.Prelude.{◌≡◌, ℕ, false, Option, Some}
use Rattle.hrt_text.specs.Grammar.{Form}
use Rattle.hrt_reader.specs.declared.refusals.ReadRefusal.{ReadRefusal}
use Rattle.hrt_reader.specs.declared.refusals.ReadRefusal.TheVariants.{Bad, Limit, NoMemory}
use Rattle.hrt_reader.specs.declared.refusals.LimitKind.TheVariants.{Residents, Hospitals, Pairs, Terms}
use Rattle.hrt_reader.specs.Kinds.{number}
use Rattle.hrt_reader.specs.Refusal.{Refusal, bad_name, bad_capacity, bad_tie}

-- The code's refusal is this one; want of memory tells nothing.
abbrev pub IsRefusedBy : Option Refusal → ReadRefusal → Type 0
IsRefusedBy refusal (Bad kind line) = refusal ≡ Some (record { line = line; kind = number kind })
IsRefusedBy refusal (Limit Residents) = (line : ℕ) × (refusal ≡ Some (record { line = line; kind = 11 }))
IsRefusedBy refusal (Limit Hospitals) = (line : ℕ) × (refusal ≡ Some (record { line = line; kind = 12 }))
IsRefusedBy refusal (Limit Pairs) = ⊥
IsRefusedBy refusal (Limit Terms) = ⊥
IsRefusedBy refusal NoMemory = Unit {0}

-- none of the kinds 3, 4 and 8 stands in a line of this form
pub record IsFine (form : Form) : Type 0 where
  pub names : bad_name form ≡ false
  pub posts : bad_capacity form ≡ false
  pub ties : bad_tie form ≡ false
