-- The kinds by their numbers.
use Rattle.std.specs.Prelude.{ℕ}
use Rattle.hrt_reader.specs.declared.refusals.ReadKind.{ReadKind}
use Rattle.hrt_reader.specs.declared.refusals.ReadKind.TheVariants as kind
use Rattle.hrt_reader.specs.declared.refusals.Flaw.{Flaw}
use Rattle.hrt_reader.specs.declared.refusals.Flaw.TheVariants as flaw

-- the number of a kind
abbrev pub number : ReadKind → ℕ
number kind.BadHeader = 1
number kind.BadLine = 2
number kind.BadName = 3
number kind.BadCapacity = 4
number kind.DeclaredTwice = 5
number kind.UnknownName = 6
number kind.NamedTwice = 7
number kind.BadTie = 8
number kind.NoEnd = 9
number kind.AfterEnd = 10

-- the number of a flaw: that of its kind, 11 of a resident too many, 12 of a hospital too many
abbrev pub flaw_number : Flaw → ℕ
flaw_number (flaw.Bad kind) = number kind
flaw_number flaw.TooManyResidents = 11
flaw_number flaw.TooManyHospitals = 12
