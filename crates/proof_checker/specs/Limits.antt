-- What a checker takes.
use Rattle.std.specs.Prelude.{ℕ, ◌^◌}

-- the most bytes of a proof that a checker takes
abbrev pub most_proof_bytes : ℕ
most_proof_bytes = 2 ^ 40
