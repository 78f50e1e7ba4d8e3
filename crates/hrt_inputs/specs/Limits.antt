-- What a run counts, and the most that it takes.
use Rattle.std.specs.Prelude.{ℕ}
use Rattle.hrt_inputs.specs.declared.limit.Limit.{Limit}
use Rattle.hrt_inputs.specs.declared.limit.Limit.TheVariants.{Residents, Hospitals, Pairs, Terms, InstanceBytes, PairsBytes, ModelBytes, Variables, Rows, ProofBytes}
use Rattle.rank_tables.specs.WellFormed.{most_residents, most_hospitals, most_pairs, most_terms}
use Rattle.opb_text.specs.Limits.{most_rows, most_variables}
use Rattle.proof_checker.specs.Limits.{most_proof_bytes}

-- the most that a run takes of what the limit is on
abbrev pub most : Limit → ℕ
most Residents = most_residents
most Hospitals = most_hospitals
most Pairs = most_pairs
most Terms = most_terms
most InstanceBytes = 67108864
most PairsBytes = 67108864
most ModelBytes = 268435456
most Variables = most_variables
most Rows = most_rows
most ProofBytes = most_proof_bytes
