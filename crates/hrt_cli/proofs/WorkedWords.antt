-- Words that ask for something, and words that ask for nothing.
use Rattle.std.specs.Prelude.{◌≡◌, [], ◌∷◌, codes, Some, None, refl}
use Rattle.hrt_cli.specs.Requests.{solve, audit, quick, request_of}

solves : request_of (codes "solve" ∷ codes "i" ∷ codes "m" ∷ codes "p" ∷ []) ≡ Some (solve (codes "i") (codes "m") (codes "p") 1000000)
solves = refl

solves_within : request_of (codes "solve" ∷ codes "i" ∷ codes "m" ∷ codes "p" ∷ codes "--conflicts" ∷ codes "0120" ∷ []) ≡ Some (solve (codes "i") (codes "m") (codes "p") 120)
solves_within = refl

the_most_conflicts : request_of (codes "solve" ∷ codes "i" ∷ codes "m" ∷ codes "p" ∷ codes "--conflicts" ∷ codes "00000001000000000000" ∷ []) ≡ Some (solve (codes "i") (codes "m") (codes "p") 1000000000000)
the_most_conflicts = refl

audits : request_of (codes "audit" ∷ codes "i" ∷ codes "q" ∷ []) ≡ Some (audit (codes "i") (codes "q"))
audits = refl

proves : request_of (codes "quick" ∷ codes "i" ∷ codes "m" ∷ codes "p" ∷ []) ≡ Some (quick (codes "i") (codes "m") (codes "p"))
proves = refl

-- ---- nothing

no_words : request_of [] ≡ None
no_words = refl

no_file : request_of (codes "solve" ∷ []) ≡ None
no_file = refl

no_proof : request_of (codes "solve" ∷ codes "i" ∷ codes "m" ∷ []) ≡ None
no_proof = refl

an_empty_name : request_of (codes "solve" ∷ codes "i" ∷ codes "" ∷ codes "p" ∷ []) ≡ None
an_empty_name = refl

an_option : request_of (codes "solve" ∷ codes "-i" ∷ codes "m" ∷ codes "p" ∷ []) ≡ None
an_option = refl

a_capital : request_of (codes "Solve" ∷ codes "i" ∷ codes "m" ∷ codes "p" ∷ []) ≡ None
a_capital = refl

a_file_too_many : request_of (codes "audit" ∷ codes "i" ∷ codes "q" ∷ codes "r" ∷ []) ≡ None
a_file_too_many = refl

-- ---- budgets

without_a_number : request_of (codes "solve" ∷ codes "i" ∷ codes "m" ∷ codes "p" ∷ codes "--conflicts" ∷ []) ≡ None
without_a_number = refl

with_a_sign : request_of (codes "solve" ∷ codes "i" ∷ codes "m" ∷ codes "p" ∷ codes "--conflicts" ∷ codes "+5" ∷ []) ≡ None
with_a_sign = refl

an_empty_number : request_of (codes "solve" ∷ codes "i" ∷ codes "m" ∷ codes "p" ∷ codes "--conflicts" ∷ codes "" ∷ []) ≡ None
an_empty_number = refl

one_conflict_too_many : request_of (codes "solve" ∷ codes "i" ∷ codes "m" ∷ codes "p" ∷ codes "--conflicts" ∷ codes "1000000000001" ∷ []) ≡ None
one_conflict_too_many = refl

one_digit_too_many : request_of (codes "solve" ∷ codes "i" ∷ codes "m" ∷ codes "p" ∷ codes "--conflicts" ∷ codes "000000000000000000005" ∷ []) ≡ None
one_digit_too_many = refl

said_twice : request_of (codes "solve" ∷ codes "i" ∷ codes "m" ∷ codes "p" ∷ codes "--conflicts" ∷ codes "5" ∷ codes "--conflicts" ∷ codes "5" ∷ []) ≡ None
said_twice = refl

before_the_files : request_of (codes "solve" ∷ codes "--conflicts" ∷ codes "5" ∷ codes "i" ∷ codes "m" ∷ codes "p" ∷ []) ≡ None
before_the_files = refl

-- ---- names

one_name_twice : request_of (codes "audit" ∷ codes "i" ∷ codes "i" ∷ []) ≡ None
one_name_twice = refl

model_and_proof_alike : request_of (codes "quick" ∷ codes "i" ∷ codes "m" ∷ codes "m" ∷ []) ≡ None
model_and_proof_alike = refl

proof_over_the_instance : request_of (codes "quick" ∷ codes "i" ∷ codes "m" ∷ codes "i" ∷ []) ≡ None
proof_over_the_instance = refl
