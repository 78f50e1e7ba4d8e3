-- Reports on an instance worked by hand, and on what is refused.
use Rattle.std.specs.Prelude.{◌≡◌, ℕ, true, false, List, [], ◌∷◌, ◌++◌, flat_map, codes, negsuc, Some, None, refl}
use Rattle.std.specs.Fmt.{digits}
use Rattle.rank_tables.specs.Instance.{Lists}
use Rattle.stability_audit.specs.Verdict.{verdict_of}
use Rattle.proof_lines.specs.declared.line.Claim.TheVariants.{Bounds, Nothing}
use Rattle.proof_rules.specs.Refusals.{BadId, NotASolution, WrongCount}
use Rattle.hrt_inputs.specs.declared.limit.Limit.TheVariants.{InstanceBytes, Terms, ProofBytes}
use Rattle.hrt_cli.specs.Reports.{audit_report, bound_report, check_report, first_finding, limit_line, match_report, model_report, proof_refusal_report, verify_report}

-- lines, each with its line feed
abbrev lined : List (List ℕ) → List ℕ
lined texts = flat_map (λ text. text ++ 10 ∷ []) texts

-- ---- resident a: x y / resident b: x / hospital x 1: (a b) / hospital y 1: a

abbrev tied : Lists
tied = record {
  residents = record { name = codes "a"; groups = (0 ∷ []) ∷ (1 ∷ []) ∷ [] } ∷ record { name = codes "b"; groups = (0 ∷ []) ∷ [] } ∷ [];
  hospitals = record { name = codes "x"; capacity = 1; groups = (0 ∷ 1 ∷ []) ∷ [] } ∷ record { name = codes "y"; capacity = 1; groups = (0 ∷ []) ∷ [] } ∷ [];
}

-- what stands above each report on the instance
abbrev counts : List (List ℕ)
counts = codes "residents 2" ∷ codes "hospitals 2" ∷ codes "pairs 3" ∷ codes "one-sided 0" ∷ []

bounded : bound_report tied 0 2 ≡ lined (counts ++ codes "deleted 0" ∷ codes "ceiling 2" ∷ codes "at most 2" ∷ [])
unfolding digits
bounded = refl

met : match_report tied (first_finding tied 0 2) true ≡ lined (counts ++ codes "deleted 0" ∷ codes "ceiling 2" ∷ codes "first 2" ∷ codes "conflicts 0" ∷ codes "pair a y" ∷ codes "pair b x" ∷ codes "size 2" ∷ codes "best" ∷ [])
unfolding digits
met = refl

open_still : match_report tied (first_finding tied 0 3) false ≡ lined (counts ++ codes "deleted 0" ∷ codes "ceiling 3" ∷ codes "first 2" ∷ codes "conflicts 0" ∷ codes "pair a y" ∷ codes "pair b x" ∷ codes "size 2" ∷ codes "at most 3" ∷ [])
unfolding digits
open_still = refl

-- with a budget of 5 that was spent
spent : match_report tied (record { deleted = 0; top = 3; first = 1; conflicts = 5; pairs = 2 ∷ 3 ∷ [] }) false ≡ lined (counts ++ codes "deleted 0" ∷ codes "ceiling 3" ∷ codes "first 1" ∷ codes "conflicts 5" ∷ codes "pair a y" ∷ codes "pair b x" ∷ codes "size 2" ∷ codes "at most 3" ∷ [])
unfolding digits
spent = refl

modeled : model_report tied ≡ lined (codes "variables 3" ∷ codes "rows 7" ∷ [])
unfolding digits
modeled = refl

-- ---- audits

stable : audit_report tied (1 ∷ []) (verdict_of tied (1 ∷ [])) ≡ lined (codes "stable" ∷ codes "size 1" ∷ [])
unfolding digits
stable = refl

blocked : audit_report tied (2 ∷ []) (verdict_of tied (2 ∷ [])) ≡ lined (codes "blocked a x" ∷ [])
blocked = refl

twice : audit_report tied (1 ∷ 2 ∷ []) (verdict_of tied (1 ∷ 2 ∷ [])) ≡ lined (codes "resident-twice a" ∷ [])
twice = refl

over : audit_report tied (1 ∷ 3 ∷ []) (verdict_of tied (1 ∷ 3 ∷ [])) ≡ lined (codes "over-capacity x" ∷ [])
over = refl

-- ---- proofs

verified : verify_report (Bounds (Some (negsuc 1)) (Some (negsuc 1))) ≡ lined (codes "accepted" ∷ codes "bound 2" ∷ codes "found 2" ∷ [])
unfolding digits
verified = refl

verified_below : verify_report (Bounds (Some (negsuc 1)) None) ≡ lined (codes "accepted" ∷ codes "bound 2" ∷ codes "found none" ∷ [])
unfolding digits
verified_below = refl

checked : check_report (Bounds (Some (negsuc 1)) None) ≡ lined (codes "accepted" ∷ codes "lower -2" ∷ codes "upper INF" ∷ [])
unfolding digits
checked = refl

checked_nothing : check_report Nothing ≡ lined (codes "accepted" ∷ codes "no conclusion" ∷ [])
checked_nothing = refl

refused_row : proof_refusal_report (record { line = 4; why = BadId 9 }) ≡ lined (codes "proof refused line 4 BadId 9" ∷ [])
unfolding digits
refused_row = refl

refused_solution : proof_refusal_report (record { line = 4; why = NotASolution 3 }) ≡ lined (codes "proof refused line 4 NotASolution 3" ∷ [])
unfolding digits
refused_solution = refl

refused_count : proof_refusal_report (record { line = 2; why = WrongCount }) ≡ lined (codes "proof refused line 2 WrongCount" ∷ [])
unfolding digits
refused_count = refl

-- ---- limits

too_many_bytes : limit_line InstanceBytes ≡ lined (codes "limit instance-bytes 67108864" ∷ [])
unfolding digits
too_many_bytes = refl

too_many_terms : limit_line Terms ≡ lined (codes "limit terms 8000000" ∷ [])
unfolding digits
too_many_terms = refl

too_long_proof : limit_line ProofBytes ≡ lined (codes "limit proof-bytes 1099511627776" ∷ [])
unfolding digits
too_long_proof = refl
