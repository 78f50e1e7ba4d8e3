-- The texts of reports. Each line ends with a line feed.
use Rattle.std.specs.Prelude.{◌≡◌, ◌<◌, ℕ, ◌==◌, Bool, if◌then◌else◌, List, [], ◌∷◌, ◌++◌, length, flat_map, decimal, codes, ℤ, neg_ℤ, Option, Some, None, IsSomeAnd, option_map}
use Rattle.rank_tables.specs.Instance.{Lists, pair_count, pair_at, one_sided}
use Rattle.rank_tables.specs.WellFormed.{names_of_residents, names_of_hospitals}
use Rattle.rank_tables.specs.Tables.{IsPairNo, numbers_of}
use Rattle.hrt_reader.specs.PairsText.{pair_text}
use Rattle.hrt_reader.specs.Spelling.{name_at}
use Rattle.stability_audit.specs.declared.verdict.Verdict.{Verdict as Audit}
use Rattle.stability_audit.specs.declared.verdict.Verdict.TheVariants.{Stable, ResidentTwice, OverCapacity, Blocked}
use Rattle.stability_model.specs.Model.{rows}
use Rattle.promotion_heuristic.specs.Promotion.{promotion}
use Rattle.proof_lines.specs.Texts.{bound_text}
use Rattle.proof_lines.specs.declared.line.Claim.{Claim}
use Rattle.proof_lines.specs.declared.line.Claim.TheVariants.{Bounds, Unsat, Nothing}
use Rattle.proof_rules.specs.Texts.{Verdict, Accepted, Refused, Truncated}
use Rattle.proof_rules.specs.Refusals as why
use Rattle.proof_rules.specs.Refusals.{Refusal, RefusalAt}
use Rattle.proof_checker.specs.declared.refusal.ProofRefusal.{ProofRefusal}
use Rattle.proof_checker.specs.Answers.{refusal_verdict}
use Rattle.hrt_solve.specs.declared.ends.SolveEnd.{SolveEnd}
use Rattle.hrt_inputs.specs.declared.limit.Limit.{Limit}
use Rattle.hrt_inputs.specs.declared.limit.Limit.TheVariants.{Residents, Hospitals, Pairs, Terms, InstanceBytes, PairsBytes, ModelBytes, Variables, Rows, ProofBytes}
use Rattle.hrt_inputs.specs.declared.stop.ModelKind.{ModelKind}
use Rattle.hrt_inputs.specs.declared.stop.ModelKind.TheVariants.{Syntax, TooBig}
use Rattle.hrt_inputs.specs.Limits.{most}
use Rattle.hrt_inputs.specs.Rejections.{Rejection, refused, exceeded, pairs_refused, model_refused, proof_refused, truncated}

-- a text with the line feed that ends it
abbrev pub line : List ℕ → List ℕ
line text = text ++ 10 ∷ []

-- a word and what is said of it
abbrev pub value_line : List ℕ → List ℕ → List ℕ
value_line word value = word ++ 32 ∷ line value

-- a word and a number
abbrev pub count_line : List ℕ → ℕ → List ℕ
count_line word n = value_line word (decimal n)

-- the names of a pair, to the end of the line
abbrev pub names_line : Lists → ℕ → List ℕ
names_line lists p =
    name_at (names_of_residents lists) (pair_at lists p).resident ++ 32 ∷ line (name_at (names_of_hospitals lists) (pair_at lists p).hospital)

-- the line of a pair, as a text of pairs has it
abbrev pub pair_line : Lists → ℕ → List ℕ
pair_line lists p = line (pair_text lists p)

-- the lines on an instance: how many residents, hospitals and pairs it has, and how many namings aren't answered
abbrev pub instance_lines : Lists → List ℕ
instance_lines lists =
    count_line (codes "residents") (length lists.residents) ++ count_line (codes "hospitals") (length lists.hospitals)
    ++ count_line (codes "pairs") (pair_count lists) ++ count_line (codes "one-sided") (one_sided lists)

-- the lines on what is found before a matching is looked for
abbrev pub bound_lines : Lists → ℕ → ℕ → List ℕ
bound_lines lists deleted top = instance_lines lists ++ count_line (codes "deleted") deleted ++ count_line (codes "ceiling") top

-- the report on a bound
abbrev pub bound_report : Lists → ℕ → ℕ → List ℕ
bound_report lists deleted top = bound_lines lists deleted top ++ count_line (codes "at most") top

-- what is found of an instance: how many pairs are deleted, the ceiling, the size of the first matching, how many rows were learned, and the
-- pairs of a matching by rising number
pub record Finding : Type 0 where
  pub deleted : ℕ
  pub top : ℕ
  pub first : ℕ
  pub conflicts : ℕ
  pub pairs : List ℕ

-- what a job found
abbrev pub finding_of : SolveEnd → Finding
finding_of end = record { deleted = end.deleted; top = end.ceiling; first = end.first; conflicts = end.conflicts; pairs = numbers_of end.pairs.items }

-- what is found without a search
abbrev pub first_finding : Lists → ℕ → ℕ → Finding
first_finding lists deleted top =
    record { deleted = deleted; top = top; first = length (promotion lists); conflicts = 0; pairs = promotion lists }

-- the lines on the matching
abbrev pub found_lines : Lists → Finding → List ℕ
found_lines lists found =
    count_line (codes "first") found.first ++ count_line (codes "conflicts") found.conflicts ++ flat_map (pair_line lists) found.pairs
    ++ count_line (codes "size") (length found.pairs)

-- all lines of the report on it but the last
abbrev pub match_lines : Lists → Finding → List ℕ
match_lines lists found = bound_lines lists found.deleted found.top ++ found_lines lists found

-- `best` where no other matching is larger, else the ceiling as the most pairs that a weakly stable matching has
abbrev pub last_line : Bool → ℕ → List ℕ
last_line best top = if best then line (codes "best") else count_line (codes "at most") top

-- the report on a matching
abbrev pub match_report : Lists → Finding → Bool → List ℕ
match_report lists found best = match_lines lists found ++ last_line best found.top

-- the word for a kind of refusal of pairs
abbrev pub pairs_kind_word : ℕ → List ℕ
pairs_kind_word n =
    if n == 1 then codes "BadLine" else if n == 2 then codes "UnknownName" else if n == 3 then codes "NotAcceptable" else codes "RepeatedPair"

-- the word for a kind of refusal of an instance
abbrev pub kind_word : ℕ → List ℕ
kind_word n =
    if n == 1 then codes "BadHeader" else if n == 2 then codes "BadLine" else if n == 3 then codes "BadName"
    else if n == 4 then codes "BadCapacity" else if n == 5 then codes "DeclaredTwice" else if n == 6 then codes "UnknownName"
    else if n == 7 then codes "NamedTwice" else if n == 8 then codes "BadTie" else if n == 9 then codes "NoEnd" else codes "AfterEnd"

-- a number and what is there
abbrev pub place_line : ℕ → List ℕ → List ℕ
place_line number what = value_line (decimal number) what

-- the word for a limit
abbrev pub name_of : Limit → List ℕ
name_of Residents = codes "residents"
name_of Hospitals = codes "hospitals"
name_of Pairs = codes "pairs"
name_of Terms = codes "terms"
name_of InstanceBytes = codes "instance-bytes"
name_of PairsBytes = codes "pairs-bytes"
name_of ModelBytes = codes "model-bytes"
name_of Variables = codes "variables"
name_of Rows = codes "rows"
name_of ProofBytes = codes "proof-bytes"

-- the line on a limit that was passed: its word, and the most that is taken
abbrev pub limit_line : Limit → List ℕ
limit_line limit = codes "limit " ++ count_line (name_of limit) (most limit)

-- the report on what an audit says of pairs
abbrev pub audit_report : Lists → List ℕ → Audit → List ℕ
audit_report lists m Stable = line (codes "stable") ++ count_line (codes "size") (length m)
audit_report lists m (ResidentTwice r) = codes "resident-twice " ++ line (name_at (names_of_residents lists) r)
audit_report lists m (OverCapacity h) = codes "over-capacity " ++ line (name_at (names_of_hospitals lists) h)
audit_report lists m (Blocked p) = codes "blocked " ++ names_line lists p.0

-- the report on a model
abbrev pub model_report : Lists → List ℕ
model_report lists = count_line (codes "variables") (pair_count lists) ++ count_line (codes "rows") (length (rows lists))

-- ---- models and proofs

-- the word for a kind of refusal of a model
abbrev pub model_kind_word : ModelKind → List ℕ
model_kind_word Syntax = codes "Syntax"
model_kind_word TooBig = codes "TooBig"

-- the word of a kind and the number that it names
abbrev pub with_number : List ℕ → ℕ → List ℕ
with_number kind n = kind ++ 32 ∷ decimal n

-- the kind of a refusal, and the number that it names, if it names one
abbrev pub proof_kind_text : Refusal → List ℕ
proof_kind_text why.Syntax = codes "Syntax"
proof_kind_text why.TooBig = codes "TooBig"
proof_kind_text (why.BadId id) = with_number (codes "BadId") id
proof_kind_text (why.BadVariable var) = with_number (codes "BadVariable") var
proof_kind_text why.StackShape = codes "StackShape"
proof_kind_text why.NotFull = codes "NotFull"
proof_kind_text (why.NotASolution row) = with_number (codes "NotASolution") row
proof_kind_text why.NotImplied = codes "NotImplied"
proof_kind_text why.BoundNotShown = codes "BoundNotShown"
proof_kind_text why.WrongCount = codes "WrongCount"

-- the report on a proof that is refused: the line, and the kind of its refusal
abbrev pub proof_refusal_report : RefusalAt → List ℕ
proof_refusal_report r = codes "proof refused line " ++ place_line r.line (proof_kind_text r.why)

-- the report on a proof that bounds the sizes of weakly stable matchings: the most that there can be, and a size that one has
abbrev pub sizes_report : Option ℤ → Option ℤ → List ℕ
sizes_report bound found =
    line (codes "accepted") ++ value_line (codes "bound") (bound_text (codes "none") bound) ++ value_line (codes "found") (bound_text (codes "none") found)

-- the report on what a valid proof claims of an instance's weakly stable matchings; the objective is minus the number of pairs
abbrev pub verify_report : Claim → List ℕ
verify_report (Bounds lower upper) = sizes_report (option_map neg_ℤ lower) (option_map neg_ℤ upper)
verify_report Unsat = line (codes "accepted") ++ line (codes "unsatisfiable")
verify_report Nothing = sizes_report None None

-- the report on a proof that bounds the objective: at least the lower number at each point, and at most the upper one at some
abbrev pub points_report : Option ℤ → Option ℤ → List ℕ
points_report lower upper =
    line (codes "accepted") ++ value_line (codes "lower") (bound_text (codes "-INF") lower) ++ value_line (codes "upper") (bound_text (codes "INF") upper)

-- the report on what a valid proof claims of the points of a formula
abbrev pub check_report : Claim → List ℕ
check_report (Bounds lower upper) = points_report lower upper
check_report Unsat = line (codes "accepted") ++ line (codes "unsatisfiable")
check_report Nothing = line (codes "accepted") ++ line (codes "no conclusion")

-- whom an audit names is declared
abbrev pub NamesDeclared : Lists → Audit → Type 0
NamesDeclared lists Stable = Unit {0}
NamesDeclared lists (ResidentTwice r) = r < length lists.residents
NamesDeclared lists (OverCapacity h) = h < length lists.hospitals
NamesDeclared lists (Blocked p) = IsPairNo lists p.0

-- the report on a file that isn't taken
abbrev pub rejection_report : Rejection → List ℕ
rejection_report (refused r) = codes "instance refused line " ++ place_line r.line (kind_word r.kind)
rejection_report (exceeded limit) = limit_line limit
rejection_report (pairs_refused r) = codes "pairs refused line " ++ place_line r.line (pairs_kind_word r.kind)
rejection_report (model_refused kind line) = codes "model refused line " ++ place_line line (model_kind_word kind)
rejection_report (proof_refused r) = proof_refusal_report r
rejection_report truncated = line (codes "proof refused Truncated")

-- what is told of a proof with this verdict, if it isn't accepted
abbrev pub rejection_by : Option Verdict → Option Rejection
rejection_by None = None
rejection_by (Some (Accepted claim)) = None
rejection_by (Some (Refused r)) = Some (proof_refused r)
rejection_by (Some Truncated) = Some truncated

-- what is told of a proof for this refusal; want of memory is none
abbrev pub proof_rejection : ProofRefusal → Option Rejection
proof_rejection refusal = rejection_by (refusal_verdict refusal)

-- the text is the report on a proof with this refusal
abbrev pub TellsOfProof : ProofRefusal → List ℕ → Type 0
TellsOfProof refusal text = IsSomeAnd (proof_rejection refusal) (λ rejection. text ≡ rejection_report rejection)
