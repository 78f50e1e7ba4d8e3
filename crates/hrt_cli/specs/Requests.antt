-- What the words ask for.
use Rattle.std.specs.Prelude.{Bool, false, not, ◌&&◌, ◌==◌, ℕ, List, [], ◌∷◌, Option, Some, None, if◌then◌else◌, map, option_and_then, option_map, codes, bytes_eq, String, string_bytes}
use Rattle.std.specs.Global.{Global}
use Rattle.hrt_cli.specs.Budgets.{most_conflicts, number_up_to, usual_conflicts}
use Rattle.hrt_cli.specs.declared.words.Command.{Command}
use Rattle.hrt_cli.specs.declared.words.Command.TheVariants.{Solve, Audit, Model, Verify, Check, Bound, Quick}

-- a command with the names of its files
pub data Request : Type 0 where
  solve : List ℕ → List ℕ → List ℕ → ℕ → Request  -- the instance, the files of the model and of the proof, and how many rows may be learned
  audit : List ℕ → List ℕ → Request  -- the instance and the pairs
  model : List ℕ → List ℕ → Request  -- the instance, and the file of the model
  verify : List ℕ → List ℕ → Request  -- the instance and the proof
  check : List ℕ → List ℕ → Request  -- the model and the proof
  bound : List ℕ → List ℕ → List ℕ → Request  -- the instance, and the files of the model and of the proof
  quick : List ℕ → List ℕ → List ℕ → Request  -- the same

-- a name of a file isn't empty and doesn't begin with `-`
abbrev pub is_file_name : List ℕ → Bool
is_file_name [] = false
is_file_name (b ∷ bytes) = not (b == 45)

-- two names
pub record TwoFiles : Type 0 where
  pub first : List ℕ
  pub second : List ℕ

-- these two names in this order
abbrev pub two : List ℕ → List ℕ → TwoFiles
two first second = record { first = first; second = second }

-- two names that differ
abbrev pub two_files : List (List ℕ) → Option TwoFiles
two_files (first ∷ second ∷ []) =
    if is_file_name first && is_file_name second && not (bytes_eq first second) then Some (two first second) else None
two_files _ = None

-- three names
pub record ThreeFiles : Type 0 where
  pub first : List ℕ
  pub second : List ℕ
  pub third : List ℕ

-- these three names in this order
abbrev pub three : List ℕ → List ℕ → List ℕ → ThreeFiles
three first second third = record { first = first; second = second; third = third }

-- three names of which each two differ
abbrev pub three_names : List ℕ → List ℕ → List ℕ → Option ThreeFiles
three_names first second third =
    if is_file_name first && is_file_name second && is_file_name third && not (bytes_eq first second) && not (bytes_eq first third)
    && not (bytes_eq second third)
    then Some (three first second third) else None

-- such names, and no more words
abbrev pub three_files : List (List ℕ) → Option ThreeFiles
three_files (first ∷ second ∷ third ∷ []) = three_names first second third
three_files _ = None

-- ---- words

-- how many rows may be learned, by an option and its value
abbrev pub named_budget : List ℕ → List ℕ → Option ℕ
named_budget option word = if bytes_eq option (codes "--conflicts") then number_up_to most_conflicts word else None

-- the same, by the words behind the files
abbrev pub budget_of : List (List ℕ) → Option ℕ
budget_of [] = Some usual_conflicts
budget_of (option ∷ word ∷ []) = named_budget option word
budget_of _ = None

-- three files, and how many rows may be learned
abbrev pub solve_of : List (List ℕ) → Option Request
solve_of (first ∷ second ∷ third ∷ options) =
    option_and_then (λ f. option_map (solve f.first f.second f.third) (budget_of options)) (three_names first second third)
solve_of _ = None

-- the words are a command and exactly its files, and behind those of a solve there may be a budget
abbrev pub request_of : List (List ℕ) → Option Request
request_of [] = None
request_of (word ∷ files) =
    if bytes_eq word (codes "solve") then solve_of files
    else if bytes_eq word (codes "audit") then option_map (λ f. audit f.first f.second) (two_files files)
    else if bytes_eq word (codes "model") then option_map (λ f. model f.first f.second) (two_files files)
    else if bytes_eq word (codes "verify") then option_map (λ f. verify f.first f.second) (two_files files)
    else if bytes_eq word (codes "check") then option_map (λ f. check f.first f.second) (two_files files)
    else if bytes_eq word (codes "bound") then option_map (λ f. bound f.first f.second f.third) (three_files files)
    else if bytes_eq word (codes "quick") then option_map (λ f. quick f.first f.second f.third) (three_files files)
    else None

-- the bytes of words
abbrev pub texts_of : List (String Global) → List (List ℕ)
texts_of words = map string_bytes words

-- what the code's command asks for
abbrev pub asked_by : Command → Request
asked_by (Solve instance file proof budget) = solve instance.now file.now proof.now budget.conflicts
asked_by (Audit instance pairs) = audit instance.now pairs.now
asked_by (Model instance file) = model instance.now file.now
asked_by (Verify instance proof) = verify instance.now proof.now
asked_by (Check file proof) = check file.now proof.now
asked_by (Bound instance file proof) = bound instance.now file.now proof.now
asked_by (Quick instance file proof) = quick instance.now file.now proof.now
