-- Trails by their first entries: the lengths up to levels, the decisions, and where a decision comes to the end.
use Rattle.std.proofs.Common.{◌≡◌, ℕ, suc, ◌+◌, ◌-◌, ◌==◌, true, false, List, [], ◌∷◌, ◌++◌, length, refl, ap, ◌∙◌, arith, append-nil}
use Rattle.std.proofs.lemmas.Bool.{ne_eqb}
use Rattle.std.proofs.lemmas.List.Elements.{All-head, All-tail}
use Rattle.pb_propagate.specs.Entries.{Entry, is_decision, level_of, up_to}
use Rattle.pb_propagate.specs.Tables.{starts_from}
use Rattle.pb_propagate.proofs.Levels.{AreReasoned}
use Rattle.pb_propagate.proofs.Starts.{starts-append}

-- ---- what comes to the end

starts-none : (n : ℕ) (added : List Entry) → AreReasoned added → starts_from n added ≡ []
starts-none n [] h = refl
starts-none n (e ∷ added) h =
    let first = All-head (λ (x : Entry). is_decision x ≡ false) e added h in
    rw first (starts-none (n + 1) added (All-tail (λ (x : Entry). is_decision x ≡ false) e added h))

-- propagated literals open no level
pub starts-reasoned : (n : ℕ) (t added : List Entry) → AreReasoned added → starts_from n (t ++ added) ≡ starts_from n t
starts-reasoned n t added h = starts-append n t added ∙ ap (λ (ns : List ℕ). starts_from n t ++ ns) (starts-none (n + length t) added h) ∙ append-nil (starts_from n t)

-- a decision opens one
pub starts-decided : (n : ℕ) (t : List Entry) (d : Entry) → is_decision d ≡ true → starts_from n (t ++ d ∷ []) ≡ starts_from n t ++ (n + length t) ∷ []
starts-decided n t d h = starts-append n t (d ∷ []) ∙ ap (λ (ns : List ℕ). starts_from n t ++ ns) (rw h refl)

-- ---- the entries up to a level

pub up-zero : (e : Entry) (t : List Entry) → is_decision e ≡ true → up_to 0 (e ∷ t) ≡ []
up-zero e t d = rw d refl

pub up-suc : (k : ℕ) (e : Entry) (t : List Entry) → is_decision e ≡ true → up_to (suc k) (e ∷ t) ≡ e ∷ up_to k t
up-suc k e t d =
    let some : (suc k == 0) ≡ false = ne_eqb (suc k) 0 (λ h. absurd (omega arith)) in
    let less : suc k - 1 ≡ k = omega arith in
    rw d (rw some (ap (λ (j : ℕ). e ∷ up_to j t) less))

pub up-other : (k : ℕ) (e : Entry) (t : List Entry) → is_decision e ≡ false → up_to k (e ∷ t) ≡ e ∷ up_to k t
up-other k e t d = rw d refl

pub starts-decision : (n : ℕ) (e : Entry) (t : List Entry) → is_decision e ≡ true → starts_from n (e ∷ t) ≡ n ∷ starts_from (n + 1) t
starts-decision n e t d = rw d refl

pub starts-other : (n : ℕ) (e : Entry) (t : List Entry) → is_decision e ≡ false → starts_from n (e ∷ t) ≡ starts_from (n + 1) t
starts-other n e t d = rw d refl

pub level-decision : (e : Entry) (t : List Entry) → is_decision e ≡ true → level_of (e ∷ t) ≡ 1 + level_of t
level-decision e t d = rw d refl

pub level-other : (e : Entry) (t : List Entry) → is_decision e ≡ false → level_of (e ∷ t) ≡ 0 + level_of t
level-other e t d = rw d refl
