-- The tokens of a line, one after the other.
use Rattle.std.proofs.Common.{◌≡◌, ℕ, zero, suc, ◌+◌, ◌<◌, ◌≤◌, Bool, true, false, ◌||◌, eqb, List, [], ◌∷◌, ◌++◌, length, get_or, take, drop, refl, sym, ap, subst, ◌∙◌, append_assoc, arith, if◌then◌else◌}
use Rattle.std.proofs.lemmas.Bool.{or_parts}
use Rattle.std.proofs.lemmas.List.{drop_more, take_more, append-nil, drop_all}
use Rattle.row_text.specs.Tokens.{Onward, all_of, is_blank, onward_from, tokens}

-- a byte at which no word goes on
abbrev pub is_apart : ℕ → Bool
is_apart b = is_blank b || eqb b 59

abbrev pub onward : List ℕ → List (List ℕ) → Onward
onward run after = record { run = run; after = after }

abbrev pub behind : List ℕ → Onward → Onward
behind front o = onward (front ++ o.run) o.after

pub run_more : (b : ℕ) (bytes : List ℕ) → is_apart b ≡ false → onward_from (b ∷ bytes) ≡ behind (b ∷ []) (onward_from bytes)
run_more b bytes h =
    let t = or_parts (is_blank b) (eqb b 59) h in
    rw (t.0, t.1) refl

apart_by : (blank semicolon : Bool) (b : ℕ) (o : Onward) → blank || semicolon ≡ true →
    (if blank then onward [] (all_of o) else if semicolon then onward [] ((b ∷ []) ∷ all_of o) else behind (b ∷ []) o)
    ≡ onward [] (all_of (if blank then onward [] (all_of o) else if semicolon then onward [] ((b ∷ []) ∷ all_of o) else behind (b ∷ []) o))
apart_by true semicolon b o h = refl
apart_by false true b o h = refl
apart_by false false b o h = absurd cc

ends_run : (b : ℕ) (bytes : List ℕ) → is_apart b ≡ true → onward_from (b ∷ bytes) ≡ onward [] (tokens (b ∷ bytes))
ends_run b bytes h = apart_by (is_blank b) (eqb b 59) b (onward_from bytes) h

pub goes_on : (line : List ℕ) (i : ℕ) → i < length line → is_apart (get_or line i 0) ≡ false
    → onward_from line ≡ behind (take i line) (onward_from (drop i line)) → onward_from line ≡ behind (take (i + 1) line) (onward_from (drop (i + 1) line))
goes_on line i lt h e =
    let x : ℕ = get_or line i 0 in
    let o : Onward = onward_from (drop (i + 1) line) in
    let d : onward_from (drop i line) ≡ behind (x ∷ []) o = ap onward_from (drop_more line i 0 lt) ∙ run_more x (drop (i + 1) line) h in
    e ∙ ap (behind (take i line)) d ∙ ap (λ (r : List ℕ). onward r o.after) (sym (append_assoc (take i line) (x ∷ []) o.run)) ∙ ap (λ (f : List ℕ). behind f o) (sym (take_more line i 0 lt))

pub stops_at : (line : List ℕ) (i : ℕ) → i < length line → is_apart (get_or line i 0) ≡ true
    → onward_from line ≡ behind (take i line) (onward_from (drop i line)) → onward_from line ≡ onward (take i line) (tokens (drop i line))
stops_at line i lt h e =
    let x : ℕ = get_or line i 0 in
    let rest : List ℕ = drop (i + 1) line in
    let d : onward_from (drop i line) ≡ onward [] (tokens (drop i line)) = subst (λ (l : List ℕ). onward_from l ≡ onward [] (tokens l)) (sym (drop_more line i 0 lt)) (ends_run x rest h) in
    e ∙ ap (behind (take i line)) d ∙ ap (λ (r : List ℕ). onward r (tokens (drop i line))) (append-nil (take i line))

pub stops_all : (line : List ℕ) (i : ℕ) → length line ≤ i → onward_from line ≡ behind (take i line) (onward_from (drop i line)) → onward_from line ≡ onward (take i line) (tokens (drop i line))
stops_all line i le e =
    let d : onward_from (drop i line) ≡ onward [] (tokens (drop i line)) = subst (λ (l : List ℕ). onward_from l ≡ onward [] (tokens l)) (sym (drop_all i line le)) refl in
    e ∙ ap (behind (take i line)) d ∙ ap (λ (r : List ℕ). onward r (tokens (drop i line))) (append-nil (take i line))

pub word_first : (line : List ℕ) (n : ℕ) → 0 < length line → is_apart (get_or line 0 0) ≡ false
    → onward_from line ≡ onward (take n line) (tokens (drop n line)) → (tokens line ≡ take n line ∷ tokens (drop n line)) × (0 < n)
word_first [] n lt h e = absurd (omega arith)
word_first (x ∷ xs) zero lt h e = let f = ap (λ (o : Onward). o.run) (sym (run_more x xs h) ∙ e) in absurd cc
word_first (x ∷ xs) (suc n) lt h e = (ap all_of e, omega arith)
