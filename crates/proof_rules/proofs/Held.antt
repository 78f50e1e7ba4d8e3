-- Held rows: what more numbers, more live rows and fewer live rows change.
use Rattle.std.proofs.Common.{◌≡◌, ℕ, ◌==◌, Bool, true, false, cond, not, ◌||◌, List, [], ◌∷◌, ◌++◌, if◌then◌else◌, filter, All, refl, sym, ap, ◌∙◌}
use Rattle.std.proofs.lemmas.Bool.{eqb-true}
use Rattle.std.proofs.lemmas.List.Elements.{All-cons, All-head, All-tail}
use Rattle.pb_rows.specs.Terms.{PlainRow}
use Rattle.pb_rows.specs.Closure.{Keeps, Literals, Refuted}
use Rattle.pb_rows.specs.Formula.{NumberedRow, rows_of, without}
use Rattle.rank_tables.specs.Numbers.{is_in}
use Rattle.proof_rules.specs.Held.{Held, held_rows, is_held, keeping}

-- ---- numbers

or_swapped : (a b c : Bool) → ((a || c) || b) ≡ ((a || b) || c)
or_swapped true b c = refl
or_swapped false true true = refl
or_swapped false true false = refl
or_swapped false false true = refl
or_swapped false false false = refl

or_grouped : (a b c : Bool) → (a || (b || c)) ≡ ((a || b) || c)
or_grouped true b c = refl
or_grouped false b c = refl

pub is_in-append : (n : ℕ) (xs ys : List ℕ) → is_in n (xs ++ ys) ≡ (is_in n xs || is_in n ys)
is_in-append n [] ys = refl
is_in-append n (x ∷ xs) ys = ap (λ (b : Bool). (x == n) || b) (is_in-append n xs ys) ∙ or_grouped (x == n) (is_in n xs) (is_in n ys)

-- what is kept besides is held besides
pub is_held-keeping : (held : Held) (numbers : List ℕ) (n : ℕ) → is_held (keeping numbers held) n ≡ (is_held held n || is_in n numbers)
is_held-keeping held numbers n =
    is_in-append n (held.kept ++ numbers) held.learned
    ∙ ap (λ (b : Bool). b || is_in n held.learned) (is_in-append n held.kept numbers)
    ∙ or_swapped (is_in n held.kept) (is_in n held.learned) (is_in n numbers)
    ∙ ap (λ (b : Bool). b || is_in n numbers) (sym (is_in-append n held.kept held.learned))

-- ---- rows

abbrev chosen : (ℕ → Bool) → List NumberedRow → List PlainRow
chosen test live = rows_of (filter (λ entry. test entry.number) live)

abbrev if_chosen : Bool → PlainRow → List PlainRow
if_chosen b row = if b then row ∷ [] else []

push_step : (b : Bool) (e : NumberedRow) (kept : List NumberedRow) (rows more : List PlainRow) → rows_of kept ≡ rows ++ more → rows_of (cond b (e ∷ kept) kept) ≡ rows_of (cond b (e ∷ []) []) ++ rows ++ more
push_step true e kept rows more h = ap (λ (rs : List PlainRow). e.row ∷ rs) h
push_step false e kept rows more h = h

front_step : (b : Bool) (e : NumberedRow) (kept : List NumberedRow) → rows_of (cond b (e ∷ []) []) ++ rows_of kept ≡ rows_of (cond b (e ∷ kept) kept)
front_step true e kept = refl
front_step false e kept = refl

last_step : (b : Bool) (e : NumberedRow) → rows_of (cond b (e ∷ []) []) ≡ if_chosen b e.row
last_step true e = refl
last_step false e = refl

chosen-push : (test : ℕ → Bool) (live : List NumberedRow) (entry : NumberedRow) → chosen test (live ++ entry ∷ []) ≡ chosen test live ++ if_chosen (test entry.number) entry.row
chosen-push test [] entry = last_step (test entry.number) entry
chosen-push test (e ∷ live) entry =
    push_step (test e.number) e (filter (λ entry. test entry.number) (live ++ entry ∷ [])) (chosen test live) (if_chosen (test entry.number) entry.row) (chosen-push test live entry)
    ∙ ap (λ (rows : List PlainRow). rows ++ if_chosen (test entry.number) entry.row) (front_step (test e.number) e (filter (λ entry. test entry.number) live))

-- a new live row is held where its number is
pub held_rows-push : (held : Held) (live : List NumberedRow) (entry : NumberedRow) → held_rows (live ++ entry ∷ []) held ≡ held_rows live held ++ if_chosen (is_held held entry.number) entry.row
held_rows-push held live entry = chosen-push (is_held held) live entry

-- ---- fewer

fewer_step : (P : PlainRow → Type 0) (a b : Bool) (e : NumberedRow) (xs ys : List NumberedRow) → (a ≡ true → b ≡ true) → (All P (rows_of ys) → All P (rows_of xs)) → All P (rows_of (cond b (e ∷ ys) ys)) → All P (rows_of (cond a (e ∷ xs) xs))
fewer_step P true true e xs ys h k all = All-cons P e.row (rows_of xs) (All-head P e.row (rows_of ys) all) (k (All-tail P e.row (rows_of ys) all))
fewer_step P true false e xs ys h k all = absurd (cc (h refl))
fewer_step P false true e xs ys h k all = k (All-tail P e.row (rows_of ys) all)
fewer_step P false false e xs ys h k all = k all

chosen-fewer : (P : PlainRow → Type 0) (some more : ℕ → Bool) → ((n : ℕ) → some n ≡ true → more n ≡ true) → (live : List NumberedRow) → All P (chosen more live) → All P (chosen some live)
chosen-fewer P some more h [] all = all
chosen-fewer P some more h (e ∷ live) all =
    fewer_step P (some e.number) (more e.number) e (filter (λ entry. some entry.number) live) (filter (λ entry. more entry.number) live) (h e.number) (chosen-fewer P some more h live) all

-- what is so of all held rows is so of fewer
pub held_rows-fewer : (P : PlainRow → Type 0) (some more : Held) → ((n : ℕ) → is_held some n ≡ true → is_held more n ≡ true) → (live : List NumberedRow) → All P (held_rows live more) → All P (held_rows live some)
held_rows-fewer P some more h live all = chosen-fewer P (is_held some) (is_held more) h live all

-- and what they refute, more refute
pub held-refutes : (some more : Held) → ((n : ℕ) → is_held some n ≡ true → is_held more n ≡ true) → (live : List NumberedRow) (given : Literals) → Refuted (held_rows live some) given → Refuted (held_rows live more) given
held-refutes some more h live given r set q = r set (record {
  has_given = q.has_given;
  consistent = q.consistent;
  kept = held_rows-fewer (Keeps set) some more h live q.kept;
})

without_step : (b c : Bool) (e : NumberedRow) (test : NumberedRow → Bool) (xs ys : List NumberedRow) → (c ≡ true → b ≡ false) → test e ≡ b → filter test xs ≡ ys → filter test (cond (not c) (e ∷ xs) xs) ≡ cond b (e ∷ ys) ys
without_step true true e test xs ys h t k = absurd (cc (h refl))
without_step false true e test xs ys h t k = k
without_step true false e test xs ys h t k = rw t (ap (λ (rest : List NumberedRow). e ∷ rest) k)
without_step false false e test xs ys h t k = rw t k

without-same : (test : ℕ → Bool) (n : ℕ) → test n ≡ false → (live : List NumberedRow) → filter (λ entry. test entry.number) (without n live) ≡ filter (λ entry. test entry.number) live
without-same test n h [] = refl
without-same test n h (e ∷ live) =
    without_step (test e.number) (e.number == n) e (λ entry. test entry.number) (without n live) (filter (λ entry. test entry.number) live)
    (λ s. ap test (eqb-true e.number n s) ∙ h) refl (without-same test n h live)

-- a row that isn't held may go
pub held_rows-without : (held : Held) (n : ℕ) (live : List NumberedRow) → is_held held n ≡ false → held_rows (without n live) held ≡ held_rows live held
held_rows-without held n live h = ap rows_of (without-same (is_held held) n h live)
