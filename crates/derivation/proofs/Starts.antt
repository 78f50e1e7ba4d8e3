-- What a derivation starts with.
use Rattle.std.proofs.Common.{◌≡◌, ℕ, ◌+◌, ◌-◌, ◌<◌, ◌≤◌, ◌^◌, List, [], ◌∷◌, ◌++◌, length, take, refl, sym, ap, ◌∙◌, subst, add-one, arith, length-append}
use Rattle.std.specs.Prelude.{None, Some, codes, slice_get, decimal}
use Rattle.std.specs.List.{All}
use Rattle.std.proofs.lemmas.Bool.{eq-eqb, le-leb}
use Rattle.std.proofs.lemmas.Fmt.{length-decimal-le}
use Rattle.std.proofs.lemmas.List.{length-take-le}
use Rattle.std.proofs.lemmas.List.Elements.{All-cons, All-nil}
use Rattle.std.proofs.lemmas.Option.{get_or_from_slice_get, slice_get_within}
use Rattle.std.proofs.Math.Seq.{take-suc}
use Rattle.pb_rows.specs.Terms.{PlainRow}
use Rattle.pb_rows.specs.Formula.{NumberedRow, numbered_from}
use Rattle.rank_tables.specs.Instance.{Lists}
use Rattle.rank_tables.specs.Numbers.{numbers_to}
use Rattle.stability_model.specs.Model.{formula, pair_row_no, rows}
use Rattle.proof_lines.specs.declared.line.Line.TheVariants.{Header, Count}
use Rattle.proof_rules.specs.States.{first_state}
use Rattle.proof_rules.specs.Valid.{Headed, Moves, Proving}
use Rattle.proof_lines.specs.Texts.{line_text}
use Rattle.derivation.specs.Derived.{Derived, StandsFor}
use Rattle.derivation.specs.Ready.{IsReady}
use Rattle.derivation.specs.Pieces.{StandsTraced, opened}
use Rattle.derivation.specs.Steps.{IsWritable, first_derived}
use Rattle.derivation.proofs.Readiness.{ready_first}
use Rattle.derivation.proofs.EndsTraced.{starts_traced}
use Rattle.derivation.proofs.Standing.{stands-first}

-- ---- lists that are taken from their fronts

pub taken_on : {A : Type 0} (made now xs : List A) (k : ℕ) (x : A) → made ≡ take k xs → slice_get xs k ≡ Some x → now ≡ made ++ x ∷ [] → now ≡ take (k + 1) xs
taken_on {A = A} made now xs k x before at is =
    is ∙ ap (λ (ys : List A). ys ++ x ∷ []) before
    ∙ ap (λ (y : A). take k xs ++ y ∷ []) (sym (get_or_from_slice_get xs k x x at))
    ∙ sym (rw add-one (take-suc xs k x (slice_get_within xs k x at)))

-- ---- numbered rows

pub numbered-append : (n : ℕ) (xs ys : List PlainRow) → numbered_from n (xs ++ ys) ≡ numbered_from n xs ++ numbered_from (n + length xs) ys
numbered-append n [] ys = ap (λ (k : ℕ). numbered_from k ys) (omega arith)
numbered-append n (x ∷ xs) ys =
    ap (λ (rest : List NumberedRow). record { number = n; row = x } ∷ rest)
    (numbered-append (n + 1) xs ys ∙ ap (λ (k : ℕ). numbered_from (n + 1) xs ++ numbered_from k ys) (omega arith))

numbered_below : (n m : ℕ) (xs : List PlainRow) → n + length xs ≤ m → All (λ (entry : NumberedRow). entry.number < m) (numbered_from n xs)
numbered_below n m [] h = All-nil (λ (entry : NumberedRow). entry.number < m)
numbered_below n m (x ∷ xs) h =
    All-cons (λ (entry : NumberedRow). entry.number < m) (record { number = n; row = x }) (numbered_from (n + 1) xs) (omega arith) (numbered_below (n + 1) m xs (omega arith))

pub first_below : (xs : List PlainRow) (k : ℕ) (live : List NumberedRow) → live ≡ numbered_from 1 (take k xs) → k ≤ length xs → All (λ (entry : NumberedRow). entry.number < k + 1) live
first_below xs k live e h =
    subst (All (λ (entry : NumberedRow). entry.number < k + 1)) (sym e)
    (numbered_below 1 (k + 1) (take k xs) (let l : length (take k xs) ≡ k = length-take-le k xs h in omega arith))

pub numbered_on : (xs : List PlainRow) (k : ℕ) (live now : List NumberedRow) (row : PlainRow) → live ≡ numbered_from 1 (take k xs) → slice_get xs k ≡ Some row → now ≡ live ++ record { number = k + 1; row = row } ∷ [] →
    now ≡ numbered_from 1 (take (k + 1) xs)
numbered_on xs k live now row e at is =
    let within : k < length xs = slice_get_within xs k row at in
    let l : length (take k xs) ≡ k = length-take-le k xs (omega arith) in
    is ∙ ap (λ (rows : List NumberedRow). rows ++ record { number = k + 1; row = row } ∷ []) e
    ∙ ap (λ (n : ℕ). numbered_from 1 (take k xs) ++ record { number = n; row = row } ∷ []) (omega arith)
    ∙ sym (numbered-append 1 (take k xs) (row ∷ []))
    ∙ ap (numbered_from 1) (taken_on (take k xs) (take k xs ++ row ∷ []) xs k row refl at refl)

-- ---- the count line

pub count_writable : (n : ℕ) → n < 2 ^ 32 → IsWritable (Count n)
count_writable n h = record {
  made = le-leb n (10 ^ 18 - 1) (omega arith);
  small = refl;
  short = let l : length (decimal n) ≤ 10 = length-decimal-le 10 n (omega arith) (omega arith) (omega arith) in omega (arith, length-append (decimal n) [], length-append (codes "f" ++ 32 ∷ (decimal n ++ [])) (10 ∷ []));
}

pub count_moves : (lists : Lists) → Moves (formula lists) Headed (Count (length (rows lists))) (Proving (first_state (formula lists)))
count_moves lists = record { leads = rw (eq-eqb (length (rows lists)) (length (rows lists)) refl) refl; owed = tt }

-- ---- the whole

pub kept_on : (k : ℕ) (kept now : List ℕ) → kept ≡ numbers_to k → now ≡ kept ++ (k + 1) ∷ [] → now ≡ numbers_to (k + 1)
kept_on k kept now e is = is ∙ ap (λ (ns : List ℕ). ns ++ (k + 1) ∷ []) e ∙ rw add-one refl

module _ (lists seen : Lists) (live : List NumberedRow) (next : ℕ) (kept learned pending : List ℕ) (same : seen ≡ lists) (rows_are : live ≡ numbered_from 1 (rows lists)) (next_is : next ≡ length (rows lists) + 1) (kept_are : kept ≡ numbers_to (pair_row_no lists 0)) (none : learned ≡ []) (text : pending ≡ line_text Header ++ line_text (Count (length (rows lists)))) (few : length (rows lists) < 2 ^ 32) where
  made : Derived
  made = record { lists = seen; state = record { live = live; next = next; least = None }; held = record { kept = kept; learned = learned; learn_notes = 0 }; claim = None; pending = pending }

  made_is : made ≡ first_derived lists
  unfolding made
  made_is = cc

  pub first_stands : StandsFor [] (record { lists = seen; state = record { live = live; next = next; least = None }; held = record { kept = kept; learned = learned; learn_notes = 0 }; claim = None; pending = pending })
  unfolding made
  first_stands = subst (StandsFor []) (sym made_is) (stands-first lists (Count (length (rows lists))) (count_writable (length (rows lists)) few) (λ e. absurd (cc)) (count_moves lists))

  pub first_ready : IsReady (record { lists = seen; state = record { live = live; next = next; least = None }; held = record { kept = kept; learned = learned; learn_notes = 0 }; claim = None; pending = pending })
  unfolding made
  first_ready = subst IsReady (sym made_is) (ready_first lists)

  pub first_lawful : StandsTraced [] (record { lists = seen; state = record { live = live; next = next; least = None }; held = record { kept = kept; learned = learned; learn_notes = 0 }; claim = None; pending = pending }) (opened lists)
  unfolding made
  first_lawful =
      subst (λ (d : Derived). StandsTraced [] d (opened lists)) (sym made_is)
      (starts_traced lists (count_writable (length (rows lists)) few) (stands-first lists (Count (length (rows lists))) (count_writable (length (rows lists)) few) (λ e. absurd (cc)) (count_moves lists)))
