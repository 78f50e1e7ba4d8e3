-- What a step keeps of a state.
use Rattle.std.proofs.Common.{◌≡◌, ℕ, ◌+◌, ◌==◌, Bool, true, false, cond, not, List, [], ◌∷◌, ◌++◌, if◌then◌else◌, nat_le, All, ℤ, pos, ◌+ℤ◌, ◌-ℤ◌, neg_ℤ, int_le, int_lt, ◌<ℤ◌, refl, sym, ap, ◌∙◌, subst, arith}
use Rattle.std.specs.Prelude.{◌^◌, Option, Some, None, Ok}
use Rattle.std.proofs.lemmas.Int.{ints}
use Rattle.std.proofs.lemmas.List.Elements.{All-cons, All-head, All-tail, All-push}
use Rattle.hrt_base.specs.declared.literal.Lit.{Lit}
use Rattle.hrt_base.specs.declared.literal.Term.{Term}
use Rattle.hrt_base.specs.declared.numbered.RowNo.{RowNo}
use Rattle.pb_rows.specs.Terms.{PlainRow, Written}
use Rattle.pb_rows.specs.Points.{Point, is_true_at, value_at}
use Rattle.pb_rows.specs.Normal.{all_sizes}
use Rattle.pb_rows.specs.Rows.{AllHold, holds, in_normal_form}
use Rattle.pb_rows.specs.Formula.{Formula, NumberedRow, is_numbered, numbered_from, rows_of, without}
use Rattle.pb_rows.proofs.ByNets.{holds-normal_form}
use Rattle.pb_rows.proofs.Implied.{implied-holds}
use Rattle.row_text.specs.Rows.{is_small_row}
use Rattle.proof_lines.specs.declared.line.Line.{Line}
use Rattle.proof_lines.specs.declared.line.Line.TheVariants.{Pol, Rup, Soli, Del}
use Rattle.proof_lines.specs.declared.line.PolStep.{PolStep}
use Rattle.proof_rules.specs.Pol.{pol_row}
use Rattle.proof_rules.specs.States.{State, live_rows, first_state, with_row, literals_in, rup_row, named_point, is_full, minus_terms, at_most_row, smaller, logged, after_soli, deleted, after, Follows}
use Rattle.proof_rules.specs.Sound.{HasNormalRows, IsBelow, IsLogged, IsSoundState, IsUnsigned}
use Rattle.proof_rules.proofs.Made.{made_if, made_then, made_known, made_hold}
use Rattle.proof_rules.proofs.PolRows.{pol_row-keeps}
use Rattle.proof_rules.proofs.Unsigned.{HoldsAt, holds-kept, unsigned-kept, unsigned-normal_form, unsigned-rows}

abbrev pub Test : Point → PlainRow → Type 0
Test p row = holds p row ≡ true

-- ---- the first state

pub rows-numbered_from : (n : ℕ) (rs : List PlainRow) → rows_of (numbered_from n rs) ≡ rs
rows-numbered_from n [] = refl
rows-numbered_from n (row ∷ rs) = ap (λ (rest : List PlainRow). row ∷ rest) (rows-numbered_from (n + 1) rs)

pub first-sound : (f : Formula) → HasNormalRows f → IsSoundState f (first_state f)
first-sound f n = record {
  rows_hold = λ p h b. subst (AllHold p) (sym (rows-numbered_from 1 f.rows)) h;
  logged = tt;
  unsigned = subst (All IsUnsigned) (sym (rows-numbered_from 1 f.rows)) (unsigned-rows f.rows n);
}

-- ---- one more row

pub rows-push : (live : List NumberedRow) (entry : NumberedRow) → rows_of (live ++ entry ∷ []) ≡ rows_of live ++ entry.row ∷ []
rows-push [] entry = refl
rows-push (first ∷ live) entry = ap (λ (rest : List PlainRow). first.row ∷ rest) (rows-push live entry)

pub push-all : (P : PlainRow → Type 0) (s : State) (row : PlainRow) → All P (live_rows s) → P row → All P (live_rows (with_row s row))
push-all P s row h k =
    subst (All P) (sym (rows-push s.live (record { number = s.next; row = row }))) (All-push P (live_rows s) row h k)

with_row-sound : (f : Formula) (s : State) (row : PlainRow) → IsSoundState f s → ((p : Point) → AllHold p (live_rows s) → Test p row) → IsUnsigned row → IsSoundState f (with_row s row)
with_row-sound f s row i k u = record {
  rows_hold = λ p h b. push-all (Test p) s row (i.rows_hold p h b) (k p (i.rows_hold p h b));
  logged = i.logged;
  unsigned = push-all IsUnsigned s row i.unsigned u;
}

-- ---- pol

both-at : (p : Point) (rows : List PlainRow) → AllHold p rows → All IsUnsigned rows → All (HoldsAt p) rows
both-at p rows h u i d lt = record { holds = h i d lt; unsigned = u i d lt }

pol_row-holds : (f : Formula) (s : State) (steps : List PolStep) (row : PlainRow) → IsSoundState f s → pol_row f.vars s.live steps ≡ Ok row → (p : Point) → AllHold p (live_rows s) → Test p row
pol_row-holds f s steps row i e p h = (pol_row-keeps (HoldsAt p) (holds-kept p) f.vars s.live steps row e (both-at p (live_rows s) h i.unsigned)).holds

-- ---- rup

rup_row-is : (vars : ℕ) (w : Written) (row : PlainRow) → rup_row vars w ≡ Ok row → in_normal_form w ≡ row
rup_row-is vars w row e =
    let small = made_if (is_small_row w) _ _ row e in
    let known = made_known vars (literals_in w.terms) _ row small.1 in
    let fit = made_if (nat_le (all_sizes w.terms w.at_least) (2 ^ 120)) (Ok (in_normal_form w)) _ row known in
    cc (fit.1)

-- ---- soli

negated_step : (b : Bool) (c v w : ℤ) → w ≡ neg_ℤ v → (if b then neg_ℤ c else pos 0) +ℤ w ≡ neg_ℤ ((if b then c else pos 0) +ℤ v)
negated_step true c v w e = omega (arith, ints)
negated_step false c v w e = omega (arith, ints)

pub value-negated : (p : Point) (ts : List Term) → value_at p (minus_terms ts) ≡ neg_ℤ (value_at p ts)
value-negated p [] = refl
value-negated p (t ∷ ts) = negated_step (is_true_at p t.lit) t.coef _ _ (value-negated p ts)

neg_le : (most v w : ℤ) → w ≡ neg_ℤ v → v <ℤ most → int_le (neg_ℤ (most -ℤ pos 1)) w ≡ true
neg_le most v w e h = grind (arith, ints)

holds-at_most_row : (p : Point) (ts : List Term) (v : ℤ) → value_at p ts <ℤ v → Test p (at_most_row ts (v -ℤ pos 1))
holds-at_most_row p ts v h =
    holds-normal_form p (minus_terms ts) (neg_ℤ (v -ℤ pos 1)) ∙ neg_le v (value_at p ts) _ (value-negated p ts) h

smaller_step : (b : Bool) (v w x : ℤ) → int_lt v w ≡ b → x <ℤ (if b then v else w) → (x <ℤ w) × (x <ℤ v)
smaller_step true v w x e h = grind (arith, ints)
smaller_step false v w x e h = grind (arith, ints)

below-smaller : (o : Option ℤ) (v x : ℤ) → IsBelow (Some (smaller o v)) x → IsBelow o x × (x <ℤ v)
below-smaller None v x h = (tt, h)
below-smaller (Some w) v x h = smaller_step (int_lt v w) v w x refl h

chosen_logged : (f : Formula) (b : Bool) (v w : ℤ) → IsLogged f (Some v) → IsLogged f (Some w) → IsLogged f (Some (if b then v else w))
chosen_logged f true v w h k = h
chosen_logged f false v w h k = k

logged-smaller : (f : Formula) (o : Option ℤ) (v : ℤ) → IsLogged f o → IsLogged f (Some v) → IsLogged f (Some (smaller o v))
logged-smaller f None v h k = k
logged-smaller f (Some w) v h k = chosen_logged f (int_lt v w) v w k h

logged-sound : (f : Formula) (s : State) (q : Point) → IsSoundState f s → AllHold q f.rows → IsSoundState f (logged f s (value_at q f.objective))
logged-sound f s q i h = record {
  rows_hold = λ p k b.
      let parts = below-smaller s.least (value_at q f.objective) (value_at p f.objective) b in
      push-all (Test p) s (at_most_row f.objective (value_at q f.objective -ℤ pos 1)) (i.rows_hold p k parts.0) (holds-at_most_row p f.objective (value_at q f.objective) parts.1);
  logged = logged-smaller f s.least (value_at q f.objective) i.logged (q, h, refl);
  unsigned = push-all IsUnsigned s (at_most_row f.objective (value_at q f.objective -ℤ pos 1)) i.unsigned
      (unsigned-normal_form (minus_terms f.objective) (neg_ℤ (value_at q f.objective -ℤ pos 1)));
}

after_soli-sound : (f : Formula) (s t : State) (ls : List Lit) → IsSoundState f s → after_soli f s ls ≡ Ok t → IsSoundState f t
after_soli-sound f s t ls i e =
    let known = made_known f.vars ls _ t e in
    let full = made_if (is_full f.vars ls) _ _ t known in
    let all = made_hold (named_point ls) 1 f.rows _ t full.1 in
    let same : logged f s (value_at (named_point ls) f.objective) ≡ t = cc (all.1) in
    subst (IsSoundState f) same (logged-sound f s (named_point ls) i all.0)

-- ---- del

module _ (P : PlainRow → Type 0) where
  kept_step : (b : Bool) (entry : NumberedRow) (kept : List NumberedRow) → P entry.row → All P (rows_of kept) → All P (rows_of (cond b (entry ∷ kept) kept))
  kept_step true entry kept h k = All-cons P entry.row (rows_of kept) h k
  kept_step false entry kept h k = k

  pub without-all : (n : ℕ) (live : List NumberedRow) → All P (rows_of live) → All P (rows_of (without n live))
  without-all n [] h = h
  without-all n (entry ∷ live) h =
      kept_step (not (entry.number == n)) entry (without n live) (All-head P entry.row (rows_of live) h) (without-all n live (All-tail P entry.row (rows_of live) h))

  pub deleted-all : (ns : List RowNo) (live left : List NumberedRow) → deleted ns live ≡ Ok left → All P (rows_of live) → All P (rows_of left)
  deleted-all [] live left e h = let same : live ≡ left = cc in subst (λ (l : List NumberedRow). All P (rows_of l)) same h
  deleted-all (n ∷ ns) live left e h =
      deleted-all ns (without n.0 live) left (made_if (is_numbered n.0 live) _ _ left e).1 (without-all n.0 live h)

-- ---- each step

pub after-sound : (f : Formula) (s : State) (line : Line) (t : State) → IsSoundState f s → after f s line ≡ Ok t → Follows s line → IsSoundState f t
after-sound f s (Pol steps) t i e o =
    let made = made_then (pol_row f.vars s.live steps) (λ row. Ok (with_row s row)) t e in
    let same : with_row s made.0 ≡ t = cc (made.2) in
    subst (IsSoundState f) same
    (with_row-sound f s made.0 i (pol_row-holds f s steps made.0 i made.1) (pol_row-keeps IsUnsigned unsigned-kept f.vars s.live steps made.0 made.1 i.unsigned))
after-sound f s (Rup w) t i e o =
    let made = made_then (rup_row f.vars w) (λ row. Ok (with_row s row)) t e in
    let same : with_row s made.0 ≡ t = cc (made.2) in
    let is = rup_row-is f.vars w made.0 made.1 in
    subst (IsSoundState f) same
    (with_row-sound f s made.0 i (λ p h. subst (Test p) is (implied-holds p (live_rows s) (in_normal_form w) o h)) (subst IsUnsigned is (unsigned-normal_form w.terms w.at_least)))
after-sound f s (Soli ls) t i e o = after_soli-sound f s t ls i e
after-sound f s (Del ids) t i e o =
    let made = made_then (deleted ids s.live) (λ live. Ok (record s { live = live })) t e in
    let same : record s { live = made.0 } ≡ t = cc (made.2) in
    subst (IsSoundState f) same (record {
      rows_hold = λ p h b. deleted-all (Test p) ids s.live made.0 made.1 (i.rows_hold p h b);
      logged = i.logged;
      unsigned = deleted-all IsUnsigned ids s.live made.0 made.1 i.unsigned;
    })
after-sound f s line t i e o = absurd (cc)
