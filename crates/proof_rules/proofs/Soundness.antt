-- Proofs are sound.
use Rattle.std.proofs.Common.{◌≡◌, ℕ, ◌==◌, ◌≤◌, true, List, [], ◌∷◌, length, ℤ, int_le, ◌≤ℤ◌, ◌⊎◌, inl, inr, sym, ap, ◌∙◌, subst, arith}
use Rattle.std.specs.Prelude.{Option, Some, None, Result, Ok}
use Rattle.std.proofs.lemmas.Int.{ints, by_lt_z}
use Rattle.std.proofs.lemmas.Bool.{leb-true, le-leb}
use Rattle.std.proofs.lemmas.List.Elements.{All-contains}
use Rattle.pb_rows.specs.Terms.{PlainRow}
use Rattle.pb_rows.specs.Points.{Point, true_sum, value_at}
use Rattle.pb_rows.specs.Rows.{AllHold}
use Rattle.pb_rows.specs.Closure.{Implies}
use Rattle.pb_rows.specs.Formula.{Formula}
use Rattle.pb_rows.proofs.ByNets.{holds-normal_form}
use Rattle.pb_rows.proofs.Implied.{implied-holds, refuted-none}
use Rattle.proof_lines.specs.declared.line.Claim.{Claim}
use Rattle.proof_lines.specs.declared.line.Claim.TheVariants.{Bounds, Unsat, Nothing}
use Rattle.proof_lines.specs.declared.line.Line.{Line}
use Rattle.proof_lines.specs.declared.line.Line.TheVariants.{Header, Count, Output, Conclusion, End, Comment, Blank}
use Rattle.proof_lines.specs.Spelling.{is_small_claim}
use Rattle.proof_rules.specs.Refusals.{Refusal, and_then}
use Rattle.proof_rules.specs.States.{State, live_rows, first_state, after, Follows}
use Rattle.proof_rules.specs.Claims.{IsReached, IsUnpassed, HasStronger, ShowsLower, ShowsUpper, Shows, at_least_row}
use Rattle.proof_rules.specs.Valid.{Place, Start, Headed, Proving, Closing, Claimed, Done, next_place, Owed, Leads}
use Rattle.proof_rules.specs.Sound.{HasNormalRows, IsLowerBound, IsUpperBound, IsTrueClaim, IsBelow, IsLogged, IsSoundState, ProofsAreSound}
use Rattle.proof_rules.proofs.Made.{made_if, made_then}
use Rattle.proof_rules.proofs.Steps.{Test, first-sound, after-sound}

-- ---- claims

stronger-holds : (p : Point) (other row : PlainRow) → other.terms ≡ row.terms → row.degree ≤ other.degree → Test p other → Test p row
stronger-holds p other row e d h =
    le-leb row.degree (true_sum p row.terms) (omega (arith, d, leb-true other.degree (true_sum p other.terms) h, ap (true_sum p) e))

bound-holds : (f : Formula) (s : State) (l : ℤ) (p : Point) → (Implies (live_rows s) (at_least_row f l) ⊎ HasStronger s (at_least_row f l)) → AllHold p (live_rows s) → Test p (at_least_row f l)
bound-holds f s l p (inl i) h = implied-holds p (live_rows s) (at_least_row f l) i h
bound-holds f s l p (inr t) h = stronger-holds p t.0 (at_least_row f l) t.2 t.3 (All-contains (Test p) (live_rows s) t.0 h t.1)

le_of_test : (l v : ℤ) → int_le l v ≡ true → l ≤ℤ v
le_of_test l v h = grind (arith, ints)

past : (l w v : ℤ) → l ≤ℤ w → w ≤ℤ v → l ≤ℤ v
past l w v h k = omega (arith, ints)

-- either the value is below the least logged one, or that one is at least the bound
unpassed : (o : Option ℤ) (l v : ℤ) → IsUnpassed o l → (IsBelow o v → l ≤ℤ v) → l ≤ℤ v
unpassed None l v u k = k tt
unpassed (Some w) l v u k = by_lt_z v w k (λ h. past l w v u h)

lower-true : (f : Formula) (s : State) (lower : Option ℤ) → IsSoundState f s → ShowsLower f s lower → IsLowerBound f lower
lower-true f s None i h = tt
lower-true f s (Some l) i h =
    λ p sat. unpassed s.least l (value_at p f.objective) h.0
    (λ b. le_of_test l (value_at p f.objective) (sym (holds-normal_form p f.objective l) ∙ bound-holds f s l p h.1 (i.rows_hold p sat b)))

at_most : (v w u : ℤ) → v ≡ w → w ≤ℤ u → v ≤ℤ u
at_most v w u e h = omega (arith, ints)

reached : (f : Formula) (o : Option ℤ) (u : ℤ) → IsReached o u → IsLogged f o → IsUpperBound f (Some u)
reached f None u r l = absurd r
reached f (Some w) u r l = (l.0, l.1, at_most (value_at l.0 f.objective) w u l.2 r)

upper-true : (f : Formula) (s : State) (upper : Option ℤ) → IsSoundState f s → ShowsUpper s upper → IsUpperBound f upper
upper-true f s None i h = tt
upper-true f s (Some u) i h = reached f s.least u h i.logged

pub shown-true : (f : Formula) (s : State) (claim : Claim) → IsSoundState f s → Shows f s claim → IsTrueClaim f claim
shown-true f s (Bounds lower upper) i h = (lower-true f s lower i h.0, upper-true f s upper i h.1)
shown-true f s Unsat i h =
    λ p sat. refuted-none p (live_rows s) h.1 (i.rows_hold p sat (subst (λ (o : Option ℤ). IsBelow o (value_at p f.objective)) (sym h.0) tt))
shown-true f s Nothing i h = tt

-- ---- places

abbrev pub IsSoundPlace : Formula → Place → Type 0
IsSoundPlace f Start = HasNormalRows f
IsSoundPlace f Headed = HasNormalRows f
IsSoundPlace f (Proving s) = IsSoundState f s
IsSoundPlace f (Closing s) = IsSoundState f s
IsSoundPlace f (Claimed c) = IsTrueClaim f c
IsSoundPlace f (Done c) = IsTrueClaim f c

abbrev pub to : Place → Result Place Refusal
to place = Ok place

arrived : (f : Formula) (here there : Place) → to here ≡ to there → IsSoundPlace f here → IsSoundPlace f there
arrived f here there e h = let same : here ≡ there = cc in subst (IsSoundPlace f) same h

stepped : (f : Formula) (s : State) (line : Line) (there : Place) → IsSoundState f s → Follows s line → and_then (after f s line) (λ t. to (Proving t)) ≡ to there → IsSoundPlace f there
stepped f s line there i o e =
    let made = made_then (after f s line) (λ t. to (Proving t)) there e in
    arrived f (Proving made.0) there made.2 (after-sound f s line made.0 i made.1 o)

counted : (f : Formula) (n : ℕ) (there : Place) → HasNormalRows f → next_place f Headed (Count n) ≡ to there → IsSoundPlace f there
counted f n there i e = arrived f (Proving (first_state f)) there (made_if (n == length f.rows) (to (Proving (first_state f))) _ there e).1 (first-sound f i)

claimed : (f : Formula) (s : State) (c : Claim) (there : Place) → IsSoundState f s → Shows f s c → next_place f (Closing s) (Conclusion c) ≡ to there → IsSoundPlace f there
claimed f s c there i o e = arrived f (Claimed c) there (made_if (is_small_claim c) (to (Claimed c)) _ there e).1 (shown-true f s c i o)

pub moved : (f : Formula) (here : Place) (line : Line) (there : Place) → IsSoundPlace f here → next_place f here line ≡ to there → Owed f here line → IsSoundPlace f there
moved f Start Header there i e o = arrived f Headed there e i
moved f Start line there i e o = absurd (cc)
moved f Headed (Count n) there i e o = counted f n there i e
moved f Headed Blank there i e o = arrived f Headed there e i
moved f Headed Comment there i e o = arrived f Headed there e i
moved f Headed line there i e o = absurd (cc)
moved f (Proving s) Blank there i e o = arrived f (Proving s) there e i
moved f (Proving s) Comment there i e o = arrived f (Proving s) there e i
moved f (Proving s) Output there i e o = arrived f (Closing s) there e i
moved f (Proving s) line there i e o = stepped f s line there i o e
moved f (Closing s) Blank there i e o = arrived f (Closing s) there e i
moved f (Closing s) Comment there i e o = arrived f (Closing s) there e i
moved f (Closing s) (Conclusion c) there i e o = claimed f s c there i o e
moved f (Closing s) line there i e o = absurd (cc)
moved f (Claimed c) Blank there i e o = arrived f (Claimed c) there e i
moved f (Claimed c) Comment there i e o = arrived f (Claimed c) there e i
moved f (Claimed c) End there i e o = arrived f (Done c) there e i
moved f (Claimed c) line there i e o = absurd (cc)
moved f (Done c) Blank there i e o = arrived f (Done c) there e i
moved f (Done c) line there i e o = absurd (cc)

led : (f : Formula) (here : Place) (lines : List Line) (there : Place) → IsSoundPlace f here → Leads f here lines there → IsSoundPlace f there
led f here [] there i l = subst (IsSoundPlace f) l i
led f here (line ∷ lines) there i l = led f l.0 lines there (moved f here line l.0 i l.1.leads l.1.owed) l.2

-- whatever the lines are, a valid proof's claim is true
pub proofs_sound : ProofsAreSound
proofs_sound f lines claim n valid = led f Start lines (Done claim) n valid
