-- Texts that lead to the same still do when the same bytes follow, and have the same verdicts.
use Rattle.std.proofs.Common.{◌≡◌, ℕ, zero, suc, ◌+◌, ◌<◌, ◌==◌, Bool, true, false, nat_le, List, [], ◌∷◌, ◌++◌, map, length, if◌then◌else◌, ◌⊎◌, inl, inr, refl, sym, ap, ap₂, ◌∙◌, subst, arith, length-append}
use Rattle.std.specs.Prelude.{Option, Some, None}
use Rattle.std.proofs.lemmas.Bool.{leb-false}
use Rattle.std.proofs.lemmas.Bool.Decides.{nat_tests}
use Rattle.pb_rows.specs.Formula.{Formula}
use Rattle.proof_lines.specs.declared.line.Claim.{Claim}
use Rattle.proof_lines.specs.declared.line.Line.{Line}
use Rattle.proof_lines.specs.Spelling.{most_bytes, read_line}
use Rattle.proof_rules.specs.Refusals.{Refusal}
use Rattle.proof_rules.specs.Valid.{Done, Place, Start}
use Rattle.proof_rules.specs.Texts.{Accepted, Cut, HasVerdict, IsValidText, Reaches, Reading, Refused, Stops, Truncated, Verdict, all_lines, cut, into_first, last_line, whole_lines, with_byte}
use Rattle.proof_rules.proofs.Pieces.{reaches-append, rest-append, stops-after, stops-append, whole_lines-append}
use Rattle.proof_rules.proofs.Verdicts.{reaches-front}
use Rattle.proof_checker.specs.Standing.{Checked, Here, LeadsTo, Led, StandsFor, Stopped, unfinished}

-- ---- an unfinished line

-- it has no line feed
abbrev pub IsUnfinished : List ℕ → Type 0
IsUnfinished rest = cut rest ≡ record { whole = []; rest = rest }

abbrev by_test : Bool → ℕ → List (List ℕ) → List ℕ → Cut
by_test t b whole rest = if t then record { whole = [] ∷ whole; rest = rest } else into_first b rest whole

rest_step : (t : Bool) (b : ℕ) (whole : List (List ℕ)) (rest : List ℕ) → (b == 10) ≡ t → IsUnfinished rest → IsUnfinished (by_test t b whole rest).rest
rest_step true b whole rest e h = h
rest_step false b (line ∷ lines) rest e h = h
rest_step false b [] rest e h = ap (with_byte b) h ∙ ap (λ (t : Bool). by_test t b [] rest) e

pub rest-unfinished : (bytes : List ℕ) → IsUnfinished (cut bytes).rest
rest-unfinished [] = refl
rest-unfinished (b ∷ bytes) = rest_step (b == 10) b (cut bytes).whole (cut bytes).rest refl (rest-unfinished bytes)

-- its first byte is no line feed, and the others are an unfinished line
split_step : (t : Bool) (b : ℕ) (whole : List (List ℕ)) (rest r : List ℕ) → by_test t b whole rest ≡ record { whole = []; rest = b ∷ r } → (t ≡ false) × (whole ≡ []) × (rest ≡ r)
split_step true b whole rest r e = absurd (cc (ap (λ (c : Cut). c.whole) e))
split_step false b [] rest r e = (refl, refl, cc (ap (λ (c : Cut). c.rest) e))
split_step false b (line ∷ lines) rest r e = absurd (cc (ap (λ (c : Cut). c.whole) e))

unfinished-tail : (b : ℕ) (r : List ℕ) → IsUnfinished (b ∷ r) → ((b == 10) ≡ false) × IsUnfinished r
unfinished-tail b r h =
    let parts = split_step (b == 10) b (cut r).whole (cut r).rest r h in
    (parts.0, ap₂ (λ (whole : List (List ℕ)) (rest : List ℕ). record { whole = whole; rest = rest }) parts.1 parts.2)

-- bytes before the first line
abbrev behind : List ℕ → List (List ℕ) → List ℕ → Cut
behind r [] rest = record { whole = []; rest = r ++ rest }
behind r (line ∷ lines) rest = record { whole = (r ++ line) ∷ lines; rest = rest }

behind-nil : (whole : List (List ℕ)) (rest : List ℕ) → record { whole = whole; rest = rest } ≡ behind [] whole rest
behind-nil [] rest = refl
behind-nil (line ∷ lines) rest = refl

behind-cons : (b : ℕ) (r : List ℕ) (whole : List (List ℕ)) (rest : List ℕ) → into_first b (behind r whole rest).rest (behind r whole rest).whole ≡ behind (b ∷ r) whole rest
behind-cons b r [] rest = refl
behind-cons b r (line ∷ lines) rest = refl

cut-behind : (r more : List ℕ) → IsUnfinished r → cut (r ++ more) ≡ behind r (cut more).whole (cut more).rest
cut-behind [] more h = behind-nil (cut more).whole (cut more).rest
cut-behind (b ∷ r) more h =
    let tail = unfinished-tail b r h in
    let c : Cut = behind r (cut more).whole (cut more).rest in
    ap (with_byte b) (cut-behind r more tail.1) ∙ ap (λ (t : Bool). by_test t b c.whole c.rest) tail.0 ∙ behind-cons b r (cut more).whole (cut more).rest

-- ---- unfinished lines that look the same

abbrev IsLong : List ℕ → Type 0
IsLong rest = nat_le (length rest) most_bytes ≡ false

same_by : (s t : Bool) (a b : List ℕ) → (if s then Some a else None) ≡ (if t then Some b else None) → (a ≡ b) ⊎ ((s ≡ false) × (t ≡ false))
same_by true true a b e = inl (cc e)
same_by true false a b e = absurd (cc e)
same_by false true a b e = absurd (cc e)
same_by false false a b e = inr (refl, refl)

-- they are the same, or both longer than any line may be
same_rest : (a b : List ℕ) → unfinished a ≡ unfinished b → (a ≡ b) ⊎ (IsLong a × IsLong b)
same_rest a b e = same_by (nat_le (length a) most_bytes) (nat_le (length b) most_bytes) a b e

not_le : (n m : ℕ) → m < n → nat_le n m ≡ false
not_le n m h = grind (arith, nat_tests)

unread : (t : Bool) (o : Option Line) → t ≡ false → (if t then o else None) ≡ None
unread true o e = absurd (cc e)
unread false o e = refl

long-append : (r more : List ℕ) → IsLong r → most_bytes < length (r ++ more)
long-append r more h = omega (arith, leb-false (length r) most_bytes h, length-append r more)

-- a long line has no spelling
long-unread : (r more : List ℕ) → IsLong r → read_line (r ++ more) ≡ None
long-unread r more h = unread (nat_le (length (r ++ more) + 1) most_bytes) _ (not_le (length (r ++ more) + 1) most_bytes (omega (arith, long-append r more h)))

long-behind : (a b : List ℕ) (whole : List (List ℕ)) (rest : List ℕ) → IsLong a → IsLong b → map read_line (behind a whole rest).whole ≡ map read_line (behind b whole rest).whole
long-behind a b [] rest h k = refl
long-behind a b (line ∷ lines) rest h k = ap₂ (λ (o p : Option Line). o ∷ map read_line lines) (long-unread a line h) (long-unread a line h) ∙ ap (λ (o : Option Line). o ∷ map read_line lines) (sym (long-unread b line k))

hidden : (t : Bool) (rest : List ℕ) → t ≡ false → (if t then Some rest else None) ≡ None
hidden true rest e = absurd (cc e)
hidden false rest e = refl

hidden-append : (r more : List ℕ) → IsLong r → unfinished (r ++ more) ≡ None
hidden-append r more h = hidden (nat_le (length (r ++ more)) most_bytes) (r ++ more) (not_le (length (r ++ more)) most_bytes (long-append r more h))

long-rest : (a b : List ℕ) (whole : List (List ℕ)) (rest : List ℕ) → IsLong a → IsLong b → unfinished (behind a whole rest).rest ≡ unfinished (behind b whole rest).rest
long-rest a b [] rest h k = hidden-append a rest h ∙ sym (hidden-append b rest k)
long-rest a b (line ∷ lines) rest h k = refl

long-last : (r : List ℕ) → IsLong r → last_line r ≡ None ∷ []
long-last [] h = absurd (cc h)
long-last (b ∷ r) h = ap (λ (o : Option Line). o ∷ []) (unread (nat_le (length (b ∷ r) + 1) most_bytes) _ (not_le (length (b ∷ r) + 1) most_bytes (omega (arith, leb-false (length (b ∷ r)) most_bytes h))))

module _ (a b : List ℕ) (ha : IsUnfinished a) (hb : IsUnfinished b) (same : unfinished a ≡ unfinished b) where
  lines-behind : (more : List ℕ) → whole_lines (a ++ more) ≡ whole_lines (b ++ more)
  lines-behind more = elim (same_rest a b same) [
    | inl e ↦ ap (λ (r : List ℕ). whole_lines (r ++ more)) e
    | inr long ↦
        ap (λ (c : Cut). map read_line c.whole) (cut-behind a more ha) ∙ long-behind a b (cut more).whole (cut more).rest long.0 long.1
        ∙ sym (ap (λ (c : Cut). map read_line c.whole) (cut-behind b more hb))
  ]

  rest-behind : (more : List ℕ) → unfinished (cut (a ++ more)).rest ≡ unfinished (cut (b ++ more)).rest
  rest-behind more = elim (same_rest a b same) [
    | inl e ↦ ap (λ (r : List ℕ). unfinished (cut (r ++ more)).rest) e
    | inr long ↦
        ap (λ (c : Cut). unfinished c.rest) (cut-behind a more ha) ∙ long-rest a b (cut more).whole (cut more).rest long.0 long.1
        ∙ sym (ap (λ (c : Cut). unfinished c.rest) (cut-behind b more hb))
  ]

  last-behind : last_line a ≡ last_line b
  last-behind = elim (same_rest a b same) [
    | inl e ↦ ap last_line e
    | inr long ↦ long-last a long.0 ∙ sym (long-last b long.1)
  ]

-- ---- lines that stop

-- among the first lines, or behind them
pub record StopsLater (f : Formula) (here : Place) (lines more : Reading) (n : ℕ) (why : Refusal) : Type 0 where
  pub middle : Place
  pub rest : ℕ
  pub reaches : Reaches f here lines middle
  pub stops : Stops f middle more rest why
  pub count : length lines + rest ≡ n

stops-split : (f : Formula) (here : Place) (lines more : Reading) (n : ℕ) (why : Refusal) → Stops f here (lines ++ more) n why → Stops f here lines n why ⊎ StopsLater f here lines more n why
stops-split f here [] more n why s = inr (record { middle = here; rest = n; reaches = refl; stops = s; count = omega arith })
stops-split f here (None ∷ lines) more zero why s = inl s
stops-split f here (None ∷ lines) more (suc n) why s = absurd s
stops-split f here (Some line ∷ lines) more zero why s = inl s
stops-split f here (Some line ∷ lines) more (suc n) why s = elim (stops-split f s.0 lines more n why s.2) [
  | inl t ↦ inl (s.0, s.1, t)
  | inr t ↦ inr (record { middle = t.middle; rest = t.rest; reaches = (s.0, s.1, t.reaches); stops = t.stops; count = omega (arith, t.count) })
]

-- ---- more bytes

module _ (f : Formula) (a b : List ℕ) (same : (led : Led) → LeadsTo f a led → LeadsTo f b led) where
  -- where the whole lines of the one lead, those of the other do, and the unfinished lines look the same
  pub at : (place : Place) → Reaches f Start (whole_lines a) place → LeadsTo f b (Here place (length (whole_lines a)) (unfinished (cut a).rest))
  at place r = same (Here place (length (whole_lines a)) (unfinished (cut a).rest)) (r, refl, refl)

  carried_here : (more : List ℕ) (place : Place) → Reaches f Start (whole_lines (a ++ more)) place → LeadsTo f (b ++ more) (Here place (length (whole_lines (a ++ more))) (unfinished (cut (a ++ more)).rest))
  carried_here more place r =
      let front = reaches-front f Start (whole_lines a) (whole_lines ((cut a).rest ++ more)) place (subst (λ (lines : Reading). Reaches f Start lines place) (whole_lines-append a more) r) in
      let there = at front.0 front.1 in
      let rests : unfinished (cut a).rest ≡ unfinished (cut b).rest = sym there.2 in
      let tails : whole_lines ((cut a).rest ++ more) ≡ whole_lines ((cut b).rest ++ more) = lines-behind (cut a).rest (cut b).rest (rest-unfinished a) (rest-unfinished b) rests more in (
        subst (λ (lines : Reading). Reaches f Start lines place) (sym (whole_lines-append b more))
            (reaches-append f Start (whole_lines b) (whole_lines ((cut b).rest ++ more)) front.0 place there.0 (subst (λ (lines : Reading). Reaches f front.0 lines place) tails front.2)),
        ap length (whole_lines-append b more) ∙ length-append (whole_lines b) (whole_lines ((cut b).rest ++ more)) ∙ ap₂ (λ (n m : ℕ). n + m) there.1 (ap length (sym tails))
            ∙ sym (length-append (whole_lines a) (whole_lines ((cut a).rest ++ more))) ∙ sym (ap length (whole_lines-append a more)),
        ap unfinished (rest-append b more) ∙ sym (rest-behind (cut a).rest (cut b).rest (rest-unfinished a) (rest-unfinished b) rests more) ∙ sym (ap unfinished (rest-append a more)),
      )

  -- the same of one more line, and of none
  carried_stop : (n : ℕ) (more more' : Reading) (why : Refusal) → (unfinished (cut a).rest ≡ unfinished (cut b).rest → more ≡ more') → Stops f Start (whole_lines a ++ more) n why → Stops f Start (whole_lines b ++ more') n why
  carried_stop n more more' why tails s = elim (stops-split f Start (whole_lines a) more n why s) [
    | inl t ↦
        let there = same (Stopped (record { line = n + 1; why = why })) (n, refl, t) in
        let count : there.0 ≡ n = omega (arith, there.1) in
        stops-append f Start (whole_lines b) more' n why (subst (λ (k : ℕ). Stops f Start (whole_lines b) k why) count there.2)
    | inr t ↦
        let there = at t.middle t.reaches in
        let count : length (whole_lines b) + t.rest ≡ n = omega (arith, there.1, t.count) in
        subst (λ (k : ℕ). Stops f Start (whole_lines b ++ more') k why) count
        (stops-after f Start (whole_lines b) more' t.middle t.rest why there.0 (subst (λ (lines : Reading). Stops f t.middle lines t.rest why) (tails (sym there.2)) t.stops))
  ]

  stop_behind : (more : List ℕ) (n : ℕ) (why : Refusal) → Stops f Start (whole_lines (a ++ more)) n why → Stops f Start (whole_lines (b ++ more)) n why
  stop_behind more n why s =
      subst (λ (lines : Reading). Stops f Start lines n why) (sym (whole_lines-append b more))
      (carried_stop n (whole_lines ((cut a).rest ++ more)) (whole_lines ((cut b).rest ++ more)) why
      (λ rests. lines-behind (cut a).rest (cut b).rest (rest-unfinished a) (rest-unfinished b) rests more)
      (subst (λ (lines : Reading). Stops f Start lines n why) (whole_lines-append a more) s))

  pub carried : (more : List ℕ) (led : Led) → LeadsTo f (a ++ more) led → LeadsTo f (b ++ more) led
  carried more (Here place lines line) h =
      let there = carried_here more place h.0 in
      (there.0, there.1 ∙ h.1, there.2 ∙ h.2)
  carried more (Stopped refusal) h = (h.0, h.1, stop_behind more h.0 refusal.why h.2)

  -- ---- verdicts

  pub carried_valid : (claim : Claim) → IsValidText f a claim → IsValidText f b claim
  carried_valid claim v =
      let front = reaches-front f Start (whole_lines a) (last_line (cut a).rest) (Done claim) v in
      let there = at front.0 front.1 in
      reaches-append f Start (whole_lines b) (last_line (cut b).rest) front.0 (Done claim) there.0
      (subst (λ (lines : Reading). Reaches f front.0 lines (Done claim)) (last-behind (cut a).rest (cut b).rest (rest-unfinished a) (rest-unfinished b) (sym there.2)) front.2)

  carried_refused : (n : ℕ) (why : Refusal) → Stops f Start (all_lines a) n why → Stops f Start (all_lines b) n why
  carried_refused n why s =
      carried_stop n (last_line (cut a).rest) (last_line (cut b).rest) why (λ rests. last-behind (cut a).rest (cut b).rest (rest-unfinished a) (rest-unfinished b) rests) s

  pub carried_verdict : ((claim : Claim) → IsValidText f b claim → IsValidText f a claim) → (verdict : Verdict) → HasVerdict f a verdict → HasVerdict f b verdict
  carried_verdict back (Accepted claim) v = carried_valid claim v
  carried_verdict back (Refused refusal) (n, e, inl s) = let there = same (Stopped refusal) (n, e, s) in (there.0, there.1, inl there.2)
  carried_verdict back (Refused refusal) (n, e, inr s) = (n, e, inr (s.0, (at (Done s.0) s.1).0, carried_refused n refusal.why s.2))
  carried_verdict back Truncated t = record {
    here = t.here;
    reaches = (at t.here t.reaches).0;
    not_done = t.not_done;
    not_ended = λ claim v. t.not_ended claim (back claim v);
  }

-- ---- checkers

pub stands-fed : (text piece : List ℕ) (old new : Checked) → new ≡ record old { bytes = old.bytes ++ piece } → StandsFor text old → StandsFor (text ++ piece) new
stands-fed text piece old new is s =
    subst (StandsFor (text ++ piece)) (sym is) (record {
      reading = s.reading;
      leads = λ led. (carried old.formula old.bytes text (λ l. (s.leads l).0) piece led, carried old.formula text old.bytes (λ l. (s.leads l).1) piece led);
    })
