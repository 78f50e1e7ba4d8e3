-- The first line of some bytes, and what it reads as.
use Rattle.std.proofs.Common.{◌≡◌, ℕ, suc, ◌+◌, ◌<◌, ◌≤◌, ◌==◌, Bool, true, false, cond, List, [], ◌∷◌, map, length, take, drop, if◌then◌else◌, inl, inr, refl, sym, ap, ◌∙◌, subst, arith}
use Rattle.std.specs.Prelude.{Option, Some, None, Result, Ok, Err, position}
use Rattle.std.specs.List.{position_from}
use Rattle.std.proofs.lemmas.Bool.{cases_Bool}
use Rattle.std.proofs.lemmas.Iterator.Adapters.{position_from-zero}
use Rattle.proof_lines.specs.declared.line.Line.{Line}
use Rattle.proof_lines.specs.declared.refusal.LineKind.{LineKind}
use Rattle.proof_lines.specs.declared.refusal.LineRefusal.{LineRefusal}
use Rattle.proof_lines.specs.declared.refusal.LineRefusal.TheVariants.{Syntax, TooBig}
use Rattle.proof_lines.specs.FirstLine.{counted, first_line, judged, kind_of, line_to}
use Rattle.proof_lines.specs.Spelling.{is_small_line, read_line}
use Rattle.proof_lines.specs.Texts.{is_spellable}
use Rattle.proof_lines.proofs.LinesMade.{line_made}
use Rattle.proof_rules.specs.Texts.{Cut, cut, into_first, whole_lines, with_byte}

abbrev is_feed : ℕ → Bool
is_feed b = b == 10

abbrev by_test : Bool → ℕ → Cut → Cut
by_test t b c = if t then record { whole = [] ∷ c.whole; rest = c.rest } else into_first b c.rest c.whole

-- ---- without a line feed

none_step : (t : Bool) (k : ℕ) (rest : Option ℕ) → cond t (Some k) rest ≡ None → (t ≡ false) × (rest ≡ None)
none_step true k rest e = absurd (cc e)
none_step false k rest e = (refl, e)

cut-none : (k : ℕ) (bytes : List ℕ) → position_from is_feed k bytes ≡ None → cut bytes ≡ record { whole = []; rest = bytes }
cut-none k [] e = refl
cut-none k (b ∷ bytes) e =
    let parts = none_step (is_feed b) k (position_from is_feed (k + 1) bytes) e in
    ap (with_byte b) (cut-none (k + 1) bytes parts.1) ∙ ap (λ (t : Bool). by_test t b (record { whole = []; rest = bytes })) parts.0

-- ---- the first line feed

-- at the place, with a line before it
record IsCutAt (bytes : List ℕ) (place : ℕ) : Type 0 where
  pub within : place < length bytes
  pub is : cut bytes ≡ record { whole = take place bytes ∷ (cut (drop (place + 1) bytes)).whole; rest = (cut (drop (place + 1) bytes)).rest }

here : (b : ℕ) (bytes : List ℕ) → is_feed b ≡ true → IsCutAt (b ∷ bytes) 0
here b bytes e = record { within = omega arith; is = ap (λ (t : Bool). by_test t b (cut bytes)) e }

later : (b : ℕ) (bytes : List ℕ) (place : ℕ) → is_feed b ≡ false → IsCutAt bytes place → IsCutAt (b ∷ bytes) (suc place)
later b bytes place e h = record {
  within = omega (arith, h.within);
  is =
      ap (λ (t : Bool). by_test t b (cut bytes)) e ∙ ap (λ (c : Cut). into_first b c.rest c.whole) h.is
      ∙ ap (λ (left : List ℕ). record { whole = (b ∷ take place bytes) ∷ (cut left).whole; rest = (cut left).rest }) (sym same);
}
  where
    one : suc place + 1 ≡ suc (place + 1)
    one = omega arith

    same : drop (suc place + 1) (b ∷ bytes) ≡ drop (place + 1) bytes
    same = ap (λ (n : ℕ). drop n (b ∷ bytes)) one

some_step : (t : Bool) (k i : ℕ) (rest : Option ℕ) → cond t (Some k) rest ≡ Some i → (t ≡ false → rest ≡ Some i) × (t ≡ true → k ≡ i)
some_step true k i rest e = (λ f. absurd (cc f), λ _. cc e)
some_step false k i rest e = (λ _. e, λ f. absurd (cc f))

cut-some : (k : ℕ) (bytes : List ℕ) (i : ℕ) → position_from is_feed k bytes ≡ Some i → (place : ℕ) × (i ≡ k + place) × IsCutAt bytes place
cut-some k [] i e = absurd (cc e)
cut-some k (b ∷ bytes) i e =
    let parts = some_step (is_feed b) k i (position_from is_feed (k + 1) bytes) e in
    elim (cases_Bool (is_feed b)) [
      | inl t ↦ (0, omega (arith, parts.1 t), here b bytes t)
      | inr f ↦ let more = cut-some (k + 1) bytes i (parts.0 f) in (suc more.0, omega (arith, more.1), later b bytes more.0 f more.2)
    ]

feed_at : (bytes : List ℕ) (i : ℕ) → position is_feed bytes ≡ Some i → IsCutAt bytes i
feed_at bytes i e =
    let found = cut-some 0 bytes i (sym (position_from-zero is_feed bytes) ∙ e) in
    subst (IsCutAt bytes) (omega (arith, found.1)) found.2

-- ---- what it reads as

-- a line of that length with its line feed, which reads so
pub record Begins (bytes : List ℕ) (o : Option Line) (len : ℕ) : Type 0 where
  pub whole : whole_lines bytes ≡ o ∷ whole_lines (drop len bytes)
  pub rest : (cut bytes).rest ≡ (cut (drop len bytes)).rest
  pub some : 0 < len
  pub within : len ≤ length bytes

begins : (bytes : List ℕ) (i : ℕ) → IsCutAt bytes i → Begins bytes (read_line (take i bytes)) (i + 1)
begins bytes i h = record {
  whole = ap (λ (c : Cut). map read_line c.whole) h.is;
  rest = ap (λ (c : Cut). c.rest) h.is;
  some = omega arith;
  within = omega (arith, h.within);
}

-- ---- the answers for the first line

judged_ok : (o : Option Line) (line : Line) → judged o ≡ Ok line → (o ≡ Some line) × (is_small_line line ≡ true)
judged_ok None line e = absurd (cc e)
judged_ok (Some l) line e = by (is_small_line l) refl e
  where
    by : (t : Bool) → is_small_line l ≡ t → (if t then Ok l else Err (TooBig (kind_of l))) ≡ Ok line → (Some l ≡ Some line) × (is_small_line line ≡ true)
    by true s h = let same : l ≡ line = cc h in (ap Some same, subst (λ (k : Line). is_small_line k ≡ true) same s)
    by false s h = absurd (cc h)

judged_none : (o : Option Line) → judged o ≡ Err Syntax → o ≡ None
judged_none None e = refl
judged_none (Some l) e = absurd (by (is_small_line l) e)
  where
    by : (t : Bool) → (if t then Ok l else Err (TooBig (kind_of l))) ≡ Err Syntax → ⊥
    by true h = cc h
    by false h = cc h

pub record IsBig (o : Option Line) (kind : LineKind) : Type 0 where
  pub line : Line
  pub is : o ≡ Some line
  pub big : is_small_line line ≡ false
  pub kind_is : kind_of line ≡ kind

judged_big : (o : Option Line) (kind : LineKind) → judged o ≡ Err (TooBig kind) → IsBig o kind
judged_big None kind e = absurd (cc e)
judged_big (Some l) kind e = by (is_small_line l) refl e
  where
    by : (t : Bool) → is_small_line l ≡ t → (if t then Ok l else Err (TooBig (kind_of l))) ≡ Err (TooBig kind) → IsBig (Some l) kind
    by true s h = absurd (cc h)
    by false s h = record { line = l; is = refl; big = s; kind_is = cc h }

counted_ok : (n : ℕ) (r : Result Line LineRefusal) (line : Line) (len : ℕ) → counted n r ≡ Ok (Some (line, len)) → (r ≡ Ok line) × (n ≡ len)
counted_ok n (Ok l) line len e = let same : (l, n) ≡ (line, len) = cc e in (ap (λ (p : Line × ℕ). Ok p.0) same, ap (λ (p : Line × ℕ). p.1) same)
counted_ok n (Err refusal) line len e = absurd (cc e)

counted_err : (n : ℕ) (r : Result Line LineRefusal) (refusal : LineRefusal) → counted n r ≡ Err refusal → r ≡ Err refusal
counted_err n (Ok l) refusal e = absurd (cc e)
counted_err n (Err other) refusal e = cc e

counted_some : (n : ℕ) (r : Result Line LineRefusal) → counted n r ≡ Ok None → ⊥
counted_some n (Ok l) e = cc e
counted_some n (Err refusal) e = cc e

pub record IsTaken (bytes : List ℕ) (line : Line) (len : ℕ) : Type 0 where
  pub made : is_spellable line ≡ true
  pub small : is_small_line line ≡ true
  pub begins : Begins bytes (Some line) len

taken_at : (bytes : List ℕ) (i : ℕ) (line : Line) (len : ℕ) → IsCutAt bytes i → counted (i + 1) (judged (read_line (take i bytes))) ≡ Ok (Some (line, len)) → IsTaken bytes line len
taken_at bytes i line len c e =
    let count = counted_ok (i + 1) (judged (read_line (take i bytes))) line len e in
    let read = judged_ok (read_line (take i bytes)) line count.0 in
    record {
      made = line_made (take i bytes) line read.0;
      small = read.1;
      begins = subst (λ (o : Option Line). Begins bytes o len) read.0 (subst (Begins bytes (read_line (take i bytes))) count.1 (begins bytes i c));
    }

taken_by : (bytes : List ℕ) (o : Option ℕ) (line : Line) (len : ℕ) → position is_feed bytes ≡ o → line_to bytes o ≡ Ok (Some (line, len)) → IsTaken bytes line len
taken_by bytes None line len p e = absurd (cc e)
taken_by bytes (Some i) line len p e = taken_at bytes i line len (feed_at bytes i p) e

pub first-taken : (bytes : List ℕ) (line : Line) (len : ℕ) → first_line bytes ≡ Ok (Some (line, len)) → IsTaken bytes line len
first-taken bytes line len e = taken_by bytes (position is_feed bytes) line len refl e

none_by : (bytes : List ℕ) (o : Option ℕ) → position is_feed bytes ≡ o → line_to bytes o ≡ Ok None → cut bytes ≡ record { whole = []; rest = bytes }
none_by bytes None p e = cut-none 0 bytes (sym (position_from-zero is_feed bytes) ∙ p)
none_by bytes (Some i) p e = absurd (counted_some (i + 1) (judged (read_line (take i bytes))) e)

pub first-none : (bytes : List ℕ) → first_line bytes ≡ Ok None → cut bytes ≡ record { whole = []; rest = bytes }
first-none bytes e = none_by bytes (position is_feed bytes) refl e

refused_by : (bytes : List ℕ) (o : Option ℕ) (refusal : LineRefusal) → position is_feed bytes ≡ o → line_to bytes o ≡ Err refusal → (i : ℕ) × IsCutAt bytes i × (judged (read_line (take i bytes)) ≡ Err refusal)
refused_by bytes None refusal p e = absurd (cc e)
refused_by bytes (Some i) refusal p e = (i, feed_at bytes i p, counted_err (i + 1) (judged (read_line (take i bytes))) refusal e)

pub first-unread : (bytes : List ℕ) → first_line bytes ≡ Err Syntax → (len : ℕ) × Begins bytes None len
first-unread bytes e =
    let found = refused_by bytes (position is_feed bytes) Syntax refl e in
    (found.0 + 1, subst (λ (o : Option Line). Begins bytes o (found.0 + 1)) (judged_none (read_line (take found.0 bytes)) found.2) (begins bytes found.0 found.1))

pub record IsTooBig (bytes : List ℕ) (kind : LineKind) : Type 0 where
  pub line : Line
  pub len : ℕ
  pub big : is_small_line line ≡ false
  pub kind_is : kind_of line ≡ kind
  pub begins : Begins bytes (Some line) len

pub first-big : (bytes : List ℕ) (kind : LineKind) → first_line bytes ≡ Err (TooBig kind) → IsTooBig bytes kind
first-big bytes kind e =
    let found = refused_by bytes (position is_feed bytes) (TooBig kind) refl e in
    let read = judged_big (read_line (take found.0 bytes)) kind found.2 in
    record { line = read.line; len = found.0 + 1; big = read.big; kind_is = read.kind_is; begins = subst (λ (o : Option Line). Begins bytes o (found.0 + 1)) read.is (begins bytes found.0 found.1) }
