-- A text in pieces: it doesn't matter how the bytes were cut.
use Rattle.std.proofs.Common.{◌≡◌, ℕ, zero, suc, ◌+◌, ◌==◌, Bool, true, false, List, [], ◌∷◌, ◌++◌, map, length, if◌then◌else◌, refl, sym, ap, ◌∙◌, subst, arith}
use Rattle.std.specs.Prelude.{Some, None}
use Rattle.std.proofs.lemmas.List.{map-append}
use Rattle.pb_rows.specs.Formula.{Formula}
use Rattle.proof_lines.specs.Spelling.{read_line}
use Rattle.proof_rules.specs.Refusals.{Refusal}
use Rattle.proof_rules.specs.Valid.{Place}
use Rattle.proof_rules.specs.Texts.{Cut, into_first, with_byte, cut, Reading, whole_lines, Reaches, Stops}

-- ---- bytes

-- the first one's lines, and then the second one's
abbrev glue : Cut → Cut → Cut
glue c d = record { whole = c.whole ++ d.whole; rest = d.rest }

abbrev by_test : Bool → ℕ → Cut → Cut
by_test t b c = if t then record { whole = [] ∷ c.whole; rest = c.rest } else into_first b c.rest c.whole

glue_step : (b : ℕ) (t : Bool) (whole : List (List ℕ)) (rest more : List ℕ) → (b == 10) ≡ t →
    by_test t b (glue (record { whole = whole; rest = rest }) (cut (rest ++ more)))
    ≡ glue (by_test t b (record { whole = whole; rest = rest })) (cut ((by_test t b (record { whole = whole; rest = rest })).rest ++ more))
glue_step b true whole rest more e = refl
glue_step b false (line ∷ lines) rest more e = refl
glue_step b false [] rest more e = ap (λ (t : Bool). by_test t b (cut (rest ++ more))) (sym e)

-- what is left of the first piece goes before the second
pub cut-append : (bytes more : List ℕ) → cut (bytes ++ more) ≡ glue (cut bytes) (cut ((cut bytes).rest ++ more))
cut-append [] more = refl
cut-append (b ∷ bytes) more =
    ap (with_byte b) (cut-append bytes more) ∙ glue_step b (b == 10) (cut bytes).whole (cut bytes).rest more refl

pub whole_lines-append : (bytes more : List ℕ) → whole_lines (bytes ++ more) ≡ whole_lines bytes ++ whole_lines ((cut bytes).rest ++ more)
whole_lines-append bytes more =
    ap (λ (c : Cut). map read_line c.whole) (cut-append bytes more) ∙ map-append read_line (cut bytes).whole (cut ((cut bytes).rest ++ more)).whole

pub rest-append : (bytes more : List ℕ) → (cut (bytes ++ more)).rest ≡ (cut ((cut bytes).rest ++ more)).rest
rest-append bytes more = ap (λ (c : Cut). c.rest) (cut-append bytes more)

-- after bytes without an unfinished line
pub cut-whole : (bytes more : List ℕ) → (cut bytes).rest ≡ [] → cut (bytes ++ more) ≡ record { whole = (cut bytes).whole ++ (cut more).whole; rest = (cut more).rest }
cut-whole bytes more e =
    cut-append bytes more ∙ ap (λ (left : List ℕ). record { whole = (cut bytes).whole ++ (cut (left ++ more)).whole; rest = (cut (left ++ more)).rest }) e

pub whole-append : (bytes more : List ℕ) → (cut bytes).rest ≡ [] → whole_lines (bytes ++ more) ≡ whole_lines bytes ++ whole_lines more
whole-append bytes more e = ap (λ (c : Cut). map read_line c.whole) (cut-whole bytes more e) ∙ map-append read_line (cut bytes).whole (cut more).whole

-- ---- lines

pub reaches-append : (f : Formula) (here : Place) (lines more : Reading) (middle there : Place) → Reaches f here lines middle → Reaches f middle more there → Reaches f here (lines ++ more) there
reaches-append f here [] more middle there r s = subst (λ (p : Place). Reaches f p more there) (sym r) s
reaches-append f here (None ∷ lines) more middle there r s = absurd r
reaches-append f here (Some line ∷ lines) more middle there r s = (r.0, r.1, reaches-append f r.0 lines more middle there r.2 s)

-- a line that was refused stays the first
pub stops-append : (f : Formula) (here : Place) (lines more : Reading) (n : ℕ) (why : Refusal) → Stops f here lines n why → Stops f here (lines ++ more) n why
stops-append f here [] more n why s = absurd s
stops-append f here (None ∷ lines) more zero why s = s
stops-append f here (None ∷ lines) more (suc n) why s = absurd s
stops-append f here (Some line ∷ lines) more zero why s = s
stops-append f here (Some line ∷ lines) more (suc n) why s = (s.0, s.1, stops-append f s.0 lines more n why s.2)

-- one that is refused after lines that are steps
pub stops-after : (f : Formula) (here : Place) (lines more : Reading) (middle : Place) (n : ℕ) (why : Refusal) → Reaches f here lines middle → Stops f middle more n why → Stops f here (lines ++ more) (length lines + n) why
stops-after f here [] more middle n why r s =
    subst (λ (k : ℕ). Stops f here more k why) (sym none_more) (subst (λ (p : Place). Stops f p more n why) (sym r) s)
  where
    none_more : 0 + n ≡ n
    none_more = omega arith
stops-after f here (None ∷ lines) more middle n why r s = absurd r
stops-after f here (Some line ∷ lines) more middle n why r s =
    subst (λ (k : ℕ). Stops f here (Some line ∷ (lines ++ more)) k why) one_more (r.0, r.1, stops-after f r.0 lines more middle n why r.2 s)
  where
    one_more : suc (length lines + n) ≡ suc (length lines) + n
    one_more = omega arith
