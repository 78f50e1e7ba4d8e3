-- What one line does, after the lines before it.
use Rattle.std.proofs.Common.{◌≡◌, ℕ, Bool, true, false, not, ◌&&◌, ◌||◌, cond, ltb, List, [], ◌∷◌, ◌++◌, map, Option, Some, None, refl, sym, ap, subst, ◌∙◌}
use Rattle.std.specs.Prelude.{is_none, slice_get, option_map, bytes_eq, codes, IfNone}
use Rattle.std.proofs.lemmas.Slice.Eq.{bytes_eq-Decides}
use Rattle.std.proofs.lemmas.Bool.{and_parts, and_from, and_left, and_right, or_from, or_left, or_right, not_from_true, not_from_false}
use Rattle.std.proofs.lemmas.List.{append-nil, map-append}
use Rattle.std.proofs.lemmas.List.Elements.{filter_map-append}
use Rattle.std.proofs.lemmas.List.Folds.{list_any-append, list_all-append}
use Rattle.hrt_reader.specs.declared.refusals.Flaw.{Flaw}
use Rattle.hrt_reader.specs.declared.stages.Stage.TheVariants.{Start, Open, Ended}
use Rattle.hrt_reader.specs.declared.stages.Step.{Step}
use Rattle.hrt_reader.specs.declared.stages.Step.TheVariants.{Next, Refused}
use Rattle.hrt_text.specs.Text.{colon, opening, closing, word, Row}
use Rattle.hrt_text.specs.Grammar.{Form, resident, hospital, finish, other, form_of, is_blank, is_header}
use Rattle.hrt_reader.specs.Refusal.{ResidentLine, HospitalLine, resident_by, hospital_by, residents_of, hospitals_of, declared_residents, declared_hospitals, all_blank, is_headed, is_finish, is_finished, is_open}
use Rattle.hrt_reader.specs.Kinds.{flaw_number}
use Rattle.hrt_reader.specs.Stages.{kind_early, kind_there, kind_by_form, StepsTo, StepsBy}
use Rattle.hrt_text.proofs.Among.{not_true}
use Rattle.hrt_reader.proofs.NoKind.{headed_not_blank}

and_true : (b : Bool) → (b && true) ≡ b
and_true true = refl
and_true false = refl

or_false : (b : Bool) → (b || false) ≡ b
or_false true = refl
or_false false = refl

-- ---- the early kinds

pub early_none : (before : List Row) (row : Row) (after : List Row) → (all_blank before && not (is_blank row) && not (is_header row)) ≡ false
    → (is_headed before && is_finished before && not (is_blank row)) ≡ false → (is_open before && not (is_blank row)) ≡ false → kind_early before row after ≡ None
unfolding kind_early
early_none before row after a b c = rw (a, c, b) refl

pub early_open : (before : List Row) (row : Row) (after : List Row) → is_open before ≡ true → is_blank row ≡ false → kind_early before row after ≡ kind_by_form before (form_of row) (before ++ row ∷ after)
unfolding kind_early
early_open before row after open-is filled =
    let t = and_parts (is_headed before) (not (is_finished before)) open-is in
    let headed : is_headed before ≡ true = t.0 in
    let unfinished : is_finished before ≡ false = not_true _ t.1 in
    let some : all_blank before ≡ false = headed_not_blank before headed in
    rw (some, headed, unfinished, filled) refl

abbrev pub with_nine : Bool → Option ℕ → Option ℕ
with_nine o None = cond o (Some 9) None
with_nine o (Some k) = Some (cond (ltb 9 k && o) 9 k)

nine : (b2 b3 b4 b5 b7 b8 o b11 b12 : Bool) →
    cond b2 (Some 2) (cond b3 (Some 3) (cond b4 (Some 4) (cond b5 (Some 5) (cond b7 (Some 7) (cond b8 (Some 8) (cond o (Some 9) (cond b11 (Some 11) (cond b12 (Some 12) None))))))))
    ≡ with_nine o (cond b2 (Some 2) (cond b3 (Some 3) (cond b4 (Some 4) (cond b5 (Some 5) (cond b7 (Some 7) (cond b8 (Some 8) (cond b11 (Some 11) (cond b12 (Some 12) None))))))))
nine true b3 b4 b5 b7 b8 o b11 b12 = refl
nine false true b4 b5 b7 b8 o b11 b12 = refl
nine false false true b5 b7 b8 o b11 b12 = refl
nine false false false true b7 b8 o b11 b12 = refl
nine false false false false true b8 o b11 b12 = refl
nine false false false false false true o b11 b12 = refl
nine false false false false false false true true b12 = refl
nine false false false false false false true false true = refl
nine false false false false false false true false false = refl
nine false false false false false false false true b12 = refl
nine false false false false false false false false true = refl
nine false false false false false false false false false = refl

pub there_open : (before : List Row) (row : Row) (after : List Row) → is_open before ≡ true → is_blank row ≡ false
    → kind_there before row after ≡ with_nine (is_none (slice_get after 0) && is_open (before ++ row ∷ [])) (kind_by_form before (form_of row) (before ++ row ∷ after))
unfolding kind_there
there_open before row after open-is filled =
    let t = and_parts (is_headed before) (not (is_finished before)) open-is in
    let headed : is_headed before ≡ true = t.0 in
    let unfinished : is_finished before ≡ false = not_true _ t.1 in
    let some : all_blank before ≡ false = headed_not_blank before headed in
    rw (some, headed, unfinished, filled) (nine _ _ _ _ _ _ _ _ _)

-- ---- one more line

pub blank_push : (before : List Row) (row : Row) → all_blank (before ++ row ∷ []) ≡ (all_blank before && is_blank row)
blank_push before row = list_all-append is_blank before (row ∷ []) ∙ ap (λ (b : Bool). all_blank before && b) (and_true (is_blank row))

pub headed_push : (before : List Row) (row : Row) → is_headed before ≡ true → is_headed (before ++ row ∷ []) ≡ true
headed_push [] row h = absurd cc
headed_push ([] ∷ before) row h = headed_push before row h
headed_push ((t ∷ line) ∷ before) row h = h

pub headed_new : (before : List Row) (row : Row) → all_blank before ≡ true → is_blank row ≡ false → is_headed (before ++ row ∷ []) ≡ is_header row
headed_new [] row h filled = rw filled refl
headed_new ([] ∷ before) row h filled = headed_new before row h filled
headed_new ((t ∷ line) ∷ before) row h filled = absurd cc

pub finished_push : (before : List Row) (row : Row) → is_finished (before ++ row ∷ []) ≡ (is_finished before || is_finish (form_of row))
finished_push before row = list_any-append (λ (r : Row). is_finish (form_of r)) before (row ∷ []) ∙ ap (λ (b : Bool). is_finished before || b) (or_false (is_finish (form_of row)))

pub open_push : (before : List Row) (row : Row) → is_open before ≡ true → is_finish (form_of row) ≡ false → is_open (before ++ row ∷ []) ≡ true
open_push before row h goes_on =
    let t = and_parts (is_headed before) (not (is_finished before)) h in
    let unfinished : is_finished (before ++ row ∷ []) ≡ false = finished_push before row ∙ or_from (is_finished before) (is_finish (form_of row)) (not_true _ t.1) goes_on in
    and_from (is_headed (before ++ row ∷ [])) (not (is_finished (before ++ row ∷ []))) (headed_push before row t.0) (not_from_false _ unfinished)

-- the names after a line, by its form

abbrev names_by : Form → List (List ℕ)
names_by (resident name items) = name ∷ []
names_by (hospital name capacity items) = []
names_by finish = []
names_by other = []

abbrev hospital_names_by : Form → List (List ℕ)
hospital_names_by (resident name items) = []
hospital_names_by (hospital name capacity items) = name ∷ []
hospital_names_by finish = []
hospital_names_by other = []

one_resident : (row : Row) (form : Form) → form ≡ form_of row → declared_residents (row ∷ []) ≡ names_by form
one_resident row (resident name items) e = rw (← e) refl
one_resident row (hospital name capacity items) e = rw (← e) refl
one_resident row finish e = rw (← e) refl
one_resident row other e = rw (← e) refl

one_hospital : (row : Row) (form : Form) → form ≡ form_of row → declared_hospitals (row ∷ []) ≡ hospital_names_by form
one_hospital row (resident name items) e = rw (← e) refl
one_hospital row (hospital name capacity items) e = rw (← e) refl
one_hospital row finish e = rw (← e) refl
one_hospital row other e = rw (← e) refl

pub residents_push : (before : List Row) (row : Row) (form : Form) → form ≡ form_of row → declared_residents (before ++ row ∷ []) ≡ declared_residents before ++ names_by form
residents_push before row form e =
    ap (map (λ (l : ResidentLine). l.name)) (filter_map-append (λ (r : Row). resident_by (form_of r)) before (row ∷ []))
    ∙ map-append (λ (l : ResidentLine). l.name) (residents_of before) (residents_of (row ∷ []))
    ∙ ap (λ (ns : List (List ℕ)). declared_residents before ++ ns) (one_resident row form e)

pub hospitals_push : (before : List Row) (row : Row) (form : Form) → form ≡ form_of row → declared_hospitals (before ++ row ∷ []) ≡ declared_hospitals before ++ hospital_names_by form
hospitals_push before row form e =
    ap (map (λ (l : HospitalLine). l.name)) (filter_map-append (λ (r : Row). hospital_by (form_of r)) before (row ∷ []))
    ∙ map-append (λ (l : HospitalLine). l.name) (hospitals_of before) (hospitals_of (row ∷ []))
    ∙ ap (λ (ns : List (List ℕ)). declared_hospitals before ++ ns) (one_hospital row form e)

-- ---- steps

-- a blank line changes nothing
pub blank_early : (before : List Row) (after : List Row) → kind_early before [] after ≡ None
blank_early before after =
    early_none before [] after (and_left (all_blank before && false) (not (is_header [])) (and_right (all_blank before) false refl)) (and_right (is_headed before && is_finished before) false refl) (and_right (is_open before) false refl)

pub blank_residents : (before : List Row) → declared_residents (before ++ [] ∷ []) ≡ declared_residents before
blank_residents before = residents_push before [] other refl ∙ append-nil (declared_residents before)

pub blank_hospitals : (before : List Row) → declared_hospitals (before ++ [] ∷ []) ≡ declared_hospitals before
blank_hospitals before = hospitals_push before [] other refl ∙ append-nil (declared_hospitals before)

-- a line between the header and `end` that isn't `end`
pub declared_step : (before : List Row) (row : Row) (after : List Row) (form : Form) (kind : Option Flaw) (is_last : Bool) (made : Step) (rs hs : List (List ℕ))
    → is_open before ≡ true → is_blank row ≡ false → form ≡ form_of row → is_finish form ≡ false → kind_by_form before form (before ++ row ∷ after) ≡ option_map flaw_number kind
    → is_last ≡ is_none (slice_get after 0) → StepsBy kind is_last made
    → (kind ≡ None → (declared_residents before ++ names_by form ≡ rs) × (declared_hospitals before ++ hospital_names_by form ≡ hs))
    → StepsTo before row after rs hs made
declared_step before row after form None is_last made rs hs h filled e goes_on kinds last by names =
    let n = names refl in
    let none : kind_early before row after ≡ None = early_open before row after h filled ∙ ap (λ (f : Form). kind_by_form before f (before ++ row ∷ after)) (sym e) ∙ kinds in
    subst (λ (s : Step). StepsTo before row after rs hs s) (sym by)
    (none, open_push before row h (ap is_finish (sym e) ∙ goes_on), residents_push before row form e ∙ n.0, hospitals_push before row form e ∙ n.1)
declared_step before row after form (Some kind) is_last (Next next) rs hs h filled e goes_on kinds last by names = absurd by
declared_step before row after form (Some kind) is_last (Refused found) rs hs h filled e goes_on kinds last by names =
    let still : is_open (before ++ row ∷ []) ≡ true = open_push before row h (ap is_finish (sym e) ∙ goes_on) in
    let same : (is_none (slice_get after 0) && is_open (before ++ row ∷ [])) ≡ is_last = ap (λ (b : Bool). is_none (slice_get after 0) && b) still ∙ and_true (is_none (slice_get after 0)) ∙ sym last in (
      filled,
      there_open before row after h filled
          ∙ ap (λ (f : Form). with_nine (is_none (slice_get after 0) && is_open (before ++ row ∷ [])) (kind_by_form before f (before ++ row ∷ after))) (sym e)
          ∙ ap (with_nine (is_none (slice_get after 0) && is_open (before ++ row ∷ []))) kinds
          ∙ ap (λ (b : Bool). with_nine b (Some (flaw_number kind))) same
          ∙ ap (λ (n : ℕ). Some n) (sym by),
    )

-- ---- before the header

blank_not_headed : (before : List Row) → all_blank before ≡ true → is_headed before ≡ false
blank_not_headed [] h = refl
blank_not_headed ([] ∷ before) h = blank_not_headed before h
blank_not_headed ((t ∷ row) ∷ before) h = absurd cc

blank_not_finished : (before : List Row) → all_blank before ≡ true → is_finished before ≡ false
blank_not_finished [] h = refl
blank_not_finished ([] ∷ before) h = blank_not_finished before h
blank_not_finished ((t ∷ row) ∷ before) h = absurd cc

pub header_form : (row : Row) → is_header row ≡ true → form_of row ≡ other
header_form [] h = absurd cc
header_form (colon ∷ row) h = absurd cc
header_form (opening ∷ row) h = absurd cc
header_form (closing ∷ row) h = absurd cc
header_form (word a ∷ []) h = absurd cc
header_form (word a ∷ colon ∷ row) h = absurd cc
header_form (word a ∷ opening ∷ row) h = absurd cc
header_form (word a ∷ closing ∷ row) h = absurd cc
header_form (word a ∷ word b ∷ t ∷ row) h = absurd cc
header_form (word a ∷ word b ∷ []) h =
    let t = and_parts (bytes_eq a (codes "hrt")) (bytes_eq b (codes "1")) h in
    let is : a ≡ codes "hrt" = (bytes_eq-Decides a (codes "hrt")).0 t.0 in
    rw is refl

pub start_blank : (before after : List Row) (rs hs : List (List ℕ)) → all_blank before ≡ true → declared_residents before ≡ rs → declared_hospitals before ≡ hs → StepsTo before [] after rs hs (Next Start)
start_blank before after rs hs h r k =
    (blank_early before after, blank_push before [] ∙ and_true (all_blank before) ∙ h, blank_residents before ∙ r, blank_hospitals before ∙ k)

pub start_header : (before : List Row) (row : Row) (after : List Row) (rs hs : List (List ℕ)) → all_blank before ≡ true → is_blank row ≡ false → is_header row ≡ true
    → declared_residents before ≡ rs → declared_hospitals before ≡ hs → StepsTo before row after rs hs (Next Open)
start_header before row after rs hs h filled header r k =
    let form : other ≡ form_of row = sym (header_form row header) in
    let unheaded : is_headed before ≡ false = blank_not_headed before h in
    let early : kind_early before row after ≡ None =
    early_none before row after (and_right (all_blank before && not (is_blank row)) (not (is_header row)) (not_from_true _ header))
    (and_left (is_headed before && is_finished before) (not (is_blank row)) (and_left (is_headed before) (is_finished before) unheaded))
    (and_left (is_open before) (not (is_blank row)) (and_left (is_headed before) (not (is_finished before)) unheaded)) in
    let headed : is_headed (before ++ row ∷ []) ≡ true = headed_new before row h filled ∙ header in
    let unfinished : is_finished (before ++ row ∷ []) ≡ false = finished_push before row ∙ or_from (is_finished before) (is_finish (form_of row)) (blank_not_finished before h) (ap is_finish (sym form)) in (
      early,
      and_from (is_headed (before ++ row ∷ [])) (not (is_finished (before ++ row ∷ []))) headed (not_from_false _ unfinished),
      residents_push before row other form ∙ append-nil (declared_residents before) ∙ r,
      hospitals_push before row other form ∙ append-nil (declared_hospitals before) ∙ k,
    )

pub start_other : (before : List Row) (row : Row) (after : List Row) → all_blank before ≡ true → is_blank row ≡ false → is_header row ≡ false → kind_there before row after ≡ Some 1
unfolding kind_there
start_other before row after h filled header = rw (h, filled, header) refl

-- ---- behind the end

pub ended_blank : (before after : List Row) (rs hs : List (List ℕ)) → is_headed before ≡ true → is_finished before ≡ true → declared_residents before ≡ rs → declared_hospitals before ≡ hs → StepsTo before [] after rs hs (Next Ended)
ended_blank before after rs hs h f r k =
    (blank_early before after, (headed_push before [] h, finished_push before [] ∙ or_left (is_finished before) false f), blank_residents before ∙ r, blank_hospitals before ∙ k)

pub ended_other : (before : List Row) (row : Row) (after : List Row) → is_headed before ≡ true → is_finished before ≡ true → is_blank row ≡ false → kind_there before row after ≡ Some 10
unfolding kind_there
ended_other before row after h f filled =
    let some : all_blank before ≡ false = headed_not_blank before h in
    let closed : is_open (before ++ row ∷ []) ≡ false = and_right (is_headed (before ++ row ∷ [])) (not (is_finished (before ++ row ∷ []))) (not_from_true _ (finished_push before row ∙ or_left (is_finished before) (is_finish (form_of row)) f)) in
    rw (some, h, f, filled, and_right (is_none (slice_get after 0)) (is_open (before ++ row ∷ [])) closed) refl

-- ---- between them

pub open_blank : (before after : List Row) (rs hs : List (List ℕ)) → is_open before ≡ true → declared_residents before ≡ rs → declared_hospitals before ≡ hs → StepsTo before [] after rs hs (Next Open)
open_blank before after rs hs h r k =
    (blank_early before after, open_push before [] h refl, blank_residents before ∙ r, blank_hospitals before ∙ k)

pub open_finish : (before : List Row) (row : Row) (after : List Row) (rs hs : List (List ℕ)) → is_open before ≡ true → is_blank row ≡ false → finish ≡ form_of row
    → declared_residents before ≡ rs → declared_hospitals before ≡ hs → StepsTo before row after rs hs (Next Ended)
open_finish before row after rs hs h filled form r k =
    let t = and_parts (is_headed before) (not (is_finished before)) h in
    let early : kind_early before row after ≡ None = early_open before row after h filled ∙ ap (λ (f : Form). kind_by_form before f (before ++ row ∷ after)) (sym form) in (
      early,
      (headed_push before row t.0, finished_push before row ∙ or_right (is_finished before) (is_finish (form_of row)) (ap is_finish (sym form))),
      residents_push before row finish form ∙ append-nil (declared_residents before) ∙ r,
      hospitals_push before row finish form ∙ append-nil (declared_hospitals before) ∙ k,
    )

pub wrong_line : (before : List Row) (row : Row) (after : List Row) → is_open before ≡ true → is_blank row ≡ false → other ≡ form_of row → kind_there before row after ≡ Some 2
wrong_line before row after h filled form =
    there_open before row after h filled
    ∙ ap (λ (f : Form). with_nine (is_none (slice_get after 0) && is_open (before ++ row ∷ [])) (kind_by_form before f (before ++ row ∷ after))) (sym form)

pub at_none : {P : Type 0} (kind : Option Flaw) → IfNone kind P → kind ≡ None → P
at_none None h e = h
at_none (Some k) h e = absurd cc
