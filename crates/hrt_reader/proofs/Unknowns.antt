-- The least line that names what is unknown, and the lists.
use Rattle.std.proofs.Common.{◌≡◌, ℕ, suc, ◌+◌, ◌<◌, ◌≤◌, true, false, List, [], ◌∷◌, ◌++◌, length, map, take, drop, Option, Some, None, sym, ap, subst, ◌∙◌, arith}
use Rattle.std.specs.Prelude.{filter_map}
use Rattle.std.specs.List.{cons_option}
use Rattle.std.specs.Borrow.{Bor}
use Rattle.std.proofs.lemmas.Bool.{cond-true, cond-false}
use Rattle.std.proofs.lemmas.List.{length-map, map-append}
use Rattle.std.proofs.lemmas.List.Elements.{filter_map-append}
use Rattle.hrt_text.specs.Text.{Row}
use Rattle.rank_tables.specs.Instance.{Lists}
use Rattle.rank_tables.specs.declared.draft.DraftResident.{DraftResident}
use Rattle.rank_tables.specs.declared.draft.DraftHospital.{DraftHospital}
use Rattle.hrt_text.specs.Grammar.{form_of}
use Rattle.hrt_text.specs.Views.{texts}
use Rattle.hrt_reader.specs.Refusal.{ResidentLine, HospitalLine, resident_by, hospital_by, residents_of, hospitals_of, declared_residents, declared_hospitals, resident_in, hospital_in, has_kind, Refusal, unknown_in, first_line, or_else, refusal, refusal_but_6}
use Rattle.hrt_reader.proofs.Places.{at, no_line_before, no_line_at_all, take_next}

abbrev pub AllKnown : List Row → ℕ → Type 0
AllKnown all n = (k : ℕ) → k < n → has_kind all (suc k) 6 ≡ false

none_in : (all : List Row) (k : ℕ) → has_kind all (suc k) 6 ≡ false → unknown_in all (1 + k) ≡ None
none_in all k h = let s : 1 + k ≡ suc k = omega arith in subst (λ (j : ℕ). unknown_in all j ≡ None) (sym s) (cond-false (has_kind all (suc k) 6) (Some 6) None h)

pub unknown_refused : (all : List Row) (i : ℕ) → refusal_but_6 all ≡ None → i < length all → AllKnown all i → has_kind all (suc i) 6 ≡ true → refusal all ≡ at (i + 1) 6
unknown_refused all i h lt known here =
    let s : 1 + i ≡ suc i = omega arith in
    let found : unknown_in all (1 + i) ≡ Some 6 = subst (λ (j : ℕ). unknown_in all j ≡ Some 6) (sym s) (cond-true (has_kind all (suc i) 6) (Some 6) None here) in
    let t : 1 + i ≡ i + 1 = omega arith in
    ap (λ (o : Option Refusal). or_else o (first_line (unknown_in all) 1 (length all))) h
    ∙ no_line_before (unknown_in all) 1 i (length all) 6 lt (λ (k : ℕ) (b : k < i). none_in all k (known k b)) found
    ∙ ap (λ (k : ℕ). at k 6) t

pub all_known : (all : List Row) → refusal_but_6 all ≡ None → AllKnown all (length all) → refusal all ≡ None
all_known all h known =
    ap (λ (o : Option Refusal). or_else o (first_line (unknown_in all) 1 (length all))) h
    ∙ no_line_at_all (unknown_in all) 1 (length all) (λ (k : ℕ) (b : k < length all). none_in all k (known k b))

-- ---- few names

length-cons : {Y : Type 0} (o : Option Y) (ys : List Y) → length (cons_option o ys) ≤ length ys + 1
length-cons None ys = omega arith
length-cons (Some y) ys = omega arith

length-kept : {X Y : Type 0} (h : X → Option Y) (xs : List X) → length (filter_map h xs) ≤ length xs
length-kept h [] = omega arith
length-kept h (x ∷ xs) = omega (arith, length-cons (h x) (filter_map h xs), length-kept h xs)

pub few_residents : (all : List Row) (keys : List (Bor (List ℕ))) → texts keys ≡ declared_residents all → length keys ≤ length all
few_residents all keys e =
    omega (arith, length-map keys (λ (k : Bor (List ℕ)). k.now), ap length e, length-map (residents_of all) (λ (l : ResidentLine). l.name), length-kept (λ (r : Row). resident_by (form_of r)) all)

pub few_hospitals : (all : List Row) (keys : List (Bor (List ℕ))) → texts keys ≡ declared_hospitals all → length keys ≤ length all
few_hospitals all keys e =
    omega (arith, length-map keys (λ (k : Bor (List ℕ)). k.now), ap length e, length-map (hospitals_of all) (λ (l : HospitalLine). l.name), length-kept (λ (r : Row). hospital_by (form_of r)) all)

-- ---- one more line of the lists

pub residents_more : (names : List (List ℕ)) (all : List Row) (i : ℕ) (row : Row) (after : List Row) → drop i all ≡ row ∷ after
    → map (resident_in names) (residents_of (take (i + 1) all)) ≡ map (resident_in names) (residents_of (take i all)) ++ map (resident_in names) (residents_of (row ∷ []))
residents_more names all i row after e =
    ap (λ (l : List Row). map (resident_in names) (residents_of l)) (take_next all i row after e)
    ∙ ap (map (resident_in names)) (filter_map-append (λ (r : Row). resident_by (form_of r)) (take i all) (row ∷ []))
    ∙ map-append (resident_in names) (residents_of (take i all)) (residents_of (row ∷ []))

pub hospitals_more : (names : List (List ℕ)) (all : List Row) (i : ℕ) (row : Row) (after : List Row) → drop i all ≡ row ∷ after
    → map (hospital_in names) (hospitals_of (take (i + 1) all)) ≡ map (hospital_in names) (hospitals_of (take i all)) ++ map (hospital_in names) (hospitals_of (row ∷ []))
hospitals_more names all i row after e =
    ap (λ (l : List Row). map (hospital_in names) (hospitals_of l)) (take_next all i row after e)
    ∙ ap (map (hospital_in names)) (filter_map-append (λ (r : Row). hospital_by (form_of r)) (take i all) (row ∷ []))
    ∙ map-append (hospital_in names) (hospitals_of (take i all)) (hospitals_of (row ∷ []))

abbrev pub both : List DraftResident → List DraftHospital → Lists
both rs hs = record { residents = rs; hospitals = hs }
