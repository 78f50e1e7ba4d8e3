-- The closures of decisions on a trail: a row learned over them is fresh, and its sizes are the trail's lengths.
use Rattle.std.proofs.Common.{◌≡◌, ℕ, zero, suc, ◌+◌, ◌≤◌, true, false, not, ◌==◌, List, [], ◌∷◌, ◌++◌, length, take, refl, sym, ap, ◌∙◌, subst, arith}
use Rattle.std.specs.Prelude.{Some, slice_get}
use Rattle.std.specs.List.{AllByRecursion}
use Rattle.std.proofs.lemmas.Bool.{and_from, and_parts, eq-eqb, eqb-true, false_from_ne_true, not-true, not_from_false, or_from, or_left, or_parts, or_right, true≢false}
use Rattle.std.proofs.lemmas.List.{append-nil, append_assoc, length-take-le}
use Rattle.std.proofs.lemmas.List.Elements.{All-from_recursion}
use Rattle.hrt_base.specs.declared.literal.Lit.{Lit}
use Rattle.pb_rows.specs.Terms.{PlainRow}
use Rattle.pb_rows.specs.Points.{IsCovered}
use Rattle.pb_rows.specs.Closure.{IsClosure, among}
use Rattle.rank_tables.specs.Numbers.{is_distinct, is_in}
use Rattle.proof_rules.specs.Notes.{AreDecisions, Asserts, Fresh, HaveSizes, IsOpen, set_size, with_lit}
use Rattle.conflict_bound.proofs.SetSizes.{size-fewer}
use Rattle.conflict_bound.proofs.FreshSizes.{with_lit-has, with_lit-more}
use Rattle.search_measure.proofs.TrailSizes.{open-elsewhere, size-list, size-one, variables}

-- the literal is over the variables
abbrev pub IsKnown : ℕ → Lit → Type 0
IsKnown vars l = IsCovered vars l.var

-- literals over the variables, no variable twice
pub record IsAssigned (vars : ℕ) (trail : List Lit) : Type 0 where
  pub known : AllByRecursion (IsKnown vars) trail
  pub distinct : is_distinct (variables trail) ≡ true

-- The first literals of the trail, as many as each end says, are the closure of the decisions up to there. The literal behind them is
-- the next decision. The last end is that of the level that is asked for.
abbrev pub AreLevels : List PlainRow → List Lit → List Lit → List Lit → List ℕ → ℕ → Type 0
AreLevels rows trail earlier [] [] last = IsClosure rows (among earlier) (among (take last trail))
AreLevels rows trail earlier [] (e ∷ ends) last = ⊥
AreLevels rows trail earlier (d ∷ later) [] last = ⊥
AreLevels rows trail earlier (d ∷ later) (e ∷ ends) last =
    IsClosure rows (among earlier) (among (take e trail)) × (slice_get trail e ≡ Some d) × AreLevels rows trail (earlier ++ d ∷ []) later ends last

-- ---- parts of a trail

-- fewer literals, fewer variables
is_in-take : (k v : ℕ) (xs : List Lit) → is_in v (variables xs) ≡ false → is_in v (variables (take k xs)) ≡ false
is_in-take zero v xs h = refl
is_in-take (suc k) v [] h = refl
is_in-take (suc k) v (x ∷ xs) h =
    let parts = or_parts (x.var == v) (is_in v (variables xs)) h in or_from (x.var == v) (is_in v (variables (take k xs))) parts.0 (is_in-take k v xs parts.1)

-- a front of the trail is assigned too
pub front-assigned : (vars k : ℕ) (trail : List Lit) → IsAssigned vars trail → IsAssigned vars (take k trail)
front-assigned vars zero trail a = record { known = tt; distinct = refl }
front-assigned vars (suc k) [] a = a
front-assigned vars (suc k) (x ∷ xs) a =
    let parts = and_parts (not (is_in x.var (variables xs))) (is_distinct (variables xs)) a.distinct in
    let rest = front-assigned vars k xs (record { known = a.known.1; distinct = parts.1 }) in
    record {
      known = (a.known.0, rest.known);
      distinct = and_from (not (is_in x.var (variables (take k xs)))) (is_distinct (variables (take k xs))) (not_from_false (is_in x.var (variables (take k xs))) (is_in-take k x.var xs (not-true (is_in x.var (variables xs)) parts.0))) rest.distinct;
    }

-- a literal that stands there has its variable there
at-in : (k : ℕ) (xs : List Lit) (d : Lit) → slice_get xs k ≡ Some d → is_in d.var (variables xs) ≡ true
at-in zero [] d e = absurd (cc)
at-in (suc k) [] d e = absurd (cc)
at-in zero (x ∷ xs) d e = let same : x ≡ d = cc in or_left (x.var == d.var) (is_in d.var (variables xs)) (eq-eqb x.var d.var (ap (λ (l : Lit). l.var) same))
at-in (suc k) (x ∷ xs) d e = or_right (x.var == d.var) (is_in d.var (variables xs)) (at-in k xs d e)

absent-before : (k : ℕ) (xs : List Lit) (d : Lit) → is_distinct (variables xs) ≡ true → slice_get xs k ≡ Some d → is_in d.var (variables (take k xs)) ≡ false
absent-before zero xs d h e = refl
absent-before (suc k) [] d h e = refl
absent-before (suc k) (x ∷ xs) d h e = or_from (x.var == d.var) (is_in d.var (variables (take k xs))) (false_from_ne_true (x.var == d.var) other) (absent-before k xs d parts.1 e)
  where
    parts : (not (is_in x.var (variables xs)) ≡ true) × (is_distinct (variables xs) ≡ true)
    parts = and_parts (not (is_in x.var (variables xs))) (is_distinct (variables xs)) h

    other : (x.var == d.var) ≡ true → ⊥
    other s = true≢false (sym (at-in k xs d e) ∙ subst (λ (v : ℕ). is_in v (variables xs) ≡ false) (eqb-true x.var d.var s) (not-true (is_in x.var (variables xs)) parts.0))

-- a literal of the trail isn't among those before it
pub open-before : (vars k : ℕ) (trail : List Lit) (d : Lit) → IsAssigned vars trail → slice_get trail k ≡ Some d → IsOpen (among (take k trail)) d
open-before vars k trail d a e = open-elsewhere (take k trail) d (absent-before k trail d a.distinct e)

pub length-part : (k : ℕ) (trail : List Lit) (d : Lit) → slice_get trail k ≡ Some d → length (take k trail) ≡ k
length-part zero trail d e = refl
length-part (suc k) [] d e = absurd (cc)
length-part (suc k) (x ∷ xs) d e = ap suc (length-part k xs d e)

pub size-front : (vars k : ℕ) (trail : List Lit) → IsAssigned vars trail → length (take k trail) ≡ k → set_size vars (among (take k trail)) ≡ k
size-front vars k trail a h = let front = front-assigned vars k trail a in size-list vars (take k trail) front.known front.distinct ∙ h

-- with an open literal it has one more
size-with : (vars k : ℕ) (trail : List Lit) (l : Lit) → IsAssigned vars trail → length (take k trail) ≡ k → IsKnown vars l → IsOpen (among (take k trail)) l → set_size vars (with_lit l (among (take k trail))) ≡ k + 1
size-with vars k trail l a h known o =
    omega (arith, size-front vars k trail a h, size-one vars l (among (take k trail)), size-fewer vars (among (take k trail)) (with_lit l (among (take k trail))) (with_lit-more l (among (take k trail))) l known o.not_true (with_lit-has l (among (take k trail))))

-- ---- levels

pub levels-decided : (vars : ℕ) (rows : List PlainRow) (trail earlier later : List Lit) (ends : List ℕ) (last : ℕ) → IsAssigned vars trail → AreLevels rows trail earlier later ends last → AreDecisions rows earlier later
levels-decided vars rows trail earlier [] [] last a ls = tt
levels-decided vars rows trail earlier [] (e ∷ ends) last a ls = absurd ls
levels-decided vars rows trail earlier (d ∷ later) [] last a ls = absurd ls
levels-decided vars rows trail earlier (d ∷ later) (e ∷ ends) last a ls =
    ((among (take e trail), ls.0, open-before vars e trail d a ls.1), levels-decided vars rows trail (earlier ++ d ∷ []) later ends last a ls.2)

pub levels-closed : (rows : List PlainRow) (trail earlier later : List Lit) (ends : List ℕ) (last : ℕ) → AreLevels rows trail earlier later ends last → IsClosure rows (among (earlier ++ later)) (among (take last trail))
levels-closed rows trail earlier [] [] last ls = subst (λ (decisions : List Lit). IsClosure rows (among decisions) (among (take last trail))) (sym (append-nil earlier)) ls
levels-closed rows trail earlier [] (e ∷ ends) last ls = absurd ls
levels-closed rows trail earlier (d ∷ later) [] last ls = absurd ls
levels-closed rows trail earlier (d ∷ later) (e ∷ ends) last ls =
    subst (λ (decisions : List Lit). IsClosure rows (among decisions) (among (take last trail))) (append_assoc earlier (d ∷ []) later) (levels-closed rows trail (earlier ++ d ∷ []) later ends last ls.2)

pub levels-sizes : (vars : ℕ) (rows : List PlainRow) (trail earlier later : List Lit) (ends : List ℕ) (last : ℕ) (l : Lit) → IsAssigned vars trail → last ≤ length trail → IsKnown vars l → IsOpen (among (take last trail)) l →
    AreLevels rows trail earlier later ends last → HaveSizes vars rows earlier later l (ends ++ (last + 1) ∷ [])
levels-sizes vars rows trail earlier [] [] last l a h k o ls = (among (take last trail), ls, ap (λ (n : ℕ). n ∷ []) (sym (size-with vars last trail l a (length-take-le last trail h) k o)))
levels-sizes vars rows trail earlier [] (e ∷ ends) last l a h k o ls = absurd ls
levels-sizes vars rows trail earlier (d ∷ later) [] last l a h k o ls = absurd ls
levels-sizes vars rows trail earlier (d ∷ later) (e ∷ ends) last l a h k o ls =
    (among (take e trail), ends ++ (last + 1) ∷ [], ls.0, ap (λ (n : ℕ). n ∷ (ends ++ (last + 1) ∷ [])) (sym (size-front vars e trail a (length-part e trail d ls.1))), levels-sizes vars rows trail (earlier ++ d ∷ []) later ends last l a h k o ls.2)

-- ---- a row that is learned

-- it is fresh
pub levels-fresh : (vars : ℕ) (rows : List PlainRow) (trail decisions : List Lit) (ends : List ℕ) (last : ℕ) (row : PlainRow) (l : Lit) → IsAssigned vars trail → AllByRecursion (IsKnown vars) decisions → IsKnown vars l →
    AreLevels rows trail [] decisions ends last → IsOpen (among (take last trail)) l → Asserts (among (take last trail)) row l → Fresh vars rows row decisions l
levels-fresh vars rows trail decisions ends last row l a ks k ls o asserts = record {
  decisions_known = All-from_recursion (λ (d : Lit). IsCovered vars d.var) decisions ks;
  known = k;
  decided = levels-decided vars rows trail [] decisions ends last a ls;
  set = among (take last trail);
  closure = levels-closed rows trail [] decisions ends last ls;
  leaves_open = o;
  asserts = asserts;
}
