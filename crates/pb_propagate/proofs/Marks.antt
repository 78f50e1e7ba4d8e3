-- The tables of a trail: what they say, and how they change where a literal comes onto it.
use Rattle.std.proofs.Common.{◌≡◌, ◌==◌, ◌||◌, ◌<◌, ◌+◌, ◌-◌, ℕ, zero, suc, Bool, true, false, not, if◌then◌else◌, List, [], ◌∷◌, ◌++◌, length, take, get_or, refl, sym, ◌∙◌, ap, subst, arith}
use Rattle.std.specs.List.{All, list_any}
use Rattle.std.proofs.Math.ListN.{set}
use Rattle.std.proofs.lemmas.Bool.{eq-eqb, false_from_ne_true, or_parts}
use Rattle.std.proofs.lemmas.List.{get_or-set_other, get_or-set_same, take-map}
use Rattle.std.proofs.lemmas.List.Elements.{All-head, All-tail, All-map, All-weaker}
use Rattle.hrt_base.specs.declared.literal.Lit.{Lit}
use Rattle.pb_rows.specs.Terms.{opposite_lit}
use Rattle.pb_rows.specs.Points.{IsCovered}
use Rattle.pb_rows.specs.Closure.{among, is_same_lit}
use Rattle.pb_propagate.specs.declared.trail.Mark.{Mark}
use Rattle.pb_propagate.specs.Entries.{Entry, is_decision, is_reason_in, is_row, level_of, lits_of}
use Rattle.pb_propagate.specs.Tables.{AreLevels, entries_of, mark_of, no_mark, number_of}

abbrev entry_as : Lit → Mark → Entry
entry_as l m = record { lit = l; reason = number_of m.reason }

abbrev behind : Entry → List Entry → List Entry
behind e es = e ∷ es

pub lits-entries : (marks : List Mark) (ls : List Lit) → lits_of (entries_of marks ls) ≡ ls
lits-entries marks [] = refl
lits-entries marks (l ∷ ls) = ap (λ (t : List Lit). l ∷ t) (lits-entries marks ls)

pub entries-take : (marks : List Mark) (n : ℕ) (ls : List Lit) → entries_of marks (take n ls) ≡ take n (entries_of marks ls)
entries-take marks n ls = sym (take-map (λ (l : Lit). entry_as l (mark_of marks l)) n ls)

-- ---- tables that agree

abbrev pub AgreeOn : List Mark → List Mark → List Lit → Type 0
AgreeOn m n ls = All (λ (l : Lit). mark_of n l ≡ mark_of m l) ls

pub entries-agree : (m n : List Mark) (ls : List Lit) → AgreeOn m n ls → entries_of n ls ≡ entries_of m ls
entries-agree m n [] a = refl
entries-agree m n (l ∷ ls) a =
    let P = λ (x : Lit). mark_of n x ≡ mark_of m x in
    ap (λ (k : Mark). behind (entry_as l k) (entries_of n ls)) (All-head P l ls a) ∙ ap (behind (entry_as l (mark_of m l))) (entries-agree m n ls (All-tail P l ls a))

levels-agree : (m n : List Mark) (below : ℕ) (es : List Entry) → All (λ (e : Entry). mark_of n e.lit ≡ mark_of m e.lit) es → AreLevels m below es → AreLevels n below es
levels-agree m n below [] a h = tt
levels-agree m n below (e ∷ es) a h =
    let P = λ (x : Entry). mark_of n x.lit ≡ mark_of m x.lit in
    (ap (λ (k : Mark). k.level) (All-head P e es a) ∙ h.0, levels-agree m n ((if is_decision e then 1 else 0) + below) es (All-tail P e es a) h.1)

pub levels-kept : (m n : List Mark) (ls : List Lit) → AgreeOn m n ls → AreLevels m 0 (entries_of m ls) → AreLevels n 0 (entries_of n ls)
levels-kept m n ls a h =
    let all = All-map (λ (e : Entry). mark_of n e.lit ≡ mark_of m e.lit) (λ (l : Lit). entry_as l (mark_of m l)) ls a in
    subst (AreLevels n 0) (sym (entries-agree m n ls a)) (levels-agree m n 0 (entries_of m ls) all h)

pub levels-append : (m : List Mark) (below : ℕ) (es fs : List Entry) → AreLevels m below es → AreLevels m (level_of es + below) fs → AreLevels m below (es ++ fs)
levels-append m below [] fs a b = let e : 0 + below ≡ below = omega arith in subst (λ (k : ℕ). AreLevels m k fs) e b
levels-append m below (e ∷ es) fs a b =
    let x = if is_decision e then 1 else 0 in
    let same : (x + level_of es) + below ≡ level_of es + (x + below) = omega arith in
    (a.0, levels-append m (x + below) es fs a.1 (subst (λ (k : ℕ). AreLevels m k fs) same b))

pub levels-front : (m : List Mark) (below : ℕ) (es fs : List Entry) → AreLevels m below (es ++ fs) → AreLevels m below es
levels-front m below [] fs a = tt
levels-front m below (e ∷ es) fs a = (a.0, levels-front m ((if is_decision e then 1 else 0) + below) es fs a.1)

-- ---- one more literal

apart : (a b : Lit) → is_same_lit a b ≡ false → is_same_lit (opposite_lit a) b ≡ false → (a.var == b.var) ≡ false
apart a b p q = false_from_ne_true _ (λ e. signs a.neg b.neg (rw e at p) (rw e at q))
  where
    signs : (m n : Bool) → (if m then n else not n) ≡ false → (if not m then n else not n) ≡ false → ⊥
    signs true true p q = cc
    signs true false p q = cc
    signs false true p q = cc
    signs false false p q = cc

-- the variables of other literals stand elsewhere in the tables
pub elsewhere : (n : ℕ) (l : Lit) → 0 < l.var → (ls : List Lit) → All (λ (a : Lit). IsCovered n a.var) ls → among ls l ≡ false → among ls (opposite_lit l) ≡ false → All (λ (a : Lit). a.var - 1 ≡ l.var - 1 → ⊥) ls
elsewhere n l pos [] c u v k d h e = absurd (omega (arith, h))
elsewhere n l pos (a ∷ ls) c u v k d h e =
    let C = λ (x : Lit). IsCovered n x.var in
    let u2 = or_parts (is_same_lit l a) (among ls l) u in
    let v2 = or_parts (is_same_lit (opposite_lit l) a) (among ls (opposite_lit l)) v in
    let differ = apart l a u2.0 v2.0 in
    let here = All-head C a ls c in
    first-or-rest k d h (λ f. let same : l.var ≡ a.var = omega (arith, f, pos, here.first) in let t = eq-eqb l.var a.var same in absurd (let bad : false ≡ true = sym differ ∙ t in cc))
    (elsewhere n l pos ls (All-tail C a ls c) u2.1 v2.1) e
  where
    first-or-rest : (k : ℕ) (d : Lit) → k < length (a ∷ ls) → (a.var - 1 ≡ l.var - 1 → ⊥) → All (λ (x : Lit). x.var - 1 ≡ l.var - 1 → ⊥) ls → (get_or (a ∷ ls) k d).var - 1 ≡ l.var - 1 → ⊥
    first-or-rest zero d h first rest f = first f
    first-or-rest (suc k) d h first rest f = rest k d (omega (arith, h)) f

pub agree-set : (n : ℕ) (marks : List Mark) (l : Lit) (m : Mark) → 0 < l.var → (ls : List Lit) → All (λ (a : Lit). IsCovered n a.var) ls → among ls l ≡ false → among ls (opposite_lit l) ≡ false → AgreeOn marks (set marks (l.var - 1) m) ls
agree-set n marks l m pos ls c u v =
    All-weaker (λ (a : Lit). a.var - 1 ≡ l.var - 1 → ⊥) (λ (a : Lit). mark_of (set marks (l.var - 1) m) a ≡ mark_of marks a)
    (λ a ne. get_or-set_other marks (l.var - 1) (a.var - 1) m no_mark ne) ls (elsewhere n l pos ls c u v)

pub mark-new : (marks : List Mark) (l : Lit) (m : Mark) → l.var - 1 < length marks → mark_of (set marks (l.var - 1) m) l ≡ m
mark-new marks l m h = get_or-set_same marks (l.var - 1) m no_mark h

-- a reason among the entries is one among the marks
pub any-entry : (marks : List Mark) (ls : List Lit) (p : ℕ) → list_any (λ (l : Lit). is_row p (number_of (mark_of marks l).reason)) ls ≡ is_reason_in (entries_of marks ls) p
any-entry marks [] p = refl
any-entry marks (l ∷ ls) p = ap (λ (b : Bool). is_row p (number_of (mark_of marks l).reason) || b) (any-entry marks ls p)
