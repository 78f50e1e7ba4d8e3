use Rattle.std.proofs.Common.{◌≡◌, ◌∙◌, ◌<◌, ◌≤◌, [], ℕ, Bool, List, true, false, if◌then◌else◌, nat_lt, ap, arith, get_or, length, sym, take}
use Rattle.std.proofs.lemmas.Bool.{le-ltb, lt-ltb}
use Rattle.std.proofs.lemmas.List.{get_or_read}
use Rattle.hrt_base.specs.declared.literal.Lit.{Lit}
use Rattle.pb_propagate.specs.Entries.{Entry, level_of, up_to}
use Rattle.pb_propagate.specs.Tables.{TrailState, entries_of}
use Rattle.pb_propagate.proofs.Levels.{up_to-all}
use Rattle.pb_propagate.proofs.Backs.{entries-back, front-few, start-is, tables-back}
use Rattle.pb_propagate.proofs.Tabled.{starts-are, trail_of}
use Rattle.pb_propagate.proofs.trail.Trail.back_to.Goals as goal

pub returns-then-level-len : goal.returns-then-level-len
returns-then-level-len c =
    let shown = ap (λ (t : TrailState). level_of t.entries) c.self.view_is in
    let low : level_of c.args.self.now.entries ≤ c.args.level = omega (arith, c.if-level-len.true, c.len.ensures, c.self.inside.starts.ok.0, starts-are _ _ _ _ _ c.self.invariant, shown) in
    let all = up_to-all c.args.level c.args.self.now.entries low in
    let past : nat_lt c.args.level (level_of c.args.self.now.entries) ≡ false = le-ltb _ _ low in
    ap (λ (xs : List Entry). trail_of c.args.self.now.vars xs c.args.self.now.due) (sym all)
    ∙ ap (λ (b : Bool). trail_of c.args.self.now.vars (up_to c.args.level c.args.self.now.entries) (if b then [] else c.args.self.now.due)) (sym past)

pub shorten-requires-clause-within : goal.shorten-requires-clause-within
shorten-requires-clause-within c =
    let low : c.args.level < level_of (entries_of c.self.inside.marks.items c.self.inside.literals.items) = omega (arith, c.if-level-len.false, c.len.ensures, c.self.inside.starts.ok.0, starts-are _ _ _ _ _ c.self.invariant) in
    let here : c.args.level < length c.self.inside.starts.items = omega (arith, c.if-level-len.false, c.len.ensures, c.self.inside.starts.ok.0) in
    let read : c.index-count.result.now ≡ get_or c.self.inside.starts.items c.args.level 0 = get_or_read c.self.inside.starts.items c.args.level c.index-count.result.now here c.index-count.ensures 0 in
    let at = start-is _ _ _ _ _ c.self.invariant c.args.level low in
    omega (arith, read, at, front-few _ _ _ _ _ c.self.invariant c.args.level)

below : (c : goal.After-clear) → c.args.level < level_of (entries_of c.self.inside.marks.items c.self.inside.literals.items)
below c = omega (arith, c.if-level-len.false, c.len.ensures, c.self.inside.starts.ok.0, starts-are _ _ _ _ _ c.self.invariant)

front : (c : goal.After-clear) → c.shorten.new.literals.items ≡ take (get_or c.self.inside.starts.items c.args.level 0) c.self.inside.literals.items
front c =
    let here : c.args.level < length c.self.inside.starts.items = omega (arith, c.if-level-len.false, c.len.ensures, c.self.inside.starts.ok.0) in
    let read : c.index-count.result.now ≡ get_or c.self.inside.starts.items c.args.level 0 = get_or_read c.self.inside.starts.items c.args.level c.index-count.result.now here c.index-count.ensures 0 in
    c.shorten.ensures.front ∙ ap (λ (n : ℕ). take n c.self.inside.literals.items) read

pub invariant_of-self : goal.invariant_of-self
invariant_of-self c =
    tables-back _ _ _ _ _ c.self.invariant c.args.level (below c) _ _ _ _ c.shorten.ensures.table c.shorten.ensures.values (front c) c.truncate.ensures.items c.clear.ensures.items
    (omega (arith, c.shorten.ensures.capacity)) (omega (arith, c.truncate.ensures.capacity)) (omega (arith, c.clear.ensures.capacity))

pub returns : goal.returns
returns c =
    let es = entries_of c.self.inside.marks.items c.self.inside.literals.items in
    let back : entries_of c.self.inside.marks.items c.shorten.new.literals.items ≡ up_to c.args.level es = ap (entries_of c.self.inside.marks.items) (front c) ∙ entries-back _ _ _ _ _ c.self.invariant c.args.level (below c) in
    let shown = ap (λ (t : TrailState). level_of t.entries) c.self.view_is in
    let past : nat_lt c.args.level (level_of c.args.self.now.entries) ≡ true = lt-ltb _ _ (omega (arith, below c, shown)) in
    ap (λ (n : ℕ). trail_of n (entries_of c.self.inside.marks.items c.shorten.new.literals.items) c.clear.new.self.items) c.shorten.ensures.values
    ∙ ap (λ (xs : List Entry). trail_of (length c.self.inside.values.items) xs c.clear.new.self.items) back
    ∙ ap (λ (ds : List Lit). trail_of (length c.self.inside.values.items) (up_to c.args.level es) ds) c.clear.ensures.items
    ∙ ap (λ (t : TrailState). trail_of t.vars (up_to c.args.level t.entries) []) c.self.view_is
    ∙ ap (λ (b : Bool). trail_of c.args.self.now.vars (up_to c.args.level c.args.self.now.entries) (if b then [] else c.args.self.now.due)) (sym past)
