use Rattle.std.proofs.Common.{◌≡◌, ◌∙◌, ◌++◌, ◌∷◌, [], ℕ, suc, List, None, sym, ap, subst, map, length, take, drop, arith, below_more}
use Rattle.std.specs.Prelude.{option_map}
use Rattle.hrt_text.specs.Text.{Row, rows, tokens}
use Rattle.rank_tables.specs.Instance.{Lists}
use Rattle.hrt_reader.specs.PairsText.{pairs_of_rows, pair_kind_in}
use Rattle.hrt_reader.specs.PairsAnswer.{pairs_number}
use Rattle.hrt_reader.proofs.Places.{drop_next, all_read, all_taken, within_at}
use Rattle.hrt_reader.proofs.PairKinds.{AreFine, pairs_refused, pairs_accepted, pairs_more, pair_in_place, for_none}
use Rattle.hrt_reader.proofs.pair_reading.pairs_of_lines.Goals as goal

pub returns-in-Some-kind-clause-refused : goal.returns-in-Some-kind-clause-refused
returns-in-Some-kind-clause-refused c =
    let lists : Lists = c.args.instance.now in
    let all : List Row = rows c.args.text.now in
    let i : ℕ = c.loop-line.number in
    let row : Row = tokens c.in-Some.line.now in
    let after : List Row = rows c.in-Some.after.now in
    let v = c.loop-line.invariant in
    let e : drop i all ≡ row ∷ after = v.rest ∙ ap (map tokens) c.in-Some.ensures.some in
    pairs_refused lists all i (pairs_number c.in-Some-kind.kind) row after e v.fine (c.in_ok-kind.ensures.least (take i all) v.pairs ∙ ap (option_map pairs_number) c.in-Some-kind.is)

pub loop-line-preserved : goal.loop-line-preserved
loop-line-preserved c =
    let lists : Lists = c.args.instance.now in
    let all : List Row = rows c.args.text.now in
    let i : ℕ = c.loop-line.number in
    let row : Row = tokens c.in-Some.line.now in
    let after : List Row = rows c.in-Some.after.now in
    let v = c.loop-line.invariant in
    let e : drop i all ≡ row ∷ after = v.rest ∙ ap (map tokens) c.in-Some.ensures.some in
    let done = c.in_ok-kind.ensures in
    let none : c.in_ok-kind.kind ≡ None = c.in_default-kind.is in
    record {
      rest = drop_next all i row after e;
      within = omega (arith, within_at all i row after e);
      same = for_none c.in_ok-kind.kind done.same none;
      pairs = pairs_more lists all i row after e ∙ ap (λ (l : List ℕ). l ++ pairs_of_rows lists (row ∷ [])) v.pairs ∙ sym (for_none c.in_ok-kind.kind done.added none);
      fine = below_more (λ (k : ℕ). pair_kind_in lists all (suc k) ≡ None) i v.fine (pair_in_place lists all i row after e ∙ done.least (take i all) v.pairs ∙ ap (option_map pairs_number) none);
      in_range = for_none c.in_ok-kind.kind done.in_range none v.in_range;
      distinct = for_none c.in_ok-kind.kind done.distinct none v.distinct;
    }

pub returns-clause-spells : goal.returns-clause-spells
returns-clause-spells c =
    let lists : Lists = c.args.instance.now in
    let all : List Row = rows c.args.text.now in
    let v = c.loop-line.invariant in
    let end : c.loop-line.number ≡ length all = all_read all c.loop-line.number (v.rest ∙ ap (map tokens) c.in_default.ensures.none) v.within in
    let whole : take c.loop-line.number all ≡ all = ap (λ (k : ℕ). take k all) end ∙ all_taken all in
    record {
      accepted = pairs_accepted lists all (subst (λ (k : ℕ). AreFine lists all k) end v.fine);
      says = ap (λ (l : List Row). pairs_of_rows lists l) (sym whole) ∙ v.pairs;
    }
