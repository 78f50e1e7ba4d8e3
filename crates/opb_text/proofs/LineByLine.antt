-- The refusal of a text, line by line.
use Rattle.std.proofs.Common.{◌≡◌, ◌∙◌, ℕ, ◌+◌, ◌<◌, ◌≤◌, List, [], ◌∷◌, ◌++◌, length, get_or, take, drop, Option, Some, None, refl, sym, ap, subst, arith}
use Rattle.std.specs.Prelude.{count_by, ◌==◌}
use Rattle.std.specs.Option.{option_or}
use Rattle.std.proofs.lemmas.List.{drop_more, length-drop, length-map, length-take, take_all, take_more}
use Rattle.hrt_text.specs.Text.{lines, tokens as other_tokens}
use Rattle.hrt_text.proofs.Feeds.{rows_few}
use Rattle.row_text.specs.Tokens.{tokens}
use Rattle.opb_text.specs.declared.refusal.OpbRefusal.{OpbRefusal}
use Rattle.opb_text.specs.declared.refusal.OpbRefusal.TheVariants.{Syntax, TooBig, TooManyVariables, TooManyRows, NoMemory}
use Rattle.opb_text.specs.Drafts.{Drafted, drafted, refusal_behind, with_statement}
use Rattle.opb_text.specs.Refusal.{IsRefusedBy, first_refusal, line_refusal, lines_of}
use Rattle.opb_text.specs.Statements.{Line, read_statement, statements}
use Rattle.opb_text.proofs.Drafting.{drafted_more, refusal_there, said_more}

-- ---- lines by their places

record IsNext {A : Type 0} (xs : List A) (i : ℕ) (x : A) (rest : List A) : Type 0 where
  within : i < length xs
  taken : take (i + 1) xs ≡ take i xs ++ x ∷ []
  left : drop (i + 1) xs ≡ rest
  count : length (take i xs) ≡ i

next_of : {A : Type 0} (xs : List A) (i : ℕ) (x : A) (rest : List A) → drop i xs ≡ x ∷ rest → IsNext xs i x rest
next_of {A} xs i x rest e =
    let few : i < length xs = omega (arith, ap length e, length-drop i xs) in
    let both : get_or xs i x ∷ drop (i + 1) xs ≡ x ∷ rest = sym (drop_more xs i x few) ∙ e in
    record {
      within = few;
      taken = take_more xs i x few ∙ ap (λ (y : A). take i xs ++ y ∷ []) cc;
      left = cc;
      count = omega (arith, length-take i xs);
    }

pub lines_few : (bytes : List ℕ) → length (lines_of bytes) ≤ count_by (λ b. b == 10) bytes + 1
lines_few bytes = omega (arith, length-map (lines bytes) tokens, length-map (lines bytes) other_tokens, rows_few bytes)

-- ---- the refusal of the text is that of the first line with one

passes_line : (before : List Line) (line : Line) (rest : List Line) → line_refusal before line ≡ None → first_refusal before (line ∷ rest) ≡ first_refusal (before ++ line ∷ []) rest
passes_line before line rest fine = ap (λ (o : Option OpbRefusal). option_or o (first_refusal (before ++ line ∷ []) rest)) fine

stands : (o later : Option OpbRefusal) (e : OpbRefusal) → o ≡ Some e → option_or o later ≡ Some e
stands o later e h = rw h refl

first_stands : (o later : Option OpbRefusal) (e : OpbRefusal) → IsRefusedBy o e → IsRefusedBy (option_or o later) e
first_stands o later (Syntax k) h = stands o later (Syntax k) h
first_stands o later (TooBig k) h = stands o later (TooBig k) h
first_stands o later (TooManyVariables k) h = stands o later (TooManyVariables k) h
first_stands o later (TooManyRows k) h = stands o later (TooManyRows k) h
first_stands o later NoMemory h = tt

-- a text without a refusal is read, but for want of memory
pub only_memory : (o : Option OpbRefusal) (e : OpbRefusal) → IsRefusedBy o e → o ≡ None → e ≡ NoMemory
only_memory o (Syntax k) h none = absurd cc
only_memory o (TooBig k) h none = absurd cc
only_memory o (TooManyVariables k) h none = absurd cc
only_memory o (TooManyRows k) h none = absurd cc
only_memory o NoMemory h none = refl

-- ---- the first lines of a text are read

-- The draft says what the first i lines say, and these have no refusal. The other lines are left.
pub record HasRead (all : List Line) (i : ℕ) (left : List Line) (draft : Drafted) : Type 0 where
  pub draft_is : draft ≡ drafted (statements (take i all))
  pub rest : drop i all ≡ left
  pub within : i ≤ length all
  pub refusal : first_refusal [] all ≡ first_refusal (take i all) left

pub is_due : (all : List Line) (i : ℕ) (line : Line) (after left : List Line) (d : Drafted) → HasRead all i left d → left ≡ line ∷ after → i < length all
is_due all i line after left d read e = (next_of all i line after (read.rest ∙ e)).within

-- the refusal of the next line behind the draft is that of the line in the text
behind_is : (all : List Line) (i : ℕ) (line : Line) (d : Drafted) → d ≡ drafted (statements (take i all)) → length (take i all) ≡ i
    → refusal_behind (i + 1) d (read_statement line) ≡ line_refusal (take i all) line
behind_is all i line d is count =
    ap (λ (e : Drafted). refusal_behind (i + 1) e (read_statement line)) is ∙ refusal_there (i + 1) (take i all) line (ap (λ (n : ℕ). n + 1) (sym count))

pub one_read : (all : List Line) (i : ℕ) (line : Line) (after left : List Line) (d : Drafted) → HasRead all i left d → left ≡ line ∷ after
    → refusal_behind (i + 1) d (read_statement line) ≡ None → HasRead all (i + 1) after (with_statement d (read_statement line))
one_read all i line after left d read e fine =
    let before : List Line = take i all in
    let n = next_of all i line after (read.rest ∙ e) in
    let behind : refusal_behind (i + 1) (drafted (statements before)) (read_statement line) ≡ None =
    ap (λ (f : Drafted). refusal_behind (i + 1) f (read_statement line)) (sym read.draft_is) ∙ fine in
    record {
      draft_is = ap (λ (f : Drafted). with_statement f (read_statement line)) read.draft_is ∙ sym (drafted_more (i + 1) _ (statements before) (read_statement line) behind)
          ∙ ap drafted (sym (said_more before line)) ∙ ap (λ (ls : List Line). drafted (statements ls)) (sym n.taken);
      rest = n.left;
      within = omega (arith, n.within);
      refusal = read.refusal ∙ ap (first_refusal before) e
          ∙ passes_line before line after (sym (behind_is all i line d read.draft_is n.count) ∙ fine)
          ∙ ap (λ (ls : List Line). first_refusal ls after) (sym n.taken);
    }

pub is_refused : (all : List Line) (i : ℕ) (line : Line) (after left : List Line) (d : Drafted) (e : OpbRefusal) → HasRead all i left d → left ≡ line ∷ after
    → IsRefusedBy (refusal_behind (i + 1) d (read_statement line)) e → IsRefusedBy (first_refusal [] all) e
is_refused all i line after left d e read is h =
    let before : List Line = take i all in
    let n = next_of all i line after (read.rest ∙ is) in
    let there : IsRefusedBy (line_refusal before line) e = subst (λ (o : Option OpbRefusal). IsRefusedBy o e) (behind_is all i line d read.draft_is n.count) h in
    subst (λ (o : Option OpbRefusal). IsRefusedBy o e) (sym (read.refusal ∙ ap (first_refusal before) is))
    (first_stands (line_refusal before line) (first_refusal (before ++ line ∷ []) after) e there)

-- all lines are read
pub record AllRead (all : List Line) (d : Drafted) : Type 0 where
  pub accepted : first_refusal [] all ≡ None
  pub draft_is : d ≡ drafted (statements all)

pub all_read : (all : List Line) (i : ℕ) (left : List Line) (d : Drafted) → HasRead all i left d → left ≡ [] → AllRead all d
all_read all i left d read e =
    let end : length all ≤ i = omega (arith, ap length (read.rest ∙ e), length-drop i all) in
    record {
      accepted = read.refusal ∙ ap (first_refusal (take i all)) e;
      draft_is = read.draft_is ∙ ap (λ (ls : List Line). drafted (statements ls)) (take_all i all end);
    }
