-- The lists that are taken are those that are spelled, within the limits.
use Rattle.std.proofs.Common.{◌≡◌, ℕ, ◌<◌, ◌≤◌, Bool, true, false, cond, List, length, None, Result, Ok, Err, refl, sym, ap, ◌∙◌}
use Rattle.std.proofs.lemmas.Bool.{le-ltb, lt-ltb, ltb-false}
use Rattle.rank_tables.specs.Instance.{Lists, pair_count}
use Rattle.rank_tables.specs.Terms.{model_terms}
use Rattle.hrt_text.specs.Text.{rows}
use Rattle.hrt_reader.specs.Accepted.{Spells}
use Rattle.hrt_reader.specs.Refusal.{lists_of_rows, refusal}
use Rattle.hrt_reader.proofs.Unrefused.{reads_as}
use Rattle.hrt_inputs.specs.declared.limit.Limit.TheVariants.{Pairs, Terms, InstanceBytes}
use Rattle.hrt_inputs.specs.Limits.{most}
use Rattle.hrt_inputs.specs.Rejections.{Rejection, exceeded}
use Rattle.hrt_inputs.specs.Taken.{IsInstance, lists_in, of_few_pairs, of_few_terms, taken_lists, unless_refused}
use Rattle.hrt_inputs.proofs.ReadInstances.{of_pairs, of_terms, spelled}

abbrev taken_as : Lists → Result Lists Rejection
taken_as lists = Ok lists

-- what is not passed by a test that it is above
test_false : (b : Bool) (rejection : Rejection) (later : Result Lists Rejection) (lists : Lists) → cond {A = Result Lists Rejection} b (Err rejection) later ≡ taken_as lists → b ≡ false
test_false true rejection later lists e = absurd cc
test_false false rejection later lists e = refl

pub taken_instance : (bytes : List ℕ) (lists : Lists) → taken_lists bytes ≡ Ok lists → IsInstance bytes lists
taken_instance bytes lists e =
    let few : of_few_pairs (lists_in bytes) ≡ taken_as lists = of_terms (of_few_pairs (lists_in bytes)) lists e in
    let read : lists_in bytes ≡ taken_as lists = of_pairs (lists_in bytes) lists few in
    record {
      short = ltb-false (most InstanceBytes) (length bytes) (test_false _ (exceeded InstanceBytes) (unless_refused (refusal (rows bytes)) (lists_of_rows (rows bytes))) lists read);
      spelled = spelled bytes lists read;
      few_pairs = ltb-false (most Pairs) (pair_count lists) (test_false _ (exceeded Pairs) (Ok lists) lists (sym (ap of_few_pairs read) ∙ few));
      few_terms = ltb-false (most Terms) (model_terms lists) (test_false _ (exceeded Terms) (Ok lists) lists (sym (ap of_few_terms few) ∙ e));
    }

pub lists_taken : (bytes : List ℕ) → length bytes ≤ most InstanceBytes → refusal (rows bytes) ≡ None → lists_in bytes ≡ Ok (lists_of_rows (rows bytes))
lists_taken bytes short none =
    ap (λ b. cond b (Err (exceeded InstanceBytes)) (unless_refused (refusal (rows bytes)) (lists_of_rows (rows bytes)))) (le-ltb (most InstanceBytes) (length bytes) short)
    ∙ ap (λ r. unless_refused r (lists_of_rows (rows bytes))) none

pub lists_spelled : (bytes : List ℕ) (lists : Lists) → length bytes ≤ most InstanceBytes → Spells bytes lists → lists_in bytes ≡ Ok lists
lists_spelled bytes lists short spells = let reads = reads_as bytes lists spells in lists_taken bytes short reads.accepted ∙ ap taken_as reads.says

pub lists_few : (bytes : List ℕ) (lists : Lists) → lists_in bytes ≡ Ok lists → pair_count lists ≤ most Pairs → model_terms lists ≤ most Terms → taken_lists bytes ≡ Ok lists
lists_few bytes lists read few few_terms =
    ap (λ (r : Result Lists Rejection). of_few_terms (of_few_pairs r)) read
    ∙ ap (λ (b : Bool). of_few_terms (cond b (Err (exceeded Pairs)) (Ok lists))) (le-ltb (most Pairs) (pair_count lists) few)
    ∙ ap (λ (b : Bool). cond b (Err (exceeded Terms)) (taken_as lists)) (le-ltb (most Terms) (model_terms lists) few_terms)

pub instance_taken : (bytes : List ℕ) (lists : Lists) → IsInstance bytes lists → taken_lists bytes ≡ Ok lists
instance_taken bytes lists is = lists_few bytes lists (lists_spelled bytes lists is.short is.spelled) is.few_pairs is.few_terms

-- ---- what is passed

pub pairs_exceed : (bytes : List ℕ) → length bytes ≤ most InstanceBytes → refusal (rows bytes) ≡ None → most Pairs < pair_count (lists_of_rows (rows bytes)) → taken_lists bytes ≡ Err (exceeded Pairs)
pairs_exceed bytes short none many =
    ap (λ (r : Result Lists Rejection). of_few_terms (of_few_pairs r)) (lists_taken bytes short none)
    ∙ ap (λ (b : Bool). of_few_terms (cond b (Err (exceeded Pairs)) (taken_as (lists_of_rows (rows bytes))))) (lt-ltb (most Pairs) (pair_count (lists_of_rows (rows bytes))) many)

pub terms_exceed : (bytes : List ℕ) → length bytes ≤ most InstanceBytes → refusal (rows bytes) ≡ None → pair_count (lists_of_rows (rows bytes)) ≤ most Pairs
    → most Terms < model_terms (lists_of_rows (rows bytes)) → taken_lists bytes ≡ Err (exceeded Terms)
terms_exceed bytes short none few many =
    ap (λ (r : Result Lists Rejection). of_few_terms (of_few_pairs r)) (lists_taken bytes short none)
    ∙ ap (λ (b : Bool). of_few_terms (cond b (Err (exceeded Pairs)) (taken_as (lists_of_rows (rows bytes))))) (le-ltb (most Pairs) (pair_count (lists_of_rows (rows bytes))) few)
    ∙ ap (λ (b : Bool). cond b (Err (exceeded Terms)) (taken_as (lists_of_rows (rows bytes)))) (lt-ltb (most Terms) (model_terms (lists_of_rows (rows bytes))) many)
