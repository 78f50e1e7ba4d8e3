-- What an instance that is taken spells.
use Rattle.std.proofs.Common.{◌≡◌, ℕ, Bool, true, false, ◌==◌, nat_lt, List, Option, Some, None, Result, Ok, Err, length, refl, sym, ◌∙◌, ap, cond}
use Rattle.rank_tables.specs.Instance.{Lists, pair_count}
use Rattle.rank_tables.specs.Terms.{model_terms}
use Rattle.hrt_text.specs.Text.{rows}
use Rattle.hrt_reader.specs.Accepted.{Spells}
use Rattle.hrt_reader.specs.Refusal.{Refusal, refusal, lists_of_rows}
use Rattle.hrt_reader.proofs.Declared.{spells_from}
use Rattle.hrt_inputs.specs.declared.limit.Limit.TheVariants.{Residents, Hospitals, Pairs, Terms, InstanceBytes}
use Rattle.hrt_inputs.specs.Limits.{most}
use Rattle.hrt_inputs.specs.Rejections.{Rejection, refused, exceeded}
use Rattle.hrt_inputs.specs.Taken.{lists_in, of_few_pairs, of_few_terms, taken_lists, unless_refused}

abbrev taken_as : Lists → Result Lists Rejection
taken_as lists = Ok lists

ok_is : (a b : Lists) → taken_as a ≡ taken_as b → a ≡ b
ok_is a b e = cc

none_refused : (r : Option Refusal) (lists found : Lists) → unless_refused r lists ≡ Ok found → r ≡ None
none_refused None lists found e = refl
none_refused (Some r) lists found e = absurd (by (r.kind == 11) (r.kind == 12) e)
  where
    by : (a b : Bool) → cond {A = Result Lists Rejection} a (Err (exceeded Residents)) (cond b (Err (exceeded Hospitals)) (Err (refused r))) ≡ Ok found → ⊥
    by true b h = absurd (cc)
    by false true h = absurd (cc)
    by false false h = absurd (cc)

-- lists that are taken are those that the text spells
pub spelled : (bytes : List ℕ) (found : Lists) → lists_in bytes ≡ Ok found → Spells bytes found
spelled bytes found e = by (nat_lt (most InstanceBytes) (length bytes)) e
  where
    unrefused : unless_refused (refusal (rows bytes)) (lists_of_rows (rows bytes)) ≡ Ok found → Spells bytes found
    unrefused h =
        let none = none_refused (refusal (rows bytes)) (lists_of_rows (rows bytes)) found h in
        spells_from bytes found (record { accepted = none; says = ok_is (lists_of_rows (rows bytes)) found (ap (λ (r : Option Refusal). unless_refused r (lists_of_rows (rows bytes))) (sym none) ∙ h) })

    by : (b : Bool) → cond {A = Result Lists Rejection} b (Err (exceeded InstanceBytes)) (unless_refused (refusal (rows bytes)) (lists_of_rows (rows bytes))) ≡ Ok found → Spells bytes found
    by true h = absurd (cc)
    by false h = unrefused h

pub of_pairs : (r : Result Lists Rejection) (lists : Lists) → of_few_pairs r ≡ Ok lists → r ≡ Ok lists
of_pairs (Err rejection) lists e = absurd (cc)
of_pairs (Ok found) lists e = by (nat_lt (most Pairs) (pair_count found)) e
  where
    by : (b : Bool) → cond {A = Result Lists Rejection} b (Err (exceeded Pairs)) (Ok found) ≡ taken_as lists → taken_as found ≡ taken_as lists
    by true h = absurd (cc)
    by false h = h

pub of_terms : (r : Result Lists Rejection) (lists : Lists) → of_few_terms r ≡ Ok lists → r ≡ Ok lists
of_terms (Err rejection) lists e = absurd (cc)
of_terms (Ok found) lists e = by (nat_lt (most Terms) (model_terms found)) e
  where
    by : (b : Bool) → cond {A = Result Lists Rejection} b (Err (exceeded Terms)) (Ok found) ≡ taken_as lists → taken_as found ≡ taken_as lists
    by true h = absurd (cc)
    by false h = h

-- lists of few pairs and few terms, too
pub taken_spelled : (bytes : List ℕ) (lists : Lists) → taken_lists bytes ≡ Ok lists → Spells bytes lists
taken_spelled bytes lists e = spelled bytes lists (of_pairs (lists_in bytes) lists (of_terms (of_few_pairs (lists_in bytes)) lists e))
