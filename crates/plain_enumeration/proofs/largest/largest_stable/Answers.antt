use Rattle.std.proofs.Common.{◌≡◌, ℕ, ◌+◌, ◌*◌, ◌%◌, ◌^◌, ◌≤◌, true, List, length, ap, ◌∙◌, refl, sym, subst, arith, rules}
use Rattle.std.proofs.lemmas.List.{length-map}
use Rattle.std.proofs.lemmas.Nat.{one_shl}
use Rattle.hrt_base.specs.declared.numbered.PairNo.{PairNo}
use Rattle.rank_tables.specs.Instance.{pair_count}
use Rattle.rank_tables.specs.Stability.{is_weakly_stable}
use Rattle.rank_tables.specs.Tables.{numbers_of}
use Rattle.rank_tables.proofs.Membership.{chosen_distinct}
use Rattle.stability_audit.specs.Verdict.{ArePairs}
use Rattle.stability_audit.specs.declared.verdict.Verdict.TheVariants.{Stable}
use Rattle.plain_enumeration.specs.Sets.{is_member, members}
use Rattle.plain_enumeration.proofs.Existence.{chosen_in_range}
use Rattle.plain_enumeration.proofs.Trials.{IsLongest, longest_still, longest_now, longest_of_all}
use Rattle.plain_enumeration.proofs.largest.largest_stable.Goals as goal
use Rattle.plain_enumeration.proofs.largest.largest_stable.Goals.{then-len+then-eq, else-len, else-len-via-then-len+else-eq, else-len-via-else-len}

pub audit-requires-clause-pairs : goal.audit-requires-clause-pairs
audit-requires-clause-pairs c =
    let listed : numbers_of c.deref.result.now ≡ members c.loop-set.set (pair_count c.args.inst.now) =
    ap numbers_of c.deref.ensures.value ∙ c.in_ok-list_members.ensures ∙ ap (members c.loop-set.set) c.pairs-count.ensures.count in
    subst (λ (m : List ℕ). ArePairs c.args.inst.now m) (sym listed)
    (record { distinct = chosen_distinct c.args.inst.now (is_member c.loop-set.set); in_range = chosen_in_range c.args.inst.now (is_member c.loop-set.set) })

-- a list of pairs is as long as that of their numbers
lengths : (list : List PairNo) (m : List ℕ) → numbers_of list ≡ m → length list ≡ length m
lengths list m e = sym (length-map list (λ (p : PairNo). p.0)) ∙ ap length e

pub loop-set-preserved : goal.loop-set-preserved
loop-set-preserved c =
    let lists = c.args.inst.now in
    let set = c.loop-set.set in
    let best : List ℕ = numbers_of c.loop-set.best.items in
    let so_far : IsLongest lists set best = c.loop-set.invariant.so_far in
    let listed : numbers_of c.list_members.new.list.items ≡ members set (pair_count lists) =
    c.in_ok-list_members.ensures ∙ ap (members set) c.pairs-count.ensures.count in
    let list_length : length c.list_members.new.list.items ≡ length (members set (pair_count lists)) = lengths c.list_members.new.list.items _ listed in
    let best_length : length c.loop-set.best.items ≡ length best = lengths c.loop-set.best.items _ refl in
    elim c.if-len.branch [
      | then-len+then-eq w ↦
          let is_stable : w.audit.result ≡ Stable = search rules in
          let stable : is_weakly_stable lists (members set (pair_count lists)) ≡ true =
          ap (is_weakly_stable lists) (sym (ap numbers_of w.deref.ensures.value ∙ listed)) ∙ w.audit.ensures.stable.0 is_stable in
          record {
            sizes = w.auditor-is ∙ w.audit.ensures.sizes ∙ c.loop-set.invariant.sizes;
            so_far =
                subst (λ (m : List ℕ). IsLongest lists (set + 1) m)
                (sym (ap (λ list. numbers_of list.items) (w.best-is ∙ w.swap.ensures.x_after) ∙ listed))
                (longest_now lists set best so_far stable (omega (arith, w.if-len.true, c.len.ensures, c.len-in-loop-set.ensures)));
          }
      | else-len w ↦
          let still : (is_weakly_stable lists (members set (pair_count lists)) ≡ true → length (members set (pair_count lists)) ≤ length best) → IsLongest lists (set + 1) (numbers_of c.if-len.best.items) =
          λ h. subst (λ (m : List ℕ). IsLongest lists (set + 1) m) (sym (ap (λ list. numbers_of list.items) w.best-is)) (longest_still lists set best so_far h) in
          elim w.else-len.branch [
            | else-len-via-then-len+else-eq v ↦
                let not_stable : v.audit.result ≡ Stable → ⊥ = search rules in
                record {
                  sizes = w.auditor-is ∙ v.auditor-is ∙ v.audit.ensures.sizes ∙ c.loop-set.invariant.sizes;
                  so_far = still (λ s. absurd (not_stable (v.audit.ensures.stable.1 (ap (is_weakly_stable lists) (ap numbers_of v.deref.ensures.value ∙ listed) ∙ s))));
                }
            | else-len-via-else-len v ↦ record {
              sizes = w.auditor-is ∙ v.auditor-is ∙ c.loop-set.invariant.sizes;
              so_far = still (λ s. omega (arith, v.if-len.false, c.len.ensures, c.len-in-loop-set.ensures));
            }
          ]
    ]

-- the last number of the loop, as the shift computes it
shifted : (n pairs set : ℕ) → n ≡ pairs → pairs ≤ 12 → 1 * 2 ^ n % 4294967296 ≤ set → set ≤ 1 * 2 ^ n % 4294967296 → set ≡ 2 ^ pairs
shifted n pairs set e few below above =
    let power : 1 * 2 ^ n % 4294967296 ≡ 2 ^ n = one_shl n 32 (omega arith) in
    let all : set ≡ 2 ^ n = omega arith in
    all ∙ ap (λ k. 2 ^ k) e

pub returns-clause-best : goal.returns-clause-best
returns-clause-best c =
    let all : c.loop-set.set ≡ 2 ^ pair_count c.args.inst.now =
    shifted c.pairs-count.result _ c.loop-set.set c.pairs-count.ensures.count c.requires c.loop-set-test.false c.loop-set.auto.set-end in
    longest_of_all c.args.inst.now _ (subst (λ (n : ℕ). IsLongest c.args.inst.now n (numbers_of c.loop-set.best.items)) all c.loop-set.invariant.so_far)
