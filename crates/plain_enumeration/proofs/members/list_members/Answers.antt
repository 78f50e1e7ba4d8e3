use Rattle.std.proofs.Common.{◌+◌, [], ◌∷◌, ◌++◌, sym, ap, ◌∙◌}
use Rattle.std.proofs.lemmas.List.{map-append}
use Rattle.hrt_base.specs.declared.numbered.PairNo.{PairNo}
use Rattle.rank_tables.specs.Tables.{numbers_of}
use Rattle.plain_enumeration.proofs.Sets.{members-with, members-without}
use Rattle.plain_enumeration.proofs.members.list_members.Goals as goal
use Rattle.plain_enumeration.proofs.members.list_members.Goals.{then-set-bit-eq1+in_ok-push, else-set-bit-eq1}

pub loop-bit-preserved : goal.loop-bit-preserved
loop-bit-preserved c =
    elim c.if-set-bit-eq1.branch [
      | then-set-bit-eq1+in_ok-push w ↦
          ap (λ list. numbers_of list.items) w.list-is
          ∙ ap numbers_of w.in_ok-push.ensures.items
          ∙ map-append (λ (p : PairNo). p.0) c.loop-bit.list.items _
          ∙ ap (λ front. front ++ ((c.loop-bit.bit + 1) ∷ [])) c.loop-bit.invariant
          ∙ sym (members-with c.args.set c.loop-bit.bit w.if-set-bit-eq1.true)
      | else-set-bit-eq1 w ↦
          ap (λ list. numbers_of list.items) w.list-is
          ∙ c.loop-bit.invariant
          ∙ sym (members-without c.args.set c.loop-bit.bit w.if-set-bit-eq1.false)
    ]
