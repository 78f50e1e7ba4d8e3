-- The terms of a row, taken one after another.
use Rattle.std.proofs.Common.{◌∙◌, ◌<◌, ◌+◌, ℕ, false, List, [], ◌∷◌, length, take, get_or, sym, ap, subst, arith, inl, inr}
use Rattle.std.specs.List.{All, Contains}
use Rattle.std.proofs.lemmas.List.{get_or_default}
use Rattle.std.proofs.lemmas.List.Elements.{All-contains, All-more, All-weaker}
use Rattle.hrt_base.specs.declared.literal.Lit.{Lit}
use Rattle.hrt_base.specs.declared.literal.Term.{Term}
use Rattle.pb_rows.specs.Closure.{among}
use Rattle.propagation.specs.Following.{Follows, Grows, IsSettledAt}
use Rattle.propagation.proofs.Sets.{among-new}
use Rattle.propagation.proofs.Following.{follows-open, grows-more, grows-within, nonfalse_sum-anti, settled-more}
use Rattle.rup_engine.specs.Propagation.{AddsFollowing, TakesTerm}

-- ---- some of the terms of a row

-- each item is one of the list
pub own : (ts : List Term) → All (Contains ts) ts
own ts i d h = let x : Term = get_or ts i d in (i, h, get_or_default ts i x d h)

-- what holds of all terms holds of some
pub all-within : (P : Term → Type 0) (part terms : List Term) → All (Contains terms) part → All P terms → All P part
all-within P part terms w a i d h = All-contains P terms (get_or part i d) a (w i d h)

-- ---- the terms of a row, one after another

-- what the first i of some of a row's terms have made of a trail
pub record AreTaken (part terms : List Term) (sum degree i : ℕ) (old new : List Lit) : Type 0 where
  pub grows : Grows old new
  pub settled : All (IsSettledAt (among new) sum degree) (take i part)
  pub sound : AddsFollowing (record { terms = terms; degree = degree }) sum old new false

pub one-taken : (part terms : List Term) (sum degree i : ℕ) (d : Term) (old mid new : List Lit) → All (Contains terms) part → i < length part → AreTaken part terms sum degree i old mid
    → TakesTerm sum degree (get_or part i d) mid new → AreTaken part terms sum degree (i + 1) old new
one-taken part terms sum degree i d old mid new w h a s =
    let x : Term = get_or part i d in
    elim s [
      | inl opened ↦
          let grows : Grows mid new = record { more = x.lit ∷ []; is = opened.1 } in
          let within = grows-within mid new grows in
          record {
            grows = grows-more old mid new a.grows grows;
            settled = All-more (IsSettledAt (among new) sum degree) part i d h
                (All-weaker (IsSettledAt (among mid) sum degree) (IsSettledAt (among new) sum degree) (settled-more (among mid) (among new) within sum degree) (take i part) a.settled)
                (λ unfalse exceeds. ap (λ ls. among ls x.lit) opened.1 ∙ among-new mid x.lit);
            sound = record {
              follows = λ rows given c below f.
                  subst (λ (ls : List Lit). Follows rows given (among ls)) (sym opened.1)
                  (follows-open rows given mid (record { terms = terms; degree = degree }) sum x c (w i d h)
                  (omega (arith, below, nonfalse_sum-anti (among old) (among mid) (grows-within old mid a.grows) terms)) opened.0 (a.sound.follows rows given c below f));
            };
          }
      | inr settled ↦
          subst (λ (ls : List Lit). AreTaken part terms sum degree (i + 1) old ls) (sym settled.0)
          (record { grows = a.grows; settled = All-more (IsSettledAt (among mid) sum degree) part i d h a.settled settled.1; sound = a.sound })
    ]
