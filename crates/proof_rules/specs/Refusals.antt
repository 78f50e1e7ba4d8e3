-- The reasons to refuse a line.
use Rattle.std.specs.Prelude.{ℕ, Result, Ok, Err}

-- why a line is refused
pub data Refusal : Type 0 where
  Syntax : Refusal  -- it has no spelling, or stands out of order
  TooBig : Refusal  -- a number or a row passes 2^120
  BadId : ℕ → Refusal  -- no live row has the number
  BadVariable : ℕ → Refusal  -- the formula has fewer variables
  StackShape : Refusal  -- operands are wanting, or not one row is left
  NotFull : Refusal  -- a point that names a variable twice or not at all
  NotASolution : ℕ → Refusal  -- the least row of the formula that doesn't hold at the point
  NotImplied : Refusal  -- the row doesn't follow by propagation
  BoundNotShown : Refusal  -- the claim isn't shown
  WrongCount : Refusal  -- the formula has another number of rows

-- why a line is refused, with the line's number, counted from 1
pub record RefusalAt : Type 0 where
  pub line : ℕ
  pub why : Refusal

-- what is next made of a result, unless that was a refusal, which stays
abbrev pub and_then : {A B : Type 0} → Result A Refusal → (A → Result B Refusal) → Result B Refusal
and_then (Ok x) next = next x
and_then (Err e) next = Err e
