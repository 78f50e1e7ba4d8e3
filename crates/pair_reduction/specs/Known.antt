-- What the reduction knows between two visits, and what a visit does to it.
use Rattle.std.specs.Prelude.{◌≡◌, ℕ, ◌+◌, ◌-◌, ◌≤◌, Bool, true, false, List, length, slice_set}
use Rattle.rank_tables.specs.Instance.{Lists, pair_count}
use Rattle.rank_tables.specs.Tables.{IsPairNo}
use Rattle.derivation.specs.Deletions.{Deletions, deleted_count, is_deleted}
use Rattle.pair_reduction.specs.declared.sides.Side.{Side}
use Rattle.pair_reduction.specs.declared.sides.Side.TheVariants.{Resident, Hospital}
use Rattle.pair_reduction.specs.declared.known.Known.{Known}
use Rattle.pair_reduction.specs.Flags.{flag_count, is_marked, is_waiting}
use Rattle.pair_reduction.specs.Sides.{is_free, is_passed, list_count, list_of, other}

-- the marks of the pairs that are free on a side
abbrev pub marks_on : Side → Known → List Bool
marks_on Resident known = known.only.items
marks_on Hospital known = known.sure.items

-- which lists of a side wait
abbrev pub waiting_on : Side → Known → List Bool
waiting_on Resident known = known.residents
waiting_on Hospital known = known.hospitals

-- the free pairs of a list are marked
abbrev pub AreMarked : Side → Lists → Known → ℕ → Type 0
AreMarked side lists known n = (p : ℕ) → IsPairNo lists p → list_of side lists p ≡ n → is_free side lists (is_deleted known.gone) p ≡ true → is_marked (marks_on side known) p ≡ true

-- the passed pairs of a list are gone
abbrev pub ArePassed : Side → Lists → Known → ℕ → Type 0
ArePassed side lists known n = (w : ℕ) → IsPairNo lists w → list_of side lists w ≡ n → is_passed side lists (is_marked (marks_on (other side) known)) w ≡ true → is_deleted known.gone w ≡ true

-- the tests of a list say nothing new
pub record IsListSettled (side : Side) (lists : Lists) (known : Known) (n : ℕ) : Type 0 where
  pub marked : AreMarked side lists known n
  pub passed : ArePassed side lists known n

-- what holds between two visits: marked pairs are free, and a list that doesn't wait is settled
pub record IsKept (lists : Lists) (known : Known) : Type 0 where
  pub gone : length known.gone ≡ pair_count lists
  pub marks : (side : Side) → length (marks_on side known) ≡ pair_count lists
  pub flags : (side : Side) → length (waiting_on side known) ≡ list_count side lists
  pub sound : (side : Side) (p : ℕ) → IsPairNo lists p → is_marked (marks_on side known) p ≡ true → is_free side lists (is_deleted known.gone) p ≡ true
  pub watched : (side : Side) (n : ℕ) → n + 1 ≤ list_count side lists → is_waiting (waiting_on side known) n ≡ false → IsListSettled side lists known n

-- how many lists wait, on both sides together
abbrev pub waiting_count : Known → ℕ
waiting_count known = flag_count known.residents + flag_count known.hospitals

-- how many marks there are: pairs that are gone, and pairs that are marked as free on either side
abbrev pub mark_count : Known → ℕ
mark_count known = deleted_count known.gone + flag_count known.sure.items + flag_count known.only.items

-- each list that waits more is paid for by a mark
abbrev pub Pays : Known → Known → Type 0
Pays old new = waiting_count new + mark_count old ≤ waiting_count old + mark_count new

-- a list of a side waits, and nothing else is done
pub record Waits (side : Side) (old new : Known) (n : ℕ) : Type 0 where
  pub gone : new.gone ≡ old.gone
  pub marks : (s : Side) → marks_on s new ≡ marks_on s old
  pub waits : waiting_on side new ≡ slice_set (waiting_on side old) n true
  pub rests : waiting_on (other side) new ≡ waiting_on (other side) old

-- a list of a side waits no more, and nothing else is done
pub record Rests (side : Side) (old new : Known) (n : ℕ) : Type 0 where
  pub gone : new.gone ≡ old.gone
  pub marks : (s : Side) → marks_on s new ≡ marks_on s old
  pub rests : waiting_on side new ≡ slice_set (waiting_on side old) n false
  pub others : waiting_on (other side) new ≡ waiting_on (other side) old

-- a pair is marked on a side, and nothing else is done
pub record Sets (side : Side) (old new : Known) (p : ℕ) : Type 0 where
  pub gone : new.gone ≡ old.gone
  pub marked : marks_on side new ≡ slice_set (marks_on side old) (p - 1) true
  pub unmarked : marks_on (other side) new ≡ marks_on (other side) old
  pub flags : (s : Side) → waiting_on s new ≡ waiting_on s old

-- a pair was marked as free on a side, and its list on the other side waits
pub record MarksFree (side : Side) (lists : Lists) (old new : Known) (p : ℕ) : Type 0 where
  pub gone : new.gone ≡ old.gone
  pub marked : marks_on side new ≡ slice_set (marks_on side old) (p - 1) true
  pub unmarked : marks_on (other side) new ≡ marks_on (other side) old
  pub waits : waiting_on (other side) new ≡ slice_set (waiting_on (other side) old) (list_of (other side) lists p) true
  pub rests : waiting_on side new ≡ waiting_on side old

-- a pair is deleted that wasn't, and no other is
pub record IsOneMore (before after : Deletions) (w : ℕ) : Type 0 where
  pub gone : is_deleted after w ≡ true
  pub others : (q : ℕ) → (q ≡ w → ⊥) → is_deleted after q ≡ is_deleted before q
  pub size : length after ≡ length before
  pub count : deleted_count after ≡ deleted_count before + 1

-- a pair was deleted on a visit of its list on a side, and its list on the other side waits
pub record Drops (side : Side) (lists : Lists) (old new : Known) (w : ℕ) : Type 0 where
  pub more : IsOneMore old.gone new.gone w
  pub unmarked : (s : Side) → marks_on s new ≡ marks_on s old
  pub waits : waiting_on (other side) new ≡ slice_set (waiting_on (other side) old) (list_of (other side) lists w) true
  pub rests : waiting_on side new ≡ waiting_on side old

-- a list was visited: fewer lists wait, or there are more marks
abbrev pub Gains : Known → Known → Type 0
Gains old new = waiting_count new + mark_count old + 1 ≤ waiting_count old + mark_count new
