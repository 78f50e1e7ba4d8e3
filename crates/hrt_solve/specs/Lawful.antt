-- The law of a written proof, as a derivation keeps it on the way to its claim.
use Rattle.std.specs.Prelude.{◌≡◌, ◌<◌, [], length, IsTrue, is_some, Option, Some, None}
use Rattle.hrt_base.specs.declared.numbered.RowNo.{RowNo}
use Rattle.rank_tables.specs.Instance.{Lists, pair_count}
use Rattle.stability_model.specs.Model.{rows}
use Rattle.proof_rules.specs.Held.{is_held}
use Rattle.derivation.specs.Derived.{Derived}
use Rattle.derivation.specs.Pieces.{StandsTraced}
use Rattle.derivation.specs.Ready.{IsReady}
use Rattle.derivation.specs.Traces.{AreAllGone, Trace}

-- without a bound row no bound note is told of; a bound row is held, its note is told of, and no row was made since the last mark
abbrev pub IsMarked : Option RowNo → Derived → Trace → Type 0
IsMarked None d t = t.since ≡ None
IsMarked (Some id) d t = (t.since ≡ Some d.state.next) × IsTrue (is_held d.held id.0)

-- For the empty text the derivation stands with the law, and each pair that is gone has its unit note. The bound row, if there is
-- one, has its note.
pub record IsLawfulWith (lists : Lists) (id : Option RowNo) (d : Derived) : Type 0 where
  pub told : Trace
  pub stands : StandsTraced [] d told
  pub ready : IsReady d
  pub behind_model : length (rows d.lists) < d.state.next
  pub units : AreAllGone lists told.units
  pub marked : IsMarked id d told

-- For the empty text the derivation stands with the law, with all the notes that a whole proof has.
pub record IsLawfulSoFar (lists : Lists) (d : Derived) : Type 0 where
  pub told : Trace
  pub stands : StandsTraced [] d told
  pub ready : IsReady d
  pub units : AreAllGone lists told.units
  pub bound : 0 < pair_count lists → IsTrue (is_some told.since)
