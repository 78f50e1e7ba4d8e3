use Rattle.std.proofs.Common.{◌≡◌, ◌≤◌, length, take, drop, map}
use Rattle.hrt_text.specs.Text.{rows}
use Rattle.hrt_reader.specs.Refusal.{declared_hospitals, declared_residents, residents_of, hospitals_of, resident_in, hospital_in}
use Rattle.hrt_reader.proofs.Unknowns.{AllKnown}
use Rattle.hrt_reader.proofs.reading.resolve.Given as goal

-- the first `number` lines are read; what is left is `rest`
abbrev pub invariant-loop-line : goal.invariant-loop-line
invariant-loop-line l = record {
  rest : drop l.number (rows l.text) ≡ rows l.rest;
  within : l.number ≤ length (rows l.text);
  residents : map (resident_in (declared_hospitals (rows l.text))) (residents_of (take l.number (rows l.text))) ≡ l.residents.items;
  hospitals : map (hospital_in (declared_residents (rows l.text))) (hospitals_of (take l.number (rows l.text))) ≡ l.hospitals.items;
  known : AllKnown (rows l.text) l.number;
}

abbrev pub decreases-loop-line : goal.decreases-loop-line
decreases-loop-line l = length l.rest
