use Rattle.std.proofs.Common.{◌≡◌, ◌≤◌, length, take, drop}
use Rattle.hrt_text.specs.Text.{rows}
use Rattle.hrt_reader.specs.Refusal.{declared_hospitals, declared_residents}
use Rattle.hrt_reader.specs.Stages.{IsStage}
use Rattle.hrt_text.specs.Views.{texts}
use Rattle.hrt_reader.proofs.Places.{IsClean}
use Rattle.hrt_reader.proofs.first_pass.survey.Given as goal

-- the first `number` lines are read; what is left is `rest`
abbrev pub invariant-loop-line : goal.invariant-loop-line
invariant-loop-line l = record {
  rest : drop l.number (rows l.text) ≡ rows l.rest;
  within : l.number ≤ length (rows l.text);
  stage : IsStage l.stage (take l.number (rows l.text));
  residents : declared_residents (take l.number (rows l.text)) ≡ texts l.residents.keys;
  hospitals : declared_hospitals (take l.number (rows l.text)) ≡ texts l.hospitals.keys;
  clean : IsClean (rows l.text) l.number;
}

abbrev pub decreases-loop-line : goal.decreases-loop-line
decreases-loop-line l = length l.rest
