use Rattle.engine_tests.proofs.cases.a_falsified_row_is_open.Given as goal

abbrev pub ghosts-falsified_at_once : goal.ghosts-falsified_at_once
ghosts-falsified_at_once g a = record { name = a.blank.name; parts = a.blank.parts }
