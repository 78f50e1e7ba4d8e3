use Rattle.engine_tests.proofs.cases.a_conflict_after_a_decision_may_end_all.Given as goal

abbrev pub ghosts-nothing_left : goal.ghosts-nothing_left
ghosts-nothing_left g a = record { name = a.blank.name; parts = a.blank.parts }
