use Rattle.analysis_tests.proofs.analyses.the_worked_case.Given as goal

abbrev pub ghosts-worked : goal.ghosts-worked
ghosts-worked g a = record { name = a.blank.name; parts = a.blank.parts }
