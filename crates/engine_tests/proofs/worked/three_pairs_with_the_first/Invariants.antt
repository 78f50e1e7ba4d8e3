use Rattle.engine_tests.proofs.worked.three_pairs_with_the_first.Given as goal

abbrev pub ghosts-improvement : goal.ghosts-improvement
ghosts-improvement g a = record { name = a.blank.name; parts = a.blank.parts }
