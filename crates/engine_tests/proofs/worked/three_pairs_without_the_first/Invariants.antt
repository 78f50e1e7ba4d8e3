use Rattle.engine_tests.proofs.worked.three_pairs_without_the_first.Given as goal

abbrev pub ghosts-learned : goal.ghosts-learned
ghosts-learned g a = record { name = a.blank.name; parts = a.blank.parts }
