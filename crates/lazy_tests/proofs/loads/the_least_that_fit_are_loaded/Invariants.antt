use Rattle.lazy_tests.proofs.loads.the_least_that_fit_are_loaded.Given as goal

abbrev pub ghosts-load_at : goal.ghosts-load_at
ghosts-load_at g a = record { name = a.blank.name; parts = a.blank.parts }
