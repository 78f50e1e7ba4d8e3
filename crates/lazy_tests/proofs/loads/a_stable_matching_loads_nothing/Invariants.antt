use Rattle.lazy_tests.proofs.loads.a_stable_matching_loads_nothing.Given as goal

abbrev pub ghosts-load_at : goal.ghosts-load_at
ghosts-load_at g a = record { name = a.blank.name; parts = a.blank.parts }
