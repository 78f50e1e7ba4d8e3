use Rattle.lazy_tests.proofs.loads.the_only_load_names_row_seven.Given as goal

abbrev pub ghosts-load_at : goal.ghosts-load_at
ghosts-load_at g a = record { name = a.blank.name; parts = a.blank.parts }
