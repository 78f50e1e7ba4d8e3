use Rattle.lazy_tests.proofs.loads.no_pair_of_a_hospital_without_posts_blocks.Given as goal

abbrev pub ghosts-load_at : goal.ghosts-load_at
ghosts-load_at g a = record { name = a.blank.name; parts = a.blank.parts }
