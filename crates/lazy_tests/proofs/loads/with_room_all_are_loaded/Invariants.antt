use Rattle.lazy_tests.proofs.loads.with_room_all_are_loaded.Given as goal

abbrev pub ghosts-load_at : goal.ghosts-load_at
ghosts-load_at g a = record { name = a.blank.name; parts = a.blank.parts }
