use Rattle.engine_tests.proofs.drawn.drawn_systems.Given as goal

abbrev pub ghosts-decide_some : goal.ghosts-decide_some
ghosts-decide_some g a = record { name = a.blank.name; parts = a.blank.parts }
