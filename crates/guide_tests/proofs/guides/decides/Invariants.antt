use Rattle.guide_tests.proofs.guides.decides.Given as goal

abbrev pub ghosts-decided : goal.ghosts-decided
ghosts-decided g a = record { name = a.blank.name; parts = a.blank.parts }
