use Rattle.analysis_tests.proofs.analyses.small_instances_are_refuted.Given as goal

abbrev pub ghosts-refuted : goal.ghosts-refuted
ghosts-refuted g a = record { name = a.blank.name; parts = a.blank.parts }
