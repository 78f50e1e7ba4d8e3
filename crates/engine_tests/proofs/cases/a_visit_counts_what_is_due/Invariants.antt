use Rattle.engine_tests.proofs.cases.a_visit_counts_what_is_due.Given as goal

abbrev pub ghosts-exact_at_a_visit : goal.ghosts-exact_at_a_visit
ghosts-exact_at_a_visit g a = record { name = a.blank.name; parts = a.blank.parts }
