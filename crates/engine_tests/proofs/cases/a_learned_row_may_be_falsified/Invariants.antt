use Rattle.engine_tests.proofs.cases.a_learned_row_may_be_falsified.Given as goal

abbrev pub ghosts-falsified_where_it_leads : goal.ghosts-falsified_where_it_leads
ghosts-falsified_where_it_leads g a = record { name = a.blank.name; parts = a.blank.parts }
