use Rattle.live_access.proofs.solution.solve.Given as goal

abbrev pub ghosts-solve_anew : goal.ghosts-solve_anew
ghosts-solve_anew a = record { name = a.blank.name; parts = a.blank.parts }
