use Rattle.hub_core.proofs.history.History.tick.Given as goal

abbrev pub ghosts-make_ready : goal.ghosts-make_ready
ghosts-make_ready a = record { name = a.blank.name; parts = a.blank.parts }

abbrev pub ghosts-happen : goal.ghosts-happen
ghosts-happen a = record { name = a.blank.name; parts = a.blank.parts }
