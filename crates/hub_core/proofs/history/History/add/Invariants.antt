use Rattle.hub_core.proofs.history.History.add.Given as goal

abbrev pub ghosts-make_ready : goal.ghosts-make_ready
ghosts-make_ready g a = record { name = a.blank.name; parts = a.blank.parts }

abbrev pub ghosts-happen : goal.ghosts-happen
ghosts-happen g a = record { name = a.blank.name; parts = a.blank.parts }
