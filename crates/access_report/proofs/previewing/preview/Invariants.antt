use Rattle.access_report.proofs.previewing.preview.Given as goal

abbrev pub ghosts-reached : goal.ghosts-reached
ghosts-reached a = record { name = a.blank.name; parts = a.blank.parts }
