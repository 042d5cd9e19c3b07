use Rattle.powerbox_match.proofs.matching.matches.Given as goal

abbrev pub ghosts-matches_from : goal.ghosts-matches_from
ghosts-matches_from a = record { name = a.blank.name; parts = a.blank.parts }
