use Rattle.std.specs.Prelude.{Some}
use Rattle.shared_hub.specs.Since.{begun_of}
use Rattle.hub_jobs.proofs.doing.do_at_once.Given as goal

-- the place of the word that was just made, and what the history begins with
abbrev pub ghosts-do_under-N-Placed : goal.ghosts-do_under-N-Placed
ghosts-do_under-N-Placed g a = record { table = a.unnamed }

abbrev pub ghosts-do_under-N-Named : goal.ghosts-do_under-N-Named
ghosts-do_under-N-Named g a = record { start = Some (begun_of a.locked) }

-- the ledger that was just made
abbrev pub ghosts-do_under-L-Ledger : goal.ghosts-do_under-L-Ledger
ghosts-do_under-L-Ledger g a = record { name = a.unopened.name; parts = a.unopened.parts }
