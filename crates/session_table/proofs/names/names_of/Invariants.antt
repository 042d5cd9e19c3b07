use Rattle.session_table.proofs.Named.{Named}
use Rattle.session_table.proofs.names.names_of.Given as goal

abbrev pub invariant-loop-place : goal.invariant-loop-place
invariant-loop-place l = Named l.app l.set l.list.items l.place
