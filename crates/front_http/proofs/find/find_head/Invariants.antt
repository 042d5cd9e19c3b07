use Rattle.front_http.specs.Pending.{HasNoEndBefore}
use Rattle.front_http.proofs.find.find_head.Given as goal

abbrev pub invariant-loop-at : goal.invariant-loop-at
invariant-loop-at l = HasNoEndBefore l.at l.bytes
