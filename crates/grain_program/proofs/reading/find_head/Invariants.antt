use Rattle.front_http.specs.Pending.{HasNoEndBefore}
use Rattle.grain_program.proofs.reading.find_head.Given as goal

abbrev pub invariant-loop-at : goal.invariant-loop-at
invariant-loop-at l = HasNoEndBefore l.at l.bytes
