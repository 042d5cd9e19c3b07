use Rattle.std.proofs.Common.{◌≡◌, ◌+◌, drop}
use Rattle.std.specs.Option.{option_map}
use Rattle.bridge_headers.specs.Relay.{run_length}
use Rattle.bridge_headers.proofs.head.run_end.Given as goal

abbrev pub invariant-loop-i : goal.invariant-loop-i
invariant-loop-i l = run_length l.bytes ≡ option_map (λ n. n + l.i) (run_length (drop l.i l.bytes))
