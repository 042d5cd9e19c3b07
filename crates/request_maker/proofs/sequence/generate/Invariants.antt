use Rattle.std.proofs.Common.{◌≡◌}
use Rattle.request_maker.specs.Generated.{generated, number_at}
use Rattle.request_maker.proofs.sequence.generate.Given as goal

abbrev pub invariant-loop-made : goal.invariant-loop-made
invariant-loop-made l = (l.text ≡ generated l.made l.seed) × (l.number ≡ number_at l.seed l.made)
