use Rattle.std.proofs.Common.{◌≡◌, ◌++◌, drop, take}
use Rattle.powerbox_match.specs.Choices.{insertion}
use Rattle.powerbox_match.proofs.choices.Choice.place_in.Given as goal

abbrev pub invariant-loop-place : goal.invariant-loop-place
invariant-loop-place l =
    insertion l.self l.in_order ≡ take l.place l.in_order ++ insertion l.self (drop l.place l.in_order)
