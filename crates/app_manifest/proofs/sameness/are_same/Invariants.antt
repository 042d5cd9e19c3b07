use Rattle.std.proofs.Common.{◌≡◌, take}
use Rattle.app_manifest.proofs.sameness.are_same.Given as goal

abbrev pub invariant-loop-place : goal.invariant-loop-place
invariant-loop-place g l = take l.place l.parts ≡ take l.place l.others
