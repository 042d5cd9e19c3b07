use Rattle.std.proofs.Common.{◌≡◌, take}
use Rattle.powerbox_match.proofs.descriptor.are_same_tags.Given as goal

abbrev pub invariant-loop-place : goal.invariant-loop-place
invariant-loop-place l = take l.place l.tags ≡ take l.place l.others
