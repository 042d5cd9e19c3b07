use Rattle.std.proofs.Common.{◌≡◌, take}
use Rattle.powerbox_match.proofs.descriptor.DescriptorClone.clone.Given as goal

abbrev pub invariant-loop-tag : goal.invariant-loop-tag
invariant-loop-tag l = l.tags.items ≡ take l.tag-index l.tag-items
