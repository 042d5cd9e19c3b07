use Rattle.std.proofs.Common.{◌≡◌, take}
use Rattle.std.specs.List.{filter_map}
use Rattle.collections.specs.Scan.{member_of}
use Rattle.collections.proofs.members.members_in.Given as goal

abbrev pub invariant-loop-entry : goal.invariant-loop-entry
invariant-loop-entry l = l.members.items ≡ filter_map member_of (take l.entry-index l.entries)
