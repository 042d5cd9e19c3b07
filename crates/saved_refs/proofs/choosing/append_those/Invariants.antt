use Rattle.std.proofs.Common.{◌≡◌, ◌++◌, take}
use Rattle.std.specs.List.{filter_map}
use Rattle.saved_refs.specs.Scan.{with_quality}
use Rattle.saved_refs.proofs.choosing.append_those.Given as goal

abbrev pub invariant-loop-choice : goal.invariant-loop-choice
invariant-loop-choice l = l.list.items ≡ l.fn.list.items ++ filter_map (with_quality l.quality) (take l.choice-index l.choices)
