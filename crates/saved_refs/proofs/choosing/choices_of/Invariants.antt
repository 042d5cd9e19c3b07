use Rattle.std.proofs.Common.{◌≡◌, take}
use Rattle.std.specs.List.{filter_map}
use Rattle.saved_refs.specs.Scan.{AreMatches, choice_of}
use Rattle.saved_refs.proofs.choosing.choices_of.Given as goal

abbrev pub invariant-loop-grain : goal.invariant-loop-grain
invariant-loop-grain l = AreMatches l.tables l.query l.found × (l.choices.items ≡ filter_map (choice_of l.tables l.query l.num) (take l.grain-index l.grains))
