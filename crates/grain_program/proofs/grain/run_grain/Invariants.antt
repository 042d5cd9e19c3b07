use Rattle.std.proofs.Common.{◌≡◌, ◌≤◌}
use Rattle.std.specs.Option.{option_map}
use Rattle.grain_program.specs.Taking.{taken_of}
use Rattle.grain_program.proofs.grain.run_grain.Given as goal

abbrev pub invariant-connections : goal.invariant-connections
invariant-connections g l = record {
  counts : (g.E.Entrance.doorway l.fn.door).faults ≤ (g.E.Entrance.doorway l.door).faults;
  taken : (g.E.Entrance.doorway l.door).traffic ≡ option_map (taken_of l.count l._taken) (g.E.Entrance.doorway l.fn.door).traffic;
}
