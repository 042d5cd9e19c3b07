use Rattle.std.proofs.Common.{◌≡◌, ◌-◌, length}
use Rattle.admin_run.proofs.Collected.{LoginSoFar}
use Rattle.admin_run.proofs.collecting.read_login.Given as goal

abbrev pub invariant-bytes : goal.invariant-bytes
invariant-bytes g l = record {
  so_far : LoginSoFar (g.I.Source.inlet l.fn.input) (g.I.Source.inlet l.input) l.login.items;
  one : length l.next ≡ 1;
}

abbrev pub decreases-bytes : goal.decreases-bytes
decreases-bytes g l = 200 - length l.login.items
