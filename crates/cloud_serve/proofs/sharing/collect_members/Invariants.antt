use Rattle.std.proofs.Common.{◌≡◌, ◌-◌, length}
use Rattle.cloud_serve.specs.Collecting.{shares}
use Rattle.cloud_serve.specs.Effects.{Came}
use Rattle.cloud_serve.proofs.sharing.collect_members.Given as goal

abbrev pub invariant-rounds : goal.invariant-rounds
invariant-rounds g l = Came l.asks (length (g.D.Desk.book l.fn.desk).seen) (g.D.Desk.book l.fn.desk) (g.D.Desk.book l.desk) l.place (λ acts. l.shared ≡ shares acts)

abbrev pub decreases-rounds : goal.decreases-rounds
decreases-rounds g l = 4096 - l.shared
