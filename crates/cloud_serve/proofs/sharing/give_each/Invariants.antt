use Rattle.std.proofs.Common.{◌≤◌, Ok, take}
use Rattle.cloud_serve.specs.Effects.{Came}
use Rattle.cloud_serve.specs.Inner.{EndsEach}
use Rattle.cloud_serve.proofs.sharing.give_each.Given as goal

abbrev pub invariant-loop-member : goal.invariant-loop-member
invariant-loop-member g l = record {
  few : l.made ≤ l.member-index;
  so_far : Came l.asks l.fn.place (g.D.Desk.book l.fn.desk) (g.D.Desk.book l.desk) l.place (λ acts. EndsEach l.asks (take l.member-index l.members) acts (Ok l.made));
}
