use Rattle.std.proofs.Common.{ap, ◌∙◌}
use Rattle.serve_door.specs.Doors.{Doorway, Tunneled, given_back, tunnel}
use Rattle.serve_door.proofs.Fresh.{is_tunneled}
use Rattle.serve_door.proofs.tunneling.serve_next.Goals as goal

pub done-requires-clause-served : goal.done-requires-clause-served
done-requires-clause-served g c = (
  g.D.Desk.book c.args.desk.now,
  is_tunneled g.D.Desk.gave g.D.Desk.book _ _ (g.E.Link.Link.line c.args.link.now) _ _ _ _ c.serve_tunnel-end.result c.in-Ok-accept.ensures.hall c.in-Ok.ensures c.serve_tunnel-end.ensures,
)

pub returns-in-Ok-accept-clause-serves : goal.returns-in-Ok-accept-clause-serves
returns-in-Ok-accept-clause-serves g c =
    let one = tunnel (g.E.Hall.Messages.hall c.serve_tunnel-end.new.messages) (g.E.Link.Link.line c.serve_tunnel-end.new.link) c.serve_tunnel-end.result in (
      one,
      is_tunneled g.D.Desk.gave g.D.Desk.book _ _ (g.E.Link.Link.line c.args.link.now) _ _ _ _ c.serve_tunnel-end.result c.in-Ok-accept.ensures.hall c.in-Ok.ensures c.serve_tunnel-end.ensures,
      c.done.ensures ∙ ap (λ (d : Doorway). given_back d (Tunneled one)) c.in-Ok-accept.ensures.given,
    )

pub returns-in-Ok-accept-clause-begins : goal.returns-in-Ok-accept-clause-begins
returns-in-Ok-accept-clause-begins g c = c.serve_tunnel-end.ensures.run.none.later.start
