use Rattle.std.proofs.Common.{refl, ap, ◌∙◌}
use Rattle.serve_door.specs.Doors.{Connected, Doorway, connection, given_back}
use Rattle.serve_door.proofs.Fresh.{is_served}
use Rattle.serve_door.proofs.serving.serve_next.Goals as goal

pub done-requires-clause-served : goal.done-requires-clause-served
done-requires-clause-served g c =
    let served = rw (← c.wire.view_is) at c.serve_conn-end.ensures.served in
    let whole = rw (← c.wire.view_is) at c.serve_conn-end.ensures.whole in (
      g.D.Desk.book c.args.desk.now,
      is_served _ _ (g.E.Link.Link.line c.args.link.now) _ _ _ _ c.serve_conn-end.result c.in-Ok-accept.ensures.input whole c.in-Ok-accept.ensures.output c.in-Ok.ensures served,
    )

pub returns-in-Ok-accept-clause-serves : goal.returns-in-Ok-accept-clause-serves
returns-in-Ok-accept-clause-serves g c =
    let served = rw (← c.wire.view_is) at c.serve_conn-end.ensures.served in
    let whole = rw (← c.wire.view_is) at c.serve_conn-end.ensures.whole in
    let inside = c.wire.inside in
    let one = connection (g.E.Input.Source.inlet inside.input) (g.E.Output.Sink.outlet inside.out) (g.E.Link.Link.line inside.link) c.serve_conn-end.result in (
      one,
      is_served _ _ (g.E.Link.Link.line c.args.link.now) _ _ _ _ c.serve_conn-end.result c.in-Ok-accept.ensures.input whole c.in-Ok-accept.ensures.output c.in-Ok.ensures served,
      refl,
      c.done.ensures ∙ ap (λ (d : Doorway). given_back d (Connected one)) c.in-Ok-accept.ensures.given,
    )
