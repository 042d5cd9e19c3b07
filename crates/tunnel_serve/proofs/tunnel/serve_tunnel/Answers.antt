use Rattle.std.proofs.Common.{◌≡◌, [], refl, inl, inr}
use Rattle.tunnel_serve.proofs.Serving.{runs_misopened, runs_opened, runs_unopened}
use Rattle.tunnel_serve.proofs.tunnel.serve_tunnel.Goals as goal

pub returns-in-Ok : goal.returns-in-Ok
returns-in-Ok g c =
    let none : c.new-places.result.items ≡ [] = c.new-places.ensures.items in
    rw c.ended.ensures
    (runs_opened _ _ _ (record { hall = g.M.Messages.hall c.open.new.messages; line = g.L.Link.line c.args.link.now }) _ c.args.desk.now c.serve_opened-end.new.desk c.in-Ok.who
    c.serve_opened-end.result c.place-from.result c.serve_opened-end.new.places.items c.serve_opened-end.new.passed c.place-from.ensures refl c.in-Ok.ensures (rw none at c.serve_opened-end.ensures))

pub returns-in-Err : goal.returns-in-Err
returns-in-Err g c =
    let none : c.new.result.items ≡ [] = c.new.ensures.items in
    rw (c.ended-in-Err.ensures, none) (elim c.in-Err.ensures [
      | inl unopened ↦ runs_unopened _ _ _ _ c.args.desk.now c.in-Err.end c.place-from.result c.place-from.ensures refl unopened
      | inr misopened ↦ runs_misopened _ _ _ _ c.args.desk.now c.in-Err.end c.place-from.result c.place-from.ensures refl misopened
    ])
