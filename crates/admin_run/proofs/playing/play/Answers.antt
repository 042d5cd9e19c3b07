use Rattle.std.proofs.Common.{refl, sym, ap, subst, ◌∙◌, inl, inr}
use Rattle.share_graph.specs.History.{replay}
use Rattle.hub_core.specs.Book.{Backing}
use Rattle.hub_core.specs.Sharing.{Objects, Sharing}
use Rattle.row_tables.specs.Kept.{IsStored}
use Rattle.admin_run.proofs.Causes.{read_cause, write_cause}
use Rattle.admin_run.proofs.Completes.{completes}
use Rattle.admin_run.proofs.Played.{serves_book, the_world, not_nine}
use Rattle.admin_run.proofs.playing.play.Goals as goal

pub returns-in-Err-clause-plays : goal.returns-in-Err-clause-plays
returns-in-Err-clause-plays g c = rw (← c.world.view_is)
    (let inside = c.world.inside in
    inr (record {
      status_is = refl;
      same = c.joined-world.ensures.tells
          ∙ ap (λ (h : Backing). the_world (g.W.Input.Source.inlet inside.input) (g.W.Output.Sink.outlet inside.out) (g.W.Door.Link.Link.line inside.link) h (g.W.Clock.Clock.moments inside.clock) (g.W.Door.Entrance.doorway inside.door) (g.W.Halls.Entrance.doorway inside.halls)) (ap (λ (o : Objects _). o.tell) c.in-Err.ensures.err);
    }))

pub returns-clause-plays : goal.returns-clause-plays
returns-clause-plays g c = rw (← c.world.view_is, c.joined-world-2.ensures.tells)
    (let end = c.serve_conn-end.result in
    let desk' = c.serve_conn-end.new.desk in
    inl (record {
      connection =
          serves_book g.C.Law.SiteLaw.law _ c.serve_conn-end.new.wire _ c.into_held-held.result.tell end c.in-Ok-small_desk.desk desk' _
          c.in-Ok-small_desk.ensures.ok (ap (λ (o : Objects _). o.tell) c.into_held-held.ensures.held ∙ ap (λ (x : Sharing _). x.holds) c.into_locked.ensures) c.serve_conn-end.ensures.served
          (subst (λ (x : Sharing _). IsStored c.into_held-held.result.tell.keeping (replay x.start x.history).tables) c.into_locked.ensures c.into_held-held.ensures.stored);
      status_is = c.status_of-status.ensures;
      complete = λ bytes requests told stream few reads writes.
          completes end.end c.status_of-status.result end.served requests c.status_of-status.ensures (c.serve_conn-end.ensures.complete bytes requests told stream few reads writes);
      others = refl;
    }))

pub returns-clause-cause : goal.returns-clause-cause
returns-clause-cause g c = rw (← c.world.view_is, c.joined-world-2.ensures.tells)
    (let end = c.serve_conn-end.result in
    record {
      taken = λ is. inl (read_cause _ _ _ _ end.end c.serve_conn-end.ensures.served.cause (sym c.status_of-status.ensures ∙ is));
      written = λ is. write_cause _ _ _ _ end.end c.serve_conn-end.ensures.served.cause (sym c.status_of-status.ensures ∙ is);
      stored = λ is. absurd (not_nine end.end (sym c.status_of-status.ensures ∙ is));
    })
