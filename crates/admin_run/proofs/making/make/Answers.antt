use Rattle.std.proofs.Common.{ℕ, List, Some, length, refl, sym, ap, subst, ◌∙◌, inl, inr}
use Rattle.share_graph.specs.History.{replay}
use Rattle.cloud_serve.specs.Served.{Served, Wired, with_book}
use Rattle.hub_core.specs.Book.{Backing}
use Rattle.hub_core.specs.Sharing.{Objects, Sharing, book_of}
use Rattle.row_tables.specs.Kept.{IsStored}
use Rattle.admin_run.proofs.Made.{over_memory_is}
use Rattle.admin_run.proofs.Played.{serves_book, the_world}
use Rattle.admin_run.proofs.making.make.Goals as goal

pub returns-in-Err-clause-makes : goal.returns-in-Err-clause-makes
returns-in-Err-clause-makes g c = rw (← c.world.view_is)
    (let inside = c.world.inside in
    inr (record {
      status_is = refl;
      same = c.joined-world.ensures.tells
          ∙ ap (λ (h : Backing). the_world (g.W.Input.Source.inlet inside.input) (g.W.Output.Sink.outlet inside.out) (g.W.Door.Link.Link.line inside.link) h (g.W.Clock.Clock.moments inside.clock) (g.W.Door.Entrance.doorway inside.door) (g.W.Halls.Entrance.doorway inside.halls)) (ap (λ (o : Objects _). o.tell) c.in-Err.ensures.err);
    }))

pub returns-clause-makes : goal.returns-clause-makes
returns-clause-makes g c = rw (← c.world.view_is, c.joined-world-2.ensures.tells)
    (let end = c.serve_conn-end.result in
    let desk' = c.serve_conn-end.new.desk in
    inl (record {
      wire = c.serve_conn-end.new.wire;
      line_is = sym (ap (λ (w : Wired). w.line) c.made.view_is);
      connection =
          serves_book g.C.Law.SiteLaw.law _ c.serve_conn-end.new.wire _ c.into_held-held.result.tell end c.in-Ok-small_desk.desk desk' _
          c.in-Ok-small_desk.ensures.ok (ap (λ (o : Objects _). o.tell) c.into_held-held.ensures.held ∙ ap (λ (x : Sharing _). x.holds) c.into_locked-locked.ensures)
          (subst (λ (w : Wired). Served (with_book w (book_of g.C.Law.SiteLaw.law c.in-Ok-small_desk.desk)) (with_book c.serve_conn-end.new.wire (book_of g.C.Law.SiteLaw.law desk')) end.end end.from end.places end.served end.forwarded)
          (over_memory_is c.new-2.result c.new-3.result _ _ _ _ _ _ c.in-Ok.ensures c.new-2.ensures c.new-3.ensures.written c.new-3.ensures.count) c.serve_conn-end.ensures.served)
          (subst (λ (x : Sharing _). IsStored c.into_held-held.result.tell.keeping (replay x.start x.history).tables) c.into_locked-locked.ensures c.into_held-held.ensures.stored);
      output = c.written.result.now;
      output_is = sym (ap (λ (w : Wired). w.outlet.written) c.made.view_is) ∙ ap (λ (xs : List ℕ). Some xs) (sym c.written.ensures);
      told = rw (← (c.entries-entries.ensures.value ∙ ap (λ (x : Sharing _). length x.history) c.into_locked-locked.ensures)) c.summarize-status.ensures.tells;
      others = refl;
    }))

pub returns-clause-cause : goal.returns-clause-cause
returns-clause-cause g c = rw (← c.world.view_is, c.joined-world-2.ensures.tells)
    (record {
      taken = λ is. absurd (c.summarize-status.ensures.unread is);
      written = c.summarize-status.ensures.cause;
      stored = λ is. absurd (c.summarize-status.ensures.kept is);
    })
