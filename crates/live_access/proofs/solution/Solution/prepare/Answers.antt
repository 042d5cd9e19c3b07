use Rattle.std.proofs.Common.{◌≡◌, Bool, Result, Ok, Err, List, refl, sym, ◌∙◌, ap, subst}
use Rattle.std.specs.Prelude.{OnErr, IsTrue, ◌↔◌}
use Rattle.share_graph.specs.declared.facts.Node.{Node}
use Rattle.share_graph.specs.declared.state.Tables.{Tables}
use Rattle.share_graph.specs.Coherent.{IsCoherent}
use Rattle.share_graph.specs.History.{after}
use Rattle.share_graph.proofs.Coherence.{coherent}
use Rattle.region_work.specs.Fed.{fed_in}
use Rattle.region_access.specs.Arriving.{IsArrivalsAt}
use Rattle.region_access.specs.Indexes.{entries_of}
use Rattle.region_access.specs.NewEdges.{AddsGrant, HasNoRow}
use Rattle.region_access.specs.Room.{IsRoom}
use Rattle.live_access.specs.contracts.solution.Solution.{the_view}
use Rattle.live_access.specs.Adding.{OnlyAdds}
use Rattle.live_access.specs.Kept.{Kept, IsSolvedFor}
use Rattle.live_access.specs.Ready.{AreSeedsFor, starts_of}
use Rattle.live_access.proofs.Law.{event_adds, event_is_new}
use Rattle.live_access.proofs.Settled.{collected, same_solved}
use Rattle.live_access.proofs.solution.Solution.prepare.Goals as goal

pub prepare-requires-clause-coherent : goal.prepare-requires-clause-coherent
prepare-requires-clause-coherent g c =
    let (s, before) = c.requires.before in
    subst (λ (t : Tables). IsCoherent t) (before.tables ∙ sym c.in_ok-seeds.ensures.same) (coherent s.tables before.formed.tables)

pub prepare-requires-clause-new : goal.prepare-requires-clause-new
prepare-requires-clause-new g c =
    let (s, before) = c.requires.before in
    subst (λ (t : Tables). HasNoRow t c.in_ok-added.added) (before.tables ∙ sym c.in_ok-seeds.ensures.same) (event_is_new s c.args.event.now c.in_ok-added.added before.fits c.in_ok-added.ensures)

solved_of : {t u : Tables} {kept : Kept} → t ≡ u → IsSolvedFor t kept → IsSolvedFor u kept
solved_of {kept = kept} same solved = subst (λ (v : Tables). IsSolvedFor v kept) same solved

on_err : {X E : Type 0} {P : Type 0} (r : Result X E) → P → OnErr r P
on_err (Ok x) p = tt
on_err (Err e) p = p

pub returns-in_err-room-clause-err : goal.returns-in_err-room-clause-err
returns-in_err-room-clause-err g c =
    let t = g.V.Probe.tables c.args.probe.now in
    let solved = subst (λ (kept : Kept). IsSolvedFor t kept) (sym (ap the_view c.self-inside.view_is ∙ c.self.view_is)) c.requires.solved in
    on_err c.from_residual-in_err-room.result (same_solved t _ _ c.in_err-room.ensures.err c.in_err-room.ensures.err_indexes solved)

pub collect-requires-clause-arrivals : goal.collect-requires-clause-arrivals
collect-requires-clause-arrivals g c =
    let (s, before) = c.requires.before in
    let u : Tables = (after s c.args.event.now).tables in
    let adds = subst (λ (t : Tables). AddsGrant c.in_ok-added.added t u) (before.tables ∙ sym c.in_ok-seeds.ensures.same) (event_adds s c.args.event.now c.in_ok-added.added before.fits c.in_ok-added.ensures) in
    (u, (c.in_ok-room.ensures.indexes_after u adds).arrivals)

pub returns-in-Ok-clause-ok : goal.returns-in-Ok-clause-ok
returns-in-Ok-clause-ok g c s before =
    let t = g.V.Probe.tables c.args.probe.now in
    let e = c.args.event.now in
    let u : Tables = (after s e).tables in
    let back : g.V.Probe.tables c.starts.new.probe ≡ s.tables = c.in_ok-seeds.ensures.same ∙ sym before.tables in
    let same = ap the_view c.self-inside.view_is ∙ c.self.view_is in
    let solved = solved_of (sym before.tables) (subst (λ (kept : Kept). IsSolvedFor t kept) (sym same) c.requires.solved) in
    let adds = subst (λ (v : Tables). AddsGrant c.in_ok-added.added v u) (sym back) (event_adds s e c.in_ok-added.added before.fits c.in_ok-added.ensures) in
    let indexes = c.in_ok-room.ensures.indexes_after u adds in
    let starts = c.starts_of-starts.ensures ∙ ap (λ (seeds : List Node). starts_of c.in_ok-room.room.grows seeds c.in_ok-room.room.nodes.items) c.as_slice-2.ensures.value in
    let at = subst (λ (nodes : List Node). IsArrivalsAt nodes (fed_in c.prepare.new.indexes.arrivals.entries) c.in-Ok.grants.items) starts c.in-Ok.ensures in
    record {
      formed = before.formed;
      fits = before.fits;
      start = _;
      solved = solved;
      exact = subst (λ (kept : Kept). AreSeedsFor s e kept.table c.in_ok-seeds.seeds.items) (sym same) (c.in_ok-seeds.ensures.exact s before);
      room = subst (λ (v : Tables). IsRoom v c.in_ok-seeds.seeds.items c.self-inside.inside.0.0.table.entries c.prepare.new.table.entries c.in_ok-room.room) back
          (subst (λ (seeds : List Node). IsRoom (g.V.Probe.tables c.starts.new.probe) seeds c.self-inside.inside.0.0.table.entries c.prepare.new.table.entries c.in_ok-room.room) c.as_slice.ensures.value c.in_ok-room.ensures.ok);
      grows = subst (λ (b : Bool). IsTrue b ↔ OnlyAdds s.tables e) (sym c.in_ok-room.ensures.mode) (subst (λ (v : Tables). IsTrue c.only_adds-grows.result ↔ OnlyAdds v e) back c.only_adds-grows.ensures);
      added = c.in_ok-added.ensures;
      has_new = c.in_ok-room.ensures.added;
      grants = collected u (starts_of c.in_ok-room.room.grows c.in_ok-seeds.seeds.items c.in_ok-room.room.nodes.items) (fed_in c.prepare.new.indexes.arrivals.entries) c.in-Ok.grants.items indexes.arrivals at;
      once = at.once;
    }

pub returns-in-Err-clause-err : goal.returns-in-Err-clause-err
returns-in-Err-clause-err g c =
    let t = g.V.Probe.tables c.args.probe.now in
    let solved = subst (λ (kept : Kept). IsSolvedFor t kept) (sym (ap the_view c.self-inside.view_is ∙ c.self.view_is)) c.requires.solved in
    let room = subst (λ (v : Tables). IsRoom v c.as_slice.result.now c.self-inside.inside.0.0.table.entries c.prepare.new.table.entries c.in_ok-room.room) c.in_ok-seeds.ensures.same c.in_ok-room.ensures.ok in
    same_solved t _ _ (c.take_back.ensures.facts t c.as_slice.result.now c.self-inside.inside.0.0.table.entries room)
    (c.take_back.ensures.indexes (entries_of c.self-inside.inside.0.1.0) c.in_ok-room.ensures.added) solved
