use Rattle.std.proofs.Common.{refl, subst, sym}
use Rattle.desk_base.specs.Terms.{replay, State}
use Rattle.hub_core.specs.Sharing.{sharing_of}
use Rattle.row_tables.specs.Kept.{IsStored}
use Rattle.hub_core.proofs.Placing.{stored_ticked, ticked_here}
use Rattle.hub_core.proofs.locked.Locked.tick.Goals as goal

pub invariant_of-self : goal.invariant_of-self
invariant_of-self g c =
    let old = c.self.inside in (
      subst (λ (start : State). IsStored old.held.tell.keeping (replay start c.tick.new.self.entries).tables) (sym c.tick.ensures.start)
          (stored_ticked old.held.tell.keeping old.history.start old.history.entries c.tick.new.self.entries c.args.moment c.tick.result c.tick.ensures.entries c.self.invariant.0),
      c.self.invariant.1,
    )

pub returns-clause-ticked : goal.returns-clause-ticked
returns-clause-ticked g c =
    let old = c.self.inside in
    rw (← c.self.view_is)
    (ticked_here g.C.Law.SiteLaw.law (record { start = old.history.start; history = old.history.entries; holds = old.held.tell; keeper = old.held.keeper })
    (record { start = c.tick.new.self.start; history = c.tick.new.self.entries; holds = old.held.tell; keeper = old.held.keeper })
    c.args.moment c.tick.result c.tick.ensures.start c.tick.ensures.entries refl c.tick.ensures.formed c.tick.ensures.ticks)
