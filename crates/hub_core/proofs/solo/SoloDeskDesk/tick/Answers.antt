use Rattle.hub_core.specs.Sharing.{book_of}
use Rattle.hub_core.proofs.Placing.{goes_here}
use Rattle.hub_core.proofs.solo.SoloDeskDesk.tick.Goals as goal

pub returns-clause-ticked : goal.returns-clause-ticked
returns-clause-ticked g c = rw (← c.self.view_is, c.entries-place.ensures.value) c.tick.ensures.ticked

pub returns-clause-onward : goal.returns-clause-onward
returns-clause-onward g c =
    let later = c.tick.ensures.ticked.later in
    rw c.entries-place.ensures.value
    (goes_here (book_of g.C.Law.SiteLaw.law c.tick.new.self) c.self.inside.locked.history later.more later.seen (rw later.start c.entries-place.ensures.onward))
