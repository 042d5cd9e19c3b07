use Rattle.hub_core.specs.Sharing.{book_of}
use Rattle.hub_core.proofs.Placing.{goes_here}
use Rattle.hub_core.proofs.solo.SoloDeskDesk.order.Goals as goal

pub returns-clause-ordered : goal.returns-clause-ordered
returns-clause-ordered g c = rw (← c.self.view_is, c.entries-place.ensures.value) c.order.ensures.ordered

pub returns-clause-onward : goal.returns-clause-onward
returns-clause-onward g c =
    let later = c.order.ensures.ordered.later in
    rw c.entries-place.ensures.value
    (goes_here (book_of g.C.Law.SiteLaw.law c.order.new.self) c.self.inside.locked.history later.more later.seen (rw later.start c.entries-place.ensures.onward))
