use Rattle.hub_core.proofs.locked.Locked.order.Goals as goal

pub invariant_of-self : goal.invariant_of-self
invariant_of-self g c = (c.answer.ensures.ordered.later.stored c.self.invariant.0, c.answer.ensures.leaves.outlives c.self.invariant.0 c.self.invariant.1)

pub returns-clause-stops : goal.returns-clause-stops
returns-clause-stops g c = rw (← c.self.view_is)
    (record {
      stops = c.answer.ensures.leaves.stops c.self.invariant.0;
      settled = c.answer.ensures.leaves.settled;
      outlive = c.answer.ensures.leaves.outlives c.self.invariant.0 c.self.invariant.1;
    })
