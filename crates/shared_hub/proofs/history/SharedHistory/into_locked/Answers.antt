use Rattle.shared_hub.proofs.history.SharedHistory.into_locked.Goals as goal

pub returns-clause-kept : goal.returns-clause-kept
returns-clause-kept g c = rw (← c.self.view_is) c.self.invariant.1
