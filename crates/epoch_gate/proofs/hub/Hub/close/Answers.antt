use Rattle.epoch_gate.proofs.hub.Hub.close.Goals as goal

pub returns-clause-seen : goal.returns-clause-seen
returns-clause-seen g c = rw (c.into_book.ensures.history, c.gather-all.ensures.same) c.gather-all.ensures.seen
