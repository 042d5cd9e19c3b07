use Rattle.std.proofs.Common.{◌∙◌}
use Rattle.epoch_gate.specs.Books.{start_of}
use Rattle.epoch_gate.proofs.Caches.{cached_on}
use Rattle.epoch_gate.proofs.hub.Hub.order.Goals as goal

pub invariant_of-pass : goal.invariant_of-pass
invariant_of-pass g c = (cached_on (g.T.Book.shows (start_of g.T.Book.blank g.N.Named.start)) _ _ _ c.order-place.ensures.begins c.pass.invariant.0, c.order-place.ensures.parts ∙ c.pass.invariant.1)
