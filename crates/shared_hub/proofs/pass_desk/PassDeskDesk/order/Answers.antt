use Rattle.epoch_gate.specs.Books.{start_of}
use Rattle.shared_hub.specs.Wanting.{blank}
use Rattle.shared_hub.proofs.Passing.{order_goes_from, ordered_from}
use Rattle.shared_hub.proofs.pass_desk.PassDeskDesk.order.Goals as goal

pub returns-clause-ordered : goal.returns-clause-ordered
returns-clause-ordered g c =
    rw (← c.self.view_is) (
    ordered_from g.C.Law.SiteLaw.law (start_of blank g.N.Named.start).start c.self.inside.pass c.order-place.new.pass
    c.order-place.result.0 c.args.order c.in-Reply.answer c.order-place.result.1 c.in-Reply.is c.order-place.ensures.answered)

pub returns-clause-onward : goal.returns-clause-onward
returns-clause-onward g c =
    order_goes_from g.C.Law.SiteLaw.law (start_of blank g.N.Named.start).start c.self.inside.pass c.order-place.new.pass
    c.order-place.result.0 c.args.order c.in-Reply.answer c.order-place.result.1 c.in-Reply.is c.order-place.ensures.answered
