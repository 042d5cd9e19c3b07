use Rattle.epoch_gate.specs.Books.{start_of}
use Rattle.shared_hub.specs.Wanting.{blank}
use Rattle.shared_hub.proofs.Passing.{tick_goes_from, ticked_from}
use Rattle.shared_hub.proofs.pass_desk.PassDeskDesk.tick.Goals as goal

pub returns-clause-ticked : goal.returns-clause-ticked
returns-clause-ticked g c =
    rw (← c.self.view_is) (
    ticked_from g.C.Law.SiteLaw.law (start_of blank g.N.Named.start).start c.self.inside.pass c.order-place.new.pass
    c.order-place.result.0 c.args.moment c.in-Ticked.answer c.order-place.result.1 c.in-Ticked.is c.order-place.ensures.answered)

pub returns-clause-onward : goal.returns-clause-onward
returns-clause-onward g c =
    tick_goes_from g.C.Law.SiteLaw.law (start_of blank g.N.Named.start).start c.self.inside.pass c.order-place.new.pass
    c.order-place.result.0 c.args.moment c.in-Ticked.answer c.order-place.result.1 c.in-Ticked.is c.order-place.ensures.answered
