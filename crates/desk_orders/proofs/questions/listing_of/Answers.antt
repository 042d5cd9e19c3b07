use Rattle.collections.specs.Members.{IsPlanFor}
use Rattle.listings.specs.Asking.{IsPageOf}
use Rattle.report_desk.specs.Lines.{AreAccessLines, AreLossLines}
use Rattle.report_desk.specs.Reasons.{AreReasons}
use Rattle.desk_orders.specs.Sites.{AreListed}
use Rattle.desk_orders.specs.declared.order.Command.TheVariants as command
use Rattle.desk_orders.specs.declared.reply.Listing.TheVariants as listing
use Rattle.desk_orders.proofs.Listed.{answered_by}
use Rattle.desk_orders.proofs.OneListing.{listed_one}
use Rattle.desk_orders.proofs.questions.listing_of.Goals as goal

pub returns-in-Options-clause-listed : goal.returns-in-Options-clause-listed
returns-in-Options-clause-listed g c =
    answered_by g.C.Law.SiteLaw.law c.args.state.now c.order.inside.caller (command.Options c.in-Options.grain c.in-Options.query) (AreListed g.C.Law.SiteLaw.law c.args.state.now c.order.inside.caller c.in-Options.grain c.in-Options.query) listing.Options (λ told are. are)
    c.order.inside.command c.in-Options.is c.args.order.now c.order.view_is c.options_of.result c.map.result c.map.ensures.cases c.options_of.ensures

pub returns-in-Access-clause-listed : goal.returns-in-Access-clause-listed
returns-in-Access-clause-listed g c =
    answered_by g.C.Law.SiteLaw.law c.args.state.now c.order.inside.caller (command.Access c.in-Access.grain) (AreAccessLines c.args.state.now.tables c.in-Access.grain) listing.Access (λ told are. are)
    c.order.inside.command c.in-Access.is c.args.order.now c.order.view_is c.access.result c.map-in-Access.result c.map-in-Access.ensures.cases c.access.ensures.row

pub returns-in-Preview-clause-listed : goal.returns-in-Preview-clause-listed
returns-in-Preview-clause-listed g c =
    answered_by g.C.Law.SiteLaw.law c.args.state.now c.order.inside.caller (command.Preview c.in-Preview.grant) (AreLossLines c.args.state.now.tables c.in-Preview.grant) listing.Losses (λ told are. are)
    c.order.inside.command c.in-Preview.is c.args.order.now c.order.view_is c.preview.result c.map-in-Preview.result c.map-in-Preview.ensures.cases c.preview.ensures.row

pub returns-in-Why-clause-listed : goal.returns-in-Why-clause-listed
returns-in-Why-clause-listed g c =
    answered_by g.C.Law.SiteLaw.law c.args.state.now c.order.inside.caller (command.Why c.in-Why.grain c.in-Why.account) (AreReasons c.args.state.now.tables c.in-Why.grain c.in-Why.account) listing.Why (λ told are. are)
    c.order.inside.command c.in-Why.is c.args.order.now c.order.view_is c.why.result c.map-in-Why.result c.map-in-Why.ensures.cases c.why.ensures.row

pub returns-in-Missing-clause-listed : goal.returns-in-Missing-clause-listed
returns-in-Missing-clause-listed g c =
    answered_by g.C.Law.SiteLaw.law c.args.state.now c.order.inside.caller (command.Missing c.in-Missing.collection c.in-Missing.link) (IsPlanFor c.args.state.now c.order.inside.caller c.in-Missing.collection c.in-Missing.link) listing.Owed (λ told are. are)
    c.order.inside.command c.in-Missing.is c.args.order.now c.order.view_is c.missing.result c.map-in-Missing.result c.map-in-Missing.ensures.cases c.missing.ensures.row

pub returns-in-List-clause-listed : goal.returns-in-List-clause-listed
returns-in-List-clause-listed g c =
    answered_by g.C.Law.SiteLaw.law c.args.state.now c.order.inside.caller (command.List c.in-List.subject) (IsPageOf c.args.state.now c.order.inside.caller c.in-List.subject) listing.Page (λ told are. are)
    c.order.inside.command c.in-List.is c.args.order.now c.order.view_is c.list.result c.map-in-List.result c.map-in-List.ensures.cases c.list.ensures.row

pub returns-in-Options-clause-one : goal.returns-in-Options-clause-one
returns-in-Options-clause-one g c = λ one n query. listed_one g.C.Law.SiteLaw.law one query c.args.state.now c.requires.formed c.args.order.now.caller n

pub returns-in-Access-clause-one : goal.returns-in-Access-clause-one
returns-in-Access-clause-one g c = λ one n query. listed_one g.C.Law.SiteLaw.law one query c.args.state.now c.requires.formed c.args.order.now.caller n

pub returns-in-Preview-clause-one : goal.returns-in-Preview-clause-one
returns-in-Preview-clause-one g c = λ one n query. listed_one g.C.Law.SiteLaw.law one query c.args.state.now c.requires.formed c.args.order.now.caller n

pub returns-in-Why-clause-one : goal.returns-in-Why-clause-one
returns-in-Why-clause-one g c = λ one n query. listed_one g.C.Law.SiteLaw.law one query c.args.state.now c.requires.formed c.args.order.now.caller n

pub returns-in-Missing-clause-one : goal.returns-in-Missing-clause-one
returns-in-Missing-clause-one g c = λ one n query. listed_one g.C.Law.SiteLaw.law one query c.args.state.now c.requires.formed c.args.order.now.caller n

pub returns-in-List-clause-one : goal.returns-in-List-clause-one
returns-in-List-clause-one g c = λ one n query. listed_one g.C.Law.SiteLaw.law one query c.args.state.now c.requires.formed c.args.order.now.caller n
