use Rattle.std.proofs.Common.{ℕ, None, Err, refl, inl}
use Rattle.share_graph.specs.declared.desk.DeskFault.TheVariants as fault
use Rattle.desk_orders.specs.Listing.{IsListed}
use Rattle.desk_orders.proofs.OfOptions.{none_found}
use Rattle.hub_core.specs.Sharing.{sharing_of, state_of}
use Rattle.hub_core.proofs.Replies.{unmoved}
use Rattle.hub_core.proofs.answering.list.Goals as goal

pub returns-in-Ok : goal.returns-in-Ok
returns-in-Ok g c = λ holds.
    unmoved {K = ℕ} g.C.Law.SiteLaw.law None (sharing_of c.args.history.now (record { keeper = 0; tell = holds })) c.args.order.now _
    (refl, refl, rw (← c.state.ensures.value) c.in-Ok.ensures.listed.0, rw (← c.state.ensures.value) c.in-Ok.ensures.listed.1) tt
    (rw (← c.state.ensures.value) c.state.ensures.formed)
    (none_found g.C.Law.SiteLaw.law (state_of c.args.history.now) c.args.order.now.caller c.args.order.now.command c.requires)

pub returns-in-Err-Refused : goal.returns-in-Err-Refused
returns-in-Err-Refused g c = λ holds.
    let listed : IsListed g.C.Law.SiteLaw.law c.state.result.now c.args.order.now (Err (fault.Refused c.in-Err-Refused.refusal)) = rw c.in-Err-Refused.field-0-is at c.in-Err-Refused.ensures.listed in
    unmoved {K = ℕ} g.C.Law.SiteLaw.law None (sharing_of c.args.history.now (record { keeper = 0; tell = holds })) c.args.order.now _
    (refl, inl (rw (← c.state.ensures.value) listed)) tt
    (rw (← c.state.ensures.value) c.state.ensures.formed)
    (none_found g.C.Law.SiteLaw.law (state_of c.args.history.now) c.args.order.now.caller c.args.order.now.command c.requires)

pub returns-in-Err-Memory : goal.returns-in-Err-Memory
returns-in-Err-Memory g c = λ holds.
    unmoved {K = ℕ} g.C.Law.SiteLaw.law None (sharing_of c.args.history.now (record { keeper = 0; tell = holds })) c.args.order.now _ (refl, tt) tt
    (rw (← c.state.ensures.value) c.state.ensures.formed) tt
