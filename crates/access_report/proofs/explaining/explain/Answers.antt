use Rattle.std.proofs.Common.{List, Contains, sym, subst, inl, inr}
use Rattle.host_base.specs.declared.ids.GrantId.{GrantId}
use Rattle.share_graph.specs.declared.facts.Node.{Node}
use Rattle.share_graph.specs.Nodes.{node_of}
use Rattle.region_work.specs.Fed.{fed_in}
use Rattle.access_report.specs.Waiting.{IsFeedOf}
use Rattle.access_report.proofs.Complete.{complete}
use Rattle.access_report.proofs.explaining.explain.Goals as goal

pub feeds_of-requires : goal.feeds_of-requires
feeds_of-requires c num listed =
    let (grant, is, inside) = c.in_ok-rest.ensures.rows num (subst (λ (gs : List GrantId). Contains gs num) c.as_slice.ensures.value listed) in
    (grant, is)

pub start-requires : goal.start-requires
start-requires c num listed = let (grant, is, inside) = c.in_ok-rest.ensures.rows num listed in (grant, is)

pub begin-requires-clause-places : goal.begin-requires-clause-places
begin-requires-clause-places c at listed = (c.in_ok-work.ensures.empty.places at).1 (subst (λ (ns : List Node). Contains ns at) c.as_slice-2.ensures.value listed)

pub tell_until-requires-clause-fed : goal.tell_until-requires-clause-fed
tell_until-requires-clause-fed c at num fed =
    let listed = subst (λ (gs : List GrantId). Contains gs num) c.as_slice.ensures.value (c.in_ok-fed.ensures.only at num fed) in
    let (grant, is, inside) = c.in_ok-rest.ensures.rows num listed in
    (grant, is, c.in_ok-begin.ensures.begun.more.places (node_of num grant) ((c.in_ok-work.ensures.empty.places (node_of num grant)).1 inside))

pub tell_until-requires-clause-waits : goal.tell_until-requires-clause-waits
tell_until-requires-clause-waits c num waits =
    let listed = elim (c.in_ok-begin.ensures.begun.only num waits) as (λ w. Contains c.in_ok-rest.rest.grants.items num) [
      | inl before ↦ c.in_ok-work.ensures.listed num before
      | inr (at, fed) ↦ subst (λ (gs : List GrantId). Contains gs num) c.as_slice.ensures.value (c.in_ok-fed.ensures.only at num fed)
    ] in
    let (grant, is, inside) = c.in_ok-rest.ensures.rows num listed in
    (grant, is, c.in_ok-begin.ensures.begun.more.places (node_of num grant) ((c.in_ok-work.ensures.empty.places (node_of num grant)).1 inside))

pub returns-then-not-branch : goal.returns-then-not-branch
returns-then-not-branch c d =
    let t = c.args.tables.now in
    let nodes = c.in_ok-rest.rest.nodes.items in
    let grants = c.in_ok-rest.rest.grants.items in
    let table = c.tell_until.new.work.table.entries in
    let begun = c.in_ok-begin.ensures.begun in
    let index : IsFeedOf t grants (fed_in c.in_ok-fed.fed.entries) = subst (λ (gs : List GrantId). IsFeedOf t gs (fed_in c.in_ok-fed.fed.entries)) c.as_slice.ensures.value c.in_ok-fed.ensures in
    let closed = c.in_ok-tell_until.ensures.closed c.if-not-branch.true grants index (begun.closed grants index c.in_ok-work.ensures.closed) in
    c.in_ok-tell_until.ensures.unfound c.if-not-branch.true
    (complete t c.requires.coherent c.args.node nodes grants c.in_ok-rest.ensures table
    (λ at what inside is. c.in_ok-tell_until.ensures.more.facts at what (begun.owned at what (subst (λ (ns : List Node). Contains ns at) (sym c.as_slice-2.ensures.value) inside) is))
    closed c.args.fact d)
