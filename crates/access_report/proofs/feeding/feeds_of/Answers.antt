use Rattle.std.proofs.Common.{◌≡◌, ◌++◌, List, get_or, ◌∙◌, ap, subst}
use Rattle.std.proofs.lemmas.List.Elements.{Contains-get_or}
use Rattle.host_base.specs.declared.ids.GrantId.{GrantId}
use Rattle.share_graph.specs.declared.facts.Node.{Node}
use Rattle.region_work.specs.Fed.{fed_in}
use Rattle.access_report.specs.Resting.{feeders}
use Rattle.access_report.specs.Waiting.{AddsToAll}
use Rattle.access_report.proofs.FedGrants.{feed_none, feed_next, feed_all}
use Rattle.access_report.proofs.feeding.feeds_of.Goals as goal

-- what a read past the end would give
abbrev blank : GrantId
blank = record { 0 = 0 }

pub loop-num-init : goal.loop-num-init
loop-num-init c = feed_none c.args.tables.now c.args.grants.now c.new-fed.result.entries c.new-fed.ensures.empty

pub push_feeders_of-requires : goal.push_feeders_of-requires
push_feeders_of-requires c = c.requires (get_or c.args.grants.now c.loop-num.num-index blank) (Contains-get_or c.args.grants.now c.loop-num.num-index blank c.loop-num-test.true)

pub loop-num-preserved : goal.loop-num-preserved
loop-num-preserved c =
    let num : GrantId = get_or c.args.grants.now c.loop-num.num-index blank in
    let (grant, is) = c.requires num (Contains-get_or c.args.grants.now c.loop-num.num-index blank c.loop-num-test.true) in
    let rests = c.in_ok-push_feeders_of.ensures grant is in
    let nodes : c.as_slice.result.now ≡ feeders grant = c.as_slice.ensures.value ∙ rests ∙ ap (λ (ns : List Node). ns ++ feeders grant) c.new-nodes.ensures.items in
    feed_next c.args.tables.now c.args.grants.now (fed_in c.loop-num.fed.entries) (fed_in c.add_to_all.new.fed.entries) c.loop-num.num-index blank grant c.loop-num-test.true is
    (subst (λ (ns : List Node). AddsToAll ns num (fed_in c.loop-num.fed.entries) (fed_in c.add_to_all.new.fed.entries)) nodes c.in_ok-add_to_all.ensures) c.loop-num.invariant

pub returns : goal.returns
returns c = feed_all c.args.tables.now c.args.grants.now (fed_in c.loop-num.fed.entries) c.loop-num.num-index c.loop-num-test.false c.loop-num.invariant
