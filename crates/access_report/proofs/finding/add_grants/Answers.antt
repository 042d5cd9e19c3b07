use Rattle.std.proofs.Common.{get_or}
use Rattle.std.proofs.lemmas.List.Elements.{Contains-get_or}
use Rattle.std.proofs.lemmas.Option.{slice_get-get_or}
use Rattle.host_base.specs.declared.ids.GrantId.{GrantId}
use Rattle.access_report.proofs.FoundNodes.{none_added, one_added, each_added}
use Rattle.access_report.proofs.finding.add_grants.Goals as goal

-- what a read past the end would give
abbrev blank : GrantId
blank = record { 0 = 0 }

pub loop-num-init : goal.loop-num-init
loop-num-init c = none_added c.args.tables.now c.args.grain c.args.solved.now c.args.found.now.entries c.args.grants.now

pub node_by-requires : goal.node_by-requires
node_by-requires c =
    let (grant, is, of) = c.requires (get_or c.args.grants.now c.loop-num.num-index blank) (Contains-get_or c.args.grants.now c.loop-num.num-index blank c.loop-num-test.true) in
    (grant, is)

pub loop-num-preserved : goal.loop-num-preserved
loop-num-preserved c =
    let num : GrantId = get_or c.args.grants.now c.loop-num.num-index blank in
    one_added c.args.tables.now c.args.grain c.args.solved.now c.args.found.now.entries c.loop-num.found.entries c.add_node.new.found.entries c.args.grants.now
    c.loop-num.num-index num c.node_by.result (slice_get-get_or c.args.grants.now c.loop-num.num-index blank c.loop-num-test.true)
    (c.requires num (Contains-get_or c.args.grants.now c.loop-num.num-index blank c.loop-num-test.true)) c.node_by.ensures c.in_ok-add_node.ensures c.loop-num.invariant

pub returns-clause-found : goal.returns-clause-found
returns-clause-found c = c.loop-num.invariant.found

pub returns-clause-keeps : goal.returns-clause-keeps
returns-clause-keeps c = c.loop-num.invariant.keeps

pub returns-clause-there : goal.returns-clause-there
returns-clause-there c =
    each_added c.args.tables.now c.args.grain c.args.solved.now c.args.found.now.entries c.loop-num.found.entries c.args.grants.now c.loop-num.num-index c.loop-num-test.false c.loop-num.invariant
