use Rattle.std.proofs.Common.{get_or, refl}
use Rattle.std.proofs.lemmas.List.Elements.{Contains-get_or}
use Rattle.host_base.specs.declared.ids.GrantId.{GrantId}
use Rattle.access_report.proofs.Rested.{fed_none, fed_next, fed_all}
use Rattle.access_report.proofs.resting.push_all_feeders.Goals as goal

-- what a read past the end would give
abbrev blank : GrantId
blank = record { 0 = 0 }

pub loop-num-init : goal.loop-num-init
loop-num-init c = fed_none c.args.tables.now c.args.nodes.now.items c.args.nodes.now.items c.args.grants.now refl

pub push_feeders_of-requires : goal.push_feeders_of-requires
push_feeders_of-requires c = c.requires (get_or c.args.grants.now c.loop-num.num-index blank) (Contains-get_or c.args.grants.now c.loop-num.num-index blank c.loop-num-test.true)

pub loop-num-preserved : goal.loop-num-preserved
loop-num-preserved c =
    let (grant, is) = c.requires (get_or c.args.grants.now c.loop-num.num-index blank) (Contains-get_or c.args.grants.now c.loop-num.num-index blank c.loop-num-test.true) in
    fed_next c.args.tables.now c.args.nodes.now.items c.loop-num.nodes.items c.push_feeders_of.new.nodes.items c.args.grants.now c.loop-num.num-index blank grant c.loop-num-test.true is
    (c.in_ok-push_feeders_of.ensures grant is) c.loop-num.invariant

pub returns : goal.returns
returns c = fed_all c.args.tables.now c.args.nodes.now.items c.loop-num.nodes.items c.args.grants.now c.loop-num.num-index c.loop-num-test.false c.loop-num.invariant
