use Rattle.std.proofs.Common.{get_or}
use Rattle.std.proofs.lemmas.List.Elements.{Contains-get_or}
use Rattle.host_base.specs.declared.ids.GrantId.{GrantId}
use Rattle.access_report.proofs.Begun.{sites_none, sites_next, sites_all}
use Rattle.access_report.proofs.spreading.add_sites.Goals as goal

-- what a read past the end would give
abbrev blank : GrantId
blank = record { 0 = 0 }

pub loop-num-init : goal.loop-num-init
loop-num-init c = sites_none c.args.tables.now c.args.grants.now c.args.queue.now

pub add_site-requires : goal.add_site-requires
add_site-requires c = c.requires (get_or c.args.grants.now c.loop-num.num-index blank) (Contains-get_or c.args.grants.now c.loop-num.num-index blank c.loop-num-test.true)

pub loop-num-preserved : goal.loop-num-preserved
loop-num-preserved c =
    sites_next c.args.tables.now c.args.grants.now c.args.queue.now c.loop-num.queue c.add_site.new.queue c.loop-num.num-index blank c.loop-num-test.true c.loop-num.invariant c.in_ok-add_site.ensures

pub returns : goal.returns
returns c = sites_all c.args.tables.now c.args.grants.now c.args.queue.now c.loop-num.queue c.loop-num.num-index c.loop-num-test.false c.loop-num.invariant
