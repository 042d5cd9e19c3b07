use Rattle.std.proofs.Common.{List, Contains, subst}
use Rattle.host_base.specs.declared.ids.GrantId.{GrantId}
use Rattle.region_work.proofs.Sums.{contains_none}
use Rattle.access_report.proofs.Lost.{others_next, others_all}
use Rattle.access_report.proofs.previewing.others_of.Goals as goal

-- what a read past the end would give
abbrev blank : GrantId
blank = record { 0 = 0 }

pub loop-other-init : goal.loop-other-init
loop-other-init c g = (
  λ listed. absurd (contains_none g (subst (λ (xs : List GrantId). Contains xs g) c.new-others.ensures.items listed)),
  λ both. absurd (contains_none g both.0),
)

pub loop-other-preserved : goal.loop-other-preserved
loop-other-preserved c =
    others_next c.args.grants.now c.loop-other.others.items c.push_other.new.others.items c.loop-other.other-index blank c.args.num c.loop-other-test.true c.in_ok-push_other.ensures
    c.loop-other.invariant

pub returns : goal.returns
returns c = others_all c.args.grants.now c.loop-other.others.items c.loop-other.other-index c.args.num c.loop-other-test.false c.loop-other.invariant
