use Rattle.std.proofs.Common.{◌+◌, List, take, sym, ap, subst}
use Rattle.std.specs.Global.{Vec}
use Rattle.host_base.specs.declared.ids.AccountId.{AccountId}
use Rattle.least_access.proofs.Lacking.{not_so}
use Rattle.collections.proofs.Planned.{AreLeft, none_left, one_left, passed_over, are_planned}
use Rattle.collections.proofs.planning.plan_of.Goals as goal
use Rattle.collections.proofs.planning.plan_of.Goals.{then-is_left+in_ok-push, else-is_left}

-- what a read past the end would give
abbrev blank : AccountId
blank = record { 0 = 0 }

pub loop-member-init : goal.loop-member-init
loop-member-init c = none_left c.args.tables.now c.args.collection c.args.link.now.num c.args.link.now c.args.curator _ c.new-plan.ensures.items

pub loop-member-preserved : goal.loop-member-preserved
loop-member-preserved c =
    let t = c.args.tables.now in
    let link = c.args.link.now in
    let members = c.args.members.now in
    let plan = c.loop-member.plan.items in
    elim c.if-is_left.branch [
      | then-is_left+in_ok-push w ↦
          let so = c.is_left.ensures.0 w.if-is_left.true in
          subst (λ (xs : List AccountId). AreLeft t c.args.collection link.num link c.args.curator (take (c.loop-member.member-index + 1) members) xs) (sym (ap (λ (v : Vec AccountId). v.items) w.plan-is))
          (one_left t c.args.collection link.num link c.args.curator members c.requires.members.ascend c.loop-member.member-index blank c.loop-member-test.true plan c.loop-member.invariant w.push.new.self.items w.in_ok-push.ensures.items so.0 so.1)
      | else-is_left w ↦
          subst (λ (xs : List AccountId). AreLeft t c.args.collection link.num link c.args.curator (take (c.loop-member.member-index + 1) members) xs) (sym (ap (λ (v : Vec AccountId). v.items) w.plan-is))
          (passed_over t c.args.collection link.num link c.args.curator members c.requires.members.ascend c.loop-member.member-index blank c.loop-member-test.true plan c.loop-member.invariant
          (not_so _ c.is_left.result c.is_left.ensures w.if-is_left.false))
    ]

pub returns : goal.returns
returns c = rw c.new.ensures (
    are_planned c.args.tables.now c.args.collection c.args.link.now.num c.args.link.now c.args.curator c.args.members.now c.loop-member.plan.items c.loop-member.member-index c.loop-member-test.false
    c.requires.members c.loop-member.invariant)
