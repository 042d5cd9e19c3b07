use Rattle.host_base.specs.declared.ids.GrantId.{GrantId}
use Rattle.access_report.proofs.Queued.{queued_none, queued_next, queued_all}
use Rattle.access_report.proofs.queue.Queue.add_all.Goals as goal

-- what a read past the end would give
abbrev blank : GrantId
blank = record { 0 = 0 }

pub loop-num-init : goal.loop-num-init
loop-num-init c = queued_none c.args.nums.now c.args.self.now

pub loop-num-preserved : goal.loop-num-preserved
loop-num-preserved c =
    queued_next c.args.nums.now c.args.self.now c.loop-num.self c.add.new.self c.loop-num.num-index blank c.loop-num-test.true c.loop-num.invariant c.in_ok-add.ensures

pub returns : goal.returns
returns c = queued_all c.args.nums.now c.args.self.now c.loop-num.self c.loop-num.num-index c.loop-num-test.false c.loop-num.invariant
