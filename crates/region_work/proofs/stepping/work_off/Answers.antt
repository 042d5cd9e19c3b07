use Rattle.std.proofs.Common.{◌∙◌, List, sym, subst, arith}
use Rattle.host_base.specs.declared.ids.GrantId.{GrantId}
use Rattle.least_access.specs.Solved.{Table}
use Rattle.region_work.specs.Working.{HasRegion}
use Rattle.region_work.proofs.StepWorks.{work_done}
use Rattle.region_work.proofs.stepping.work_off.Goals as goal

pub step-requires-clause-working : goal.step-requires-clause-working
step-requires-clause-working g c = rw (c.steps.invariant.0, c.take.ensures.found, ← c.in-Some.ensures.queue) c.steps.invariant.1

pub steps-preserved : goal.steps-preserved
steps-preserved g c =
    let t = g.V.Probe.tables c.args.probe.now in
    let same = c.steps.invariant.0 in
    let region : (gs : List GrantId) → HasRegion t c.args.waiting.now.found gs → HasRegion t c.take.new.self.found gs = λ gs all.
    subst (λ (found : Table). HasRegion t found gs) (sym c.take.ensures.found) (c.steps.invariant.2 gs all) in (
      c.step.ensures.same ∙ same,
      rw same at c.step.ensures.working,
      λ gs all. (rw same at c.step.ensures.region) gs (region gs all),
      λ gs all. (let one = (rw same at c.step.ensures.counted) gs (region gs all) in let before = c.steps.invariant.3 gs all in omega arith),
    )

pub returns-clause-solution : goal.returns-clause-solution
returns-clause-solution g c =
    work_done (g.V.Probe.tables c.args.probe.now) c.requires.coherent c.steps.table.entries c.steps.waiting c.steps.invariant.1 c.in_default.ensures.queue
