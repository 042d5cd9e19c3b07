use Rattle.std.proofs.Common.{refl, arith}
use Rattle.share_graph.proofs.Walks.{at_place}
use Rattle.least_access.proofs.Lacking.{not_so}
use Rattle.access_report.specs.Steps.{Cites, IsLawful}
use Rattle.access_report.proofs.SoundSteps.{sound_more, sound_all, sound_holds}
use Rattle.access_report.proofs.sounding.sound.Goals as goal

pub loop-place-init : goal.loop-place-init
loop-place-init c = λ i step less is. absurd (omega arith)

pub returns-then-not-is_lawful-clause-exact : goal.returns-then-not-is_lawful-clause-exact
returns-then-not-is_lawful-clause-exact c =
    let step = c.index-steps-place.result in
    let there = at_place c.args.steps.now c.args.steps.now c.loop-place.place step refl c.loop-place-test.true c.index-steps-place.is in (
      λ h. cc,
      λ all. absurd (not_so (IsLawful c.args.tables.now (Cites c.args.steps.now c.loop-place.place step.from) step) c.is_lawful.result c.is_lawful.ensures c.if-not-is_lawful.true (all c.loop-place.place step there)),
    )

pub returns-then-not-is_lawful-clause-law : goal.returns-then-not-is_lawful-clause-law
returns-then-not-is_lawful-clause-law c = λ h. cc

pub loop-place-preserved : goal.loop-place-preserved
loop-place-preserved c =
    let step = c.index-steps-place.result in
    sound_more c.args.tables.now c.args.steps.now c.loop-place.place step
    (at_place c.args.steps.now c.args.steps.now c.loop-place.place step refl c.loop-place-test.true c.index-steps-place.is)
    (c.is_lawful.ensures.0 c.if-not-is_lawful.false) c.loop-place.invariant

pub returns-clause-exact : goal.returns-clause-exact
returns-clause-exact c = (
  λ h. sound_all c.args.tables.now c.args.steps.now c.loop-place.place c.loop-place-test.false c.loop-place.invariant,
  λ all. cc,
)

pub returns-clause-law : goal.returns-clause-law
returns-clause-law c h =
    sound_holds c.args.tables.now c.args.steps.now
    (sound_all c.args.tables.now c.args.steps.now c.loop-place.place c.loop-place-test.false c.loop-place.invariant)
