use Rattle.access_report.proofs.SoundSteps.{SoundBelow}
use Rattle.access_report.proofs.sounding.sound.Given as goal

abbrev pub invariant-loop-place : goal.invariant-loop-place
invariant-loop-place l = SoundBelow l.tables l.steps l.place
