use Rattle.desk_bodies.proofs.Sound.{sound}
use Rattle.desk_bodies.proofs.bodies.manifest_field.Goals as goal

pub returns-in-Ok-clause-sound : goal.returns-in-Ok-clause-sound
returns-in-Ok-clause-sound c = sound _ c.in-Ok.manifest c.in-Ok.ensures.ok
