use Rattle.region_work.proofs.NeedsMet.{covers_tells}
use Rattle.region_work.proofs.meeting.meets.Goals as goal

pub returns-then-held : goal.returns-then-held
returns-then-held c =
    rw (c.in-PermissionsHeld.is, c.if-held.true)
    (covers_tells c.args.held.now.perms c.in-PermissionsHeld.set c.contains.result c.contains.ensures.answer)
