-- What the objects of a conversation tell, of whichever kind they are.
use Rattle.std.specs.Prelude.{Some}
use Rattle.grain_supervise.specs.Line.{Line}
use Rattle.host_base.specs.Drawing.{Counted, Drawer, Listed}
use Rattle.conversations.specs.declared.objects.AnyLink.{AnyLink}
use Rattle.conversations.specs.declared.objects.AnyLink.TheVariants as link
use Rattle.conversations.specs.declared.objects.AnySecrets.{AnySecrets}
use Rattle.conversations.specs.declared.objects.AnySecrets.TheVariants as secrets

-- what a link tells
unfoldable pub line_of : AnyLink → Line
line_of (link.Echo s) = record { faults = s.count.faults; asked = Some s.asked }
line_of (link.Canned s) = record { faults = s.count.faults; asked = Some s.asked }

-- what secrets tell
unfoldable pub drawer_of : AnySecrets → Drawer
drawer_of (secrets.Sequence drawn) = record { faults = 0; coming = Some (Counted drawn) }
drawer_of (secrets.Listed s) = record { faults = s.count.faults; coming = Some (Listed s.left) }
