use Rattle.std.proofs.Common.{sym, ◌∙◌}
use Rattle.app_manifest.proofs.PlainForms.{plain_permission_name}
use Rattle.app_manifest.proofs.fields.permission_name_from.Goals as goal

pub from_plain-requires : goal.from_plain-requires
from_plain-requires c =
    plain_permission_name c.in-Some.text.now (sym c.is_permission_name.ensures ∙ c.if-is_permission_name.true)
