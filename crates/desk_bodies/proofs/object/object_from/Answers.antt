use Rattle.std.proofs.Common.{sym, ◌∙◌}
use Rattle.app_manifest.proofs.Objects.{object_there, no_value}
use Rattle.desk_bodies.proofs.object.object_from.Goals as goal

pub returns-in-Ok : goal.returns-in-Ok
returns-in-Ok c =
    sym (object_there c.args.bytes.now _ c.in-Ok.ensures.ok.0 c.in-Ok.ensures.ok.1 (sym c.is_object.ensures ∙ c.if-is_object.true))

pub returns-in-Err-2 : goal.returns-in-Err-2
returns-in-Err-2 c = sym (no_value c.args.bytes.now (c.in-Err.ensures.err (λ memory. absurd (let t = c.is_memory.ensures.1 memory in cc))))
