use Rattle.std.proofs.Common.{refl, sym, ◌∙◌}
use Rattle.app_manifest.proofs.Objects.{object_there, no_value}
use Rattle.app_manifest.proofs.reading.object_from.Goals as goal

pub returns-then-is_object-clause-object : goal.returns-then-is_object-clause-object
returns-then-is_object-clause-object c =
    object_there c.args.bytes.now _ c.in-Ok.ensures.ok.0 c.in-Ok.ensures.ok.1 (sym c.is_object.ensures ∙ c.if-is_object.true)

pub returns-else-is_memory-clause-fault : goal.returns-else-is_memory-clause-fault
returns-else-is_memory-clause-fault c = (refl, no_value c.args.bytes.now (c.in-Err.ensures.err (λ memory. absurd (let t = c.is_memory.ensures.1 memory in cc))))
