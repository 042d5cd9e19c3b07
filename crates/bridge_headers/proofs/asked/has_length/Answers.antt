use Rattle.std.proofs.Common.{◌≡◌, true, codes, sym, ap, ◌∙◌}
use Rattle.host_base.specs.declared.request.Field.{Field}
use Rattle.bridge_headers.specs.Lines.{same_name}
use Rattle.bridge_headers.specs.Lines.{states_length}
use Rattle.bridge_headers.proofs.LineLemmas.{any_at}
use Rattle.bridge_headers.proofs.asked.has_length.Goals as goal

pub returns-then-is_same_name : goal.returns-then-is_same_name
returns-then-is_same_name c =
    let same : same_name c.field-item.result.name (codes "content-length") ≡ true = cc (c.is_same_name.ensures, c.as_slice.ensures.value, c.if-is_same_name.true) in
    let here = ap (λ (f : Field). same_name f.name (codes "content-length")) (sym c.field-item.is) ∙ same in
    sym (any_at states_length (λ (f : Field). (f.name, f.value)) c.args.fields.now c.loop-field.field-index c.field-item.result c.loop-field-test.true here)
