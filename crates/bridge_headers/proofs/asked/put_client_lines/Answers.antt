use Rattle.std.proofs.Common.{◌≡◌, ◌++◌, [], ◌∷◌}
use Rattle.bridge_headers.specs.Lines.{lines_text, passed}
use Rattle.bridge_headers.specs.Text.{request_names}
use Rattle.bridge_headers.proofs.ClientLines.{client_more}
use Rattle.bridge_headers.proofs.asked.put_client_lines.Goals as goal

pub loop-field-preserved : goal.loop-field-preserved
loop-field-preserved c =
    let field = c.field-item.result in
    let put : c.put_passed.new.text.items ≡ c.loop-field.text.items ++ lines_text (passed request_names ((field.name, field.value) ∷ [])) =
    cc (c.in_ok-put_passed.ensures, c.as_slice-name.ensures.value, c.as_slice-value.ensures.value) in
    client_more _ _ _ c.args.fields.now c.loop-field.field-index field c.loop-field-test.true c.field-item.is c.loop-field.invariant put
