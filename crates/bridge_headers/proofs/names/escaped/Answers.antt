use Rattle.std.proofs.Common.{◌≡◌, string_bytes, ◌∙◌, arith}
use Rattle.percent_encoding.specs.Percent.{percent_encode}
use Rattle.bridge_headers.specs.declared.names.TheConstants.{ESCAPED}
use Rattle.bridge_headers.proofs.Texts.{percent_encode-name}
use Rattle.bridge_headers.proofs.names.escaped.Goals as goal

pub returns-in-Ok : goal.returns-in-Ok
returns-in-Ok c =
    let appended : string_bytes c.append_to.new.out ≡ percent_encode ESCAPED c.args.name.now = cc (c.in-Ok.ensures.ok, c.new-text.ensures.bytes, c.percent_encode.ensures.text, c.as_bytes.ensures.value) in
    appended ∙ percent_encode-name c.args.name.now (λ i. omega (arith, c.type_inv.name i))
