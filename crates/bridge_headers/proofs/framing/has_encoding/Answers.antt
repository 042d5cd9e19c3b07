use Rattle.std.proofs.Common.{◌≡◌, List, ℕ, get_or, codes, sym, ap, ◌∙◌}
use Rattle.httparse.specs.Spans.{header_bytes}
use Rattle.bridge_headers.specs.Lines.{same_name}
use Rattle.bridge_headers.specs.Relay.{states_encoding}
use Rattle.bridge_headers.proofs.FramingLemmas.{blank}
use Rattle.bridge_headers.proofs.LineLemmas.{any_at}
use Rattle.bridge_headers.proofs.framing.has_encoding.Goals as goal

pub returns-then-is_same_name : goal.returns-then-is_same_name
returns-then-is_same_name c =
    let head = c.args.head.now in
    let fields = c.args.fields.now in
    let i = c.loop-field.field-index in
    let test : same_name (header_bytes head (get_or fields i blank)).0 (codes "transfer-encoding") ≡ c.is_same_name.result =
    ap (λ (name : List ℕ). same_name name (codes "transfer-encoding")) (sym c.of.ensures) ∙ sym c.is_same_name.ensures in
    sym (any_at states_encoding (header_bytes head) fields i blank c.loop-field-test.true (test ∙ c.if-is_same_name.true))
