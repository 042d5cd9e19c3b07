use Rattle.std.proofs.Common.{◌≡◌, List, ℕ, get_or, codes, sym, ap, ◌∙◌}
use Rattle.httparse.specs.Spans.{header_bytes}
use Rattle.bridge_headers.specs.Lines.{same_name}
use Rattle.bridge_headers.specs.Relay.{length_value}
use Rattle.bridge_headers.specs.Spans.{with_value}
use Rattle.bridge_headers.proofs.FramingLemmas.{blank, stated_next, stated_kept}
use Rattle.bridge_headers.proofs.framing.stated_length.Goals as goal
use Rattle.bridge_headers.proofs.framing.stated_length.Goals.{then-is_same_name, else-is_same_name}

pub loop-field-preserved : goal.loop-field-preserved
loop-field-preserved c =
    let head = c.args.head.now in
    let fields = c.args.fields.now in
    let i = c.loop-field.field-index in
    let test : same_name (header_bytes head (get_or fields i blank)).0 (codes "content-length") ≡ c.is_same_name.result =
    ap (λ (name : List ℕ). same_name name (codes "content-length")) (sym c.of.ensures) ∙ sym c.is_same_name.ensures in
    elim c.if-is_same_name.branch [
      | then-is_same_name w ↦
          stated_next head fields i c.loop-field.found c.if-is_same_name.found c.loop-field-test.true c.loop-field.invariant (test ∙ w.if-is_same_name.true)
          (w.found-is ∙ w.further-found.ensures ∙ ap (λ (value : List ℕ). with_value c.loop-field.found (length_value value)) w.of-then-is_same_name.ensures)
      | else-is_same_name w ↦
          stated_kept head fields i c.loop-field.found c.if-is_same_name.found c.loop-field-test.true c.loop-field.invariant (test ∙ w.if-is_same_name.false) w.found-is
    ]
