use Rattle.std.proofs.Common.{◌<◌, arith, sym, ◌∙◌, map}
use Rattle.httparse.specs.Spans.{header_bytes}
use Rattle.bridge_headers.proofs.FramingLemmas.{stated_small}
use Rattle.bridge_headers.proofs.framing.end_of.Goals as goal

pub overflow_add-result : goal.overflow_add-result
overflow_add-result c =
    let small : c.in-Bytes.length < 10000000000 = stated_small (map (header_bytes c.args.head.now) c.as_slice-fields.result.now) c.in-Bytes.length (sym c.stated_length.ensures ∙ c.in-Bytes.is) in
    omega (arith, c.requires.short)
