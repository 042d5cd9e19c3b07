use Rattle.std.proofs.Common.{◌≡◌}
use Rattle.bridge_headers.proofs.Texts.{joined_first, joined_next}
use Rattle.bridge_headers.proofs.names.joined.Goals as goal
use Rattle.bridge_headers.proofs.names.joined.Goals.{then-i-gt0+in_ok-put, else-i-gt0}

pub loop-i-preserved : goal.loop-i-preserved
loop-i-preserved c =
    let names = c.args.names.now in
    let piece : c.as_bytes.result.now ≡ c.index-names-i.result = cc (c.as_bytes.ensures.value, c.as_str.ensures.text) in
    elim c.if-i-gt0.branch [
      | then-i-gt0+in_ok-put w ↦
          let next = joined_next names c.loop-i.i c.index-names-i.result c.loop-i-test.true c.index-names-i.is w.if-i-gt0.true in
          cc (next, piece, c.in_ok-put-2.ensures.ok, w.in_ok-put.ensures.ok, c.loop-i.invariant)
      | else-i-gt0 w ↦
          let first = joined_first names c.loop-i.i c.index-names-i.result c.loop-i-test.true c.index-names-i.is w.if-i-gt0.false in
          cc (first, piece, c.in_ok-put-2.ensures.ok, c.loop-i.invariant)
    ]
