use Rattle.std.proofs.Common.{◌++◌, List, ℕ, ap, ◌∙◌}
use Rattle.std.specs.Prelude.{ℤ}
use Rattle.std.specs.Int.{w128, to_be_bytes, cast_unsigned}
use mir.Facts.{to_z-of_z}
use Rattle.row_formats.specs.Format.{number_bytes}
use Rattle.row_formats.proofs.writer.put_i128.Goals as goal

pub returns-clause-written : goal.returns-clause-written
unfolding number_bytes
returns-clause-written c =
    c.in_ok-put.ensures.ok
    ∙ ap (λ (bs : List ℕ). c.args.bytes.now ++ bs) (c.to_be_bytes.ensures ∙ ap (λ (z : ℤ). to_be_bytes w128 (cast_unsigned w128 z)) (to_z-of_z {w = w128} {z = c.args.n} c.ranges.n))
