use Rattle.std.proofs.Common.{◌++◌, List, ℕ, ap, ◌∙◌}
use Rattle.row_formats.specs.Format.{number_bytes}
use Rattle.row_formats.proofs.Counts.{lowest_bytes}
use Rattle.row_formats.proofs.writer.put_count.Goals as goal

pub returns : goal.returns
unfolding number_bytes
returns c =
    c.in_ok-put.ensures.ok ∙ ap (λ (bs : List ℕ). c.args.bytes.now ++ bs) (c.to_be_bytes.ensures ∙ lowest_bytes c.args.length)
