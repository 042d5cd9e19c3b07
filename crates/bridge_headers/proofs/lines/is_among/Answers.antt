use Rattle.std.proofs.Common.{sym, ◌∙◌}
use Rattle.bridge_headers.specs.Lines.{same_name}
use Rattle.bridge_headers.proofs.LineLemmas.{any_at}
use Rattle.bridge_headers.proofs.lines.is_among.Goals as goal

pub returns-then-is_same_name : goal.returns-then-is_same_name
returns-then-is_same_name c =
    sym (any_at (same_name c.args.name.now) (λ listed. listed.now) c.args.names.now c.loop-listed.listed-index _ c.loop-listed-test.true (sym c.is_same_name.ensures ∙ c.if-is_same_name.true))
