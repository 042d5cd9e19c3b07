use Rattle.std.proofs.Common.{take}
use Rattle.share_graph.specs.declared.rows.Saved.{Saved}
use Rattle.share_graph.proofs.FirstOf.{found_by}
use Rattle.share_graph.proofs.keys.reference_before.Goals as goal

pub returns : goal.returns
returns c = found_by (λ (row : Saved). row.digest) c.args.digest.now (λ row. row.now) (take c.args.place c.args.references.now) c.first_before.result c.first_before.ensures
