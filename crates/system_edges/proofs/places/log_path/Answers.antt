use Rattle.std.proofs.Common.{rules, append_assoc}
use Rattle.system_edges.proofs.places.log_path.Goals as goal

pub returns : goal.returns
returns c = search (rules, append_assoc)
