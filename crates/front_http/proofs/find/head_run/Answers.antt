use Rattle.std.proofs.lemmas.List.{take_min}
use Rattle.front_http.proofs.find.head_run.Goals as goal

pub returns : goal.returns
returns c = rw c.min.ensures (take_min 16384 c.args.bytes.now)
