use Rattle.std.proofs.Common.{arith}
use Rattle.std.proofs.lemmas.Grind.{common_steps}
use Rattle.std.proofs.lemmas.List.Elements.{filter_map-append}
use Rattle.saved_refs.proofs.choosing.append_those.Goals as goal

pub loop-choice-preserved : goal.loop-choice-preserved
loop-choice-preserved c = grind (arith, common_steps, filter_map-append)
