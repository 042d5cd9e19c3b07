use Rattle.std.proofs.Common.{arith}
use Rattle.std.proofs.lemmas.Grind.{common_steps}
use Rattle.std.proofs.lemmas.List.Elements.{filter_map-append}
use Rattle.saved_refs.proofs.choosing.choices_of.Goals as goal

pub loop-grain-preserved : goal.loop-grain-preserved
loop-grain-preserved c = (c.in_ok-choice.ensures.known, Prim.grind (arith, common_steps, filter_map-append))
