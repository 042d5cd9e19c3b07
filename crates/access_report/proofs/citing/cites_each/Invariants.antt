use Rattle.std.proofs.Common.{◌<◌, ℕ}
use Rattle.perm_roles.specs.PermSet.{Has}
use Rattle.share_graph.specs.declared.facts.Fact.TheVariants as fact
use Rattle.access_report.specs.Steps.{Cites}
use Rattle.access_report.proofs.citing.cites_each.Given as goal

abbrev pub invariant-loop-pos : goal.invariant-loop-pos
invariant-loop-pos l = (p : ℕ) → p < l.pos → Has l.set p → Cites l.steps l.before l.from l.node (fact.Perm p)
