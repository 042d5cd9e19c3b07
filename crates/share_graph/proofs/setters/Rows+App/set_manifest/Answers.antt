use Rattle.std.proofs.Common.{None, refl, ◌<◌, subst}
use Rattle.share_graph.specs.Setting.{with_manifest}
use Rattle.share_graph.proofs.ChangedRow.{sets_row}
use Rattle.share_graph.specs.Clues.{no_clues, no_link}
use Rattle.share_graph.proofs.Keeping.{rows_keep}
use Rattle.share_graph.proofs.setters.Rows+App.set_manifest.Goals as goal

pub returns-in-Some : goal.returns-in-Some
returns-in-Some c = rw (← c.self.view_is, ← c.from.ensures) (sets_row (with_manifest c.args.manifest) _ _ _ c.index_mut.result.now c.in-Some.ensures.0 c.index_mut.ensures.value)

pub invariant_of-self : goal.invariant_of-self
invariant_of-self c = rows_keep (λ row. no_clues) (λ row. None) (λ row. no_link) (with_manifest c.args.manifest) c.self.inside.items c.self.inside.index c.self.inside.ways c.in-Some.place c.index_mut.result.now (λ n has. has) refl refl (subst (λ n. c.in-Some.place < n) c.len.ensures c.in-Some.ensures.1) c.index_mut.ensures.value c.self.invariant
