use Rattle.share_graph.proofs.Coherence.{coherent}
use Rattle.share_graph.proofs.TreesAgree.{trees_agree}
use Rattle.live_access.proofs.solution.solve.Goals as goal

pub solve_anew-requires-clause-coherent : goal.solve_anew-requires-clause-coherent
solve_anew-requires-clause-coherent c = coherent c.args.tables.now c.requires.checked

pub returns-clause-trees : goal.returns-clause-trees
returns-clause-trees c at fact =
    let (there, back) = c.in_ok-table.ensures at fact in
    let (shown, derived) = trees_agree c.args.tables.now at fact in
    (λ h. shown (there h), λ w. back (derived w))
