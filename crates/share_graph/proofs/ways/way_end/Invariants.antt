use Rattle.share_graph.specs.Known.{HasGrant}
use Rattle.share_graph.proofs.WayEnds.{GoesOn}
use Rattle.share_graph.proofs.ways.way_end.Given as goal

abbrev pub invariant-loop-grant : goal.invariant-loop-grant
invariant-loop-grant l = HasGrant l.tables l.at × GoesOn l.tables l.fn.num l.shared l.at

abbrev pub decreases-loop-grant : goal.decreases-loop-grant
decreases-loop-grant l = l.at.0
