use Rattle.std.proofs.Common.{List, Contains, sym, subst, inl, inr}
use Rattle.share_graph.specs.declared.facts.Node.{Node}
use Rattle.share_graph.specs.Nodes.{node_of}
use Rattle.access_report.specs.Lifting.{AreFilled}
use Rattle.access_report.proofs.Rested.{feeds_in}
use Rattle.access_report.proofs.previewing.held_without.Goals as goal

pub fill-requires-clause-places : goal.fill-requires-clause-places
fill-requires-clause-places c at listed =
    let inside = subst (λ (ns : List Node). Contains ns at) c.as_slice-2.ensures.value listed in
    (c.in_ok-table.ensures.places at).1 (subst (λ (ns : List Node). Contains ns at) (sym c.as_slice.ensures.value) inside)

pub settle-requires-clause-rows : goal.settle-requires-clause-rows
settle-requires-clause-rows c num listed =
    let (grant, is, inside) = c.requires.rows num listed in
    let at = node_of num grant in
    let known = (c.in_ok-known.ensures at).1 (inl inside) in
    (grant, is, c.fill.ensures.more.places at ((c.in_ok-table.ensures.places at).1 (subst (λ (ns : List Node). Contains ns at) (sym c.as_slice.ensures.value) known)))

pub returns : goal.returns
returns c =
    let t = c.args.tables.now in
    let region = c.args.region.now in
    let known = c.in_ok-known.known.items in
    let filled : AreFilled t c.args.solved.now region known c.in_ok-table.table.entries c.fill.new.table.entries =
    subst (λ (ns : List Node). AreFilled t c.args.solved.now region ns c.in_ok-table.table.entries c.fill.new.table.entries) c.as_slice-2.ensures.value
    (c.fill.ensures.filled region c.in_ok-inside.ensures) in
    record {
      owned = λ at fact inside is. c.in_ok-settle.ensures.more.facts at fact (filled.known at fact ((c.in_ok-known.ensures at).1 (inl inside)) (inl (inside, is)));
      outer = λ h grant at fact listed is feeds outside held.
          c.in_ok-settle.ensures.more.facts at fact (filled.known at fact ((c.in_ok-known.ensures at).1 (inr (h, grant, listed, is, feeds_in grant at feeds))) (inr (outside, held)));
      closed = c.in_ok-settle.ensures.closed;
      without = λ g not all.
          c.in_ok-settle.ensures.without g not
          (λ at fact h. elim (filled.only at fact h) [ inl earlier ↦ absurd (c.in_ok-table.ensures.nothing at fact earlier) | inr is ↦ all at fact is ]);
    }

pub widened-requires : goal.widened-requires
widened-requires c num listed = let (grant, is, inside) = c.requires.rows num listed in (grant, is)
