use Rattle.std.proofs.Common.{List, Contains, IsSome, refl, subst}
use Rattle.least_access.specs.Solved.{held_at}
use Rattle.share_graph.specs.declared.facts.Node.{Node}
use Rattle.region_work.specs.Prepared.{Clears, IsFresh}
use Rattle.region_access.specs.Clearing.{IsWhatWas}
use Rattle.region_access.proofs.preparing.make_room.Goals as goal
use Rattle.region_access.proofs.preparing.make_room.Goals.{then-not-grows, else-not-grows}

pub returns-clause-ok : goal.returns-clause-ok
returns-clause-ok g c =
    let nodes = c.in_ok-nodes.nodes.items in
    let start = c.add_places.new.table.entries in
    let fresh = subst (λ (ns : List Node). IsFresh ns c.in_ok-waiting.waiting) c.as_slice.ensures.value c.in_ok-waiting.ensures in
    elim c.if-not-grows.branch [
      | then-not-grows w ↦
          let same = w.as_slice-then-not-grows.ensures.value in
          let clears = subst (λ (ns : List Node). Clears ns start w.clear.new.table.entries) same w.clear.ensures.clears in
          let before = subst (λ (ns : List Node). IsWhatWas start ns w.clear.new.before.items) same w.clear.ensures.before in
          rw w.table-is (rw w.before-is (record {
            region = c.in_ok-nodes.ensures;
            start = start;
            same = c.in_default-add_places.ensures.facts;
            opened = rw w.if-not-grows.true (clears, before);
            places = clears.places;
            fresh = fresh;
          }))
      | else-not-grows w ↦
          rw w.table-is (record {
            region = c.in_ok-nodes.ensures;
            start = start;
            same = c.in_default-add_places.ensures.facts;
            opened = rw w.if-not-grows.false refl;
            places = subst (λ (ns : List Node). (at : Node) → Contains ns at → IsSome (held_at start at)) c.as_slice-2.ensures.value c.in_default-add_places.ensures.places;
            fresh = fresh;
          })
    ]
