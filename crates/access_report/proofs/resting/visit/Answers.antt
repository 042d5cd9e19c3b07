use Rattle.std.proofs.Common.{◌∷◌, [], List, sym, subst}
use Rattle.share_graph.specs.declared.facts.Node.{Node}
use Rattle.access_report.specs.Resting.{AreVisited}
use Rattle.access_report.proofs.Backwards.{visited_new, visited_there}
use Rattle.access_report.proofs.resting.visit.Goals as goal

pub returns-then-contains_key : goal.returns-then-contains_key
returns-then-contains_key c =
    visited_there c.args.nodes.now.items c.args.node c.args.places.now.entries c.requires ((c.requires.empty.places c.args.node).0 (let test = c.contains_key.ensures in let yes = c.if-contains_key.true in cc))

pub returns : goal.returns
returns c =
    subst (λ (xs : List Node). AreVisited (c.args.node ∷ []) c.args.nodes.now.items xs c.add_place.new.table.entries) (sym c.in_ok-push.ensures.items)
    (visited_new c.args.nodes.now.items c.args.node c.args.places.now.entries c.add_place.new.table.entries c.requires
    (λ there. (let some = (c.requires.empty.places c.args.node).1 there in let test = c.contains_key.ensures in let no = c.if-contains_key.false in cc)) c.in_ok-add_place.ensures.ok)
