use Rattle.std.proofs.Common.{◌∙◌, Option, Some, IsSome, get_or, refl, sym, ap, subst, inl, inr}
use Rattle.std.proofs.lemmas.List.Elements.{Contains-get_or}
use Rattle.share_graph.specs.declared.facts.Node.{Node}
use Rattle.share_graph.specs.declared.facts.Node.TheVariants as node
use Rattle.least_access.specs.declared.held.Held.{Held}
use Rattle.least_access.specs.Solved.{held_at}
use Rattle.least_access.proofs.Nodes.{same_or_other}
use Rattle.region_access.proofs.Cleared.{restored_one, restored_all}
use Rattle.region_access.proofs.clearing.undo.Goals as goal

-- what a read past the end would give
abbrev blank : Node
blank = node.User (record { 0 = 0 }) (record { 0 = 0 })

pub put-requires : goal.put-requires
put-requires c =
    c.loop-place.invariant.0 (get_or c.args.nodes.now c.loop-place.place blank) (Contains-get_or c.args.nodes.now c.loop-place.place blank c.loop-place-test.true)

pub loop-place-preserved : goal.loop-place-preserved
loop-place-preserved c =
    let here : Node = get_or c.args.nodes.now c.loop-place.place blank in (
      λ at inside.
          elim (same_or_other at here) [
            | inl one ↦ subst (λ (n : Node). IsSome (held_at c.put.new.table.entries n)) (sym one) (subst (λ (o : Option Held). IsSome o) (sym c.put.ensures.same) refl)
            | inr apart ↦ subst (λ (o : Option Held). IsSome o) (sym (c.put.ensures.others at apart)) (c.loop-place.invariant.0 at inside)
          ],
      λ start clears was.
          restored_one c.args.nodes.now start c.loop-place.table.entries c.put.new.table.entries c.args.before.now c.loop-place.place blank c.index-before-place.result c.loop-place-test.true was
          (c.loop-place.invariant.1 start clears was) (c.put.ensures.same ∙ ap (λ (h : Held). Some h) c.index-before-place.is) c.put.ensures.others,
    )

pub returns : goal.returns
returns c start clears was = restored_all c.args.nodes.now start c.loop-place.table.entries c.loop-place.place c.loop-place-test.false (c.loop-place.invariant.1 start clears was)
