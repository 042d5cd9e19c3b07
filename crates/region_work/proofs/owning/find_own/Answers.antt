use Rattle.std.proofs.Common.{◌≡◌, ◌∙◌, sym, ap, subst, inl, inr}
use Rattle.host_base.specs.declared.ids.AccountId.{AccountId}
use Rattle.share_graph.specs.declared.facts.Node.{Node}
use Rattle.share_graph.specs.declared.facts.Node.TheVariants as node
use Rattle.share_graph.specs.Derivation.{Holds, own}
use Rattle.region_work.proofs.owning.find_own.Goals as goal

pub returns-in-User-clause-sound : goal.returns-in-User-clause-sound
returns-in-User-clause-sound g c before n other h =
    elim (c.find.ensures.only n other h) [
      | inl known ↦ before n other known
      | inr fresh ↦
          let (grain, app, o, owner, is) = (c.own.ensures other).0 fresh.1 in
          let here : n ≡ node.User c.in-User.num grain.owner = fresh.0 ∙ ap (λ (a : AccountId). node.User c.in-User.num a) (sym owner) in
          subst (λ (m : Node). Holds (g.V.Probe.tables c.args.probe.now) m other) (sym here) (own o is)
    ]
