use Rattle.std.proofs.Common.{◌∷◌, [], ap}
use Rattle.perm_roles.specs.declared.perm_set.PermSet.{PermSet}
use Rattle.share_graph.specs.declared.facts.Node.TheVariants as node
use Rattle.share_graph.specs.declared.grants.Need.TheVariants as need
use Rattle.collections.proofs.sharing.member_needs.Goals as goal

pub returns : goal.returns
returns c = ap (λ (set : PermSet). need.TokenValid c.args.link ∷ need.PermissionsHeld (node.User c.args.collection c.args.member) set ∷ []) c.empty-set.ensures.value
