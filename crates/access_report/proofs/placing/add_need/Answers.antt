use Rattle.std.proofs.Common.{subst}
use Rattle.share_graph.specs.declared.facts.Fact.TheVariants.{Open}
use Rattle.share_graph.specs.declared.grants.Need.{Need}
use Rattle.share_graph.specs.Derivation.{Asks}
use Rattle.access_report.proofs.Placed.{cited_more, cites_held}
use Rattle.access_report.proofs.placing.add_need.Goals as goal

pub returns-in_ok-add_set-in-PermissionsHeld-clause-there : goal.returns-in_ok-add_set-in-PermissionsHeld-clause-there
returns-in_ok-add_set-in-PermissionsHeld-clause-there c at asked a =
    let steps = c.args.trace.now in
    let holder = c.in-PermissionsHeld.holder in
    let from = c.add_set.new.from.items in
    cites_held steps holder c.in-PermissionsHeld.set from
    (cited_more steps c.add_said-in-PermissionsHeld.new.from.items from c.in_ok-add_set-in-PermissionsHeld.ensures.keeps holder Open c.in_ok-add_said-in-PermissionsHeld.ensures.there)
    c.in_ok-add_set-in-PermissionsHeld.ensures.there at asked (subst (λ (q : Need). Asks q at asked) c.in-PermissionsHeld.is a)
