use Rattle.std.proofs.Common.{List, All, sym, subst}
use Rattle.share_graph.specs.declared.grants.Need.{Need}
use Rattle.share_graph.specs.Derivation.{IsMetBy}
use Rattle.least_access.proofs.Following.{all_from_members}
use Rattle.least_access.proofs.Lacking.{not_so}
use Rattle.access_report.specs.Steps.{Cites}
use Rattle.access_report.proofs.following.follows.Goals as goal

pub returns-then-not-are_met : goal.returns-then-not-are_met
returns-then-not-are_met c =
    let Met = IsMetBy c.args.tables.now (Cites c.args.steps.now c.args.before c.as_slice-from.result.now) in (
      λ h. cc,
      λ f.
          let met = all_from_members (IsMetBy c.args.tables.now (Cites c.args.steps.now c.args.before c.args.step.now.from)) c.args.grant.now.needs f.met in
          let at_slice : All Met c.args.grant.now.needs = rw c.as_slice-from.ensures met in
          let there : All Met c.as_slice.result.now = subst (λ (needs : List Need). All Met needs) (sym c.as_slice.ensures) at_slice in
          absurd (not_so (All Met c.as_slice.result.now) c.are_met.result c.are_met.ensures c.if-not-are_met.true there),
    )
