use Rattle.std.proofs.Common.{List, All, sym, ◌∙◌, subst}
use Rattle.std.proofs.lemmas.Bool.{false≢true}
use Rattle.share_graph.specs.declared.grants.Need.{Need}
use Rattle.share_graph.specs.Derivation.{IsMetBy}
use Rattle.share_graph.specs.Nodes.{node_of}
use Rattle.least_access.specs.Solved.{HeldAt}
use Rattle.least_access.proofs.Following.{all_from_members, follows_live, from_site}
use Rattle.least_access.proofs.passing.passed.Goals as goal

pub returns-then-not-is_live : goal.returns-then-not-is_live
returns-then-not-is_live c fact = (
  λ h. absurd (c.none.ensures fact h),
  λ f.
      let live = follows_live c.args.tables.now (HeldAt c.args.table.now.entries) c.args.num c.args.grant.now (node_of c.args.num c.args.grant.now) fact f in
      absurd (false≢true (sym c.if-not-is_live.true ∙ c.is_live.ensures.1 (live.live, live.lasts))),
)

pub returns-then-not-are_met : goal.returns-then-not-are_met
returns-then-not-are_met c fact = (
  λ h. absurd (c.none-then-not-are_met.ensures fact h),
  λ f.
      let Met = IsMetBy c.args.tables.now (HeldAt c.args.table.now.entries) in
      let met = all_from_members Met c.args.grant.now.needs f.met in
      let there : All Met c.as_slice.result.now = subst (λ (needs : List Need). All Met needs) (sym c.as_slice.ensures) met in
      absurd (false≢true (sym c.if-not-are_met.true ∙ c.are_met.ensures.1 there)),
)

pub returns-in-None : goal.returns-in-None
returns-in-None c fact =
    let Met = IsMetBy c.args.tables.now (HeldAt c.args.table.now.entries) in
    let met : All Met c.args.grant.now.needs = subst (λ (needs : List Need). All Met needs) c.as_slice.ensures (c.are_met.ensures.0 c.if-not-are_met.false) in
    let site = from_site c.args.tables.now (HeldAt c.args.table.now.entries) c.args.num c.args.grant.now met c.requires.coherent c.requires.row fact (sym c.source_of.ensures ∙ c.in-None.is) in
    let given = c.given_by_site.ensures fact in
    (λ h. site.0 (given.0 h), λ f. given.1 (site.1 f))
