use Rattle.std.proofs.Common.{◌≡◌, Some, None, refl, sym, ◌∙◌, ap, inl, inr}
use Rattle.std.specs.Option.{option_copied}
use Rattle.share_graph.specs.declared.facts.Node.TheVariants as node
use Rattle.share_graph.proofs.MissingOne.{none_held}
use Rattle.session_table.specs.Standing.{behind_grant}
use Rattle.session_table.specs.Verdict.{Stands, Reaches}
use Rattle.session_table.proofs.Follows.{if_ok_then}
use Rattle.session_table.proofs.reaching.reaches.Goals as goal

pub unreachable-requires : goal.unreachable-requires
unreachable-requires c =
    let odd : None ≡ Some c.requires.own.grant = sym (ap (λ o. option_copied o) c.in_default.is) ∙ c.grant.ensures ∙ c.requires.own.is_row in cc

pub returns-in-Account : goal.returns-in-Account
returns-in-Account c =
    if_ok_then (Stands c.args.state.now (behind_grant c.args.num c.in-Some.grant.now)) (Reaches c.args.state.now c.args.num) c.grant_stands.result
    (λ v stands. (c.in-Some.grant.now, _, sym c.grant.ensures ∙ ap (λ o. option_copied o) c.in-Some.is, c.in-Account.ensures.origin, stands)) c.grant_stands.ensures

pub returns-in-Some-why_not : goal.returns-in-Some-why_not
returns-in-Some-why_not c =
    (c.in-Some.grant.now, _, sym c.grant.ensures ∙ ap (λ o. option_copied o) c.in-Some.is, c.in-Site.ensures.origin, inl (c.in-Some-why_not.reason, refl, c.in-Some-why_not.ensures.missing))

pub returns-in-None : goal.returns-in-None
returns-in-None c = (
  c.in-Some.grant.now,
  _,
  sym c.grant.ensures ∙ ap (λ o. option_copied o) c.in-Some.is,
  c.in-Site.ensures.origin,
  inr (none_held c.args.state.now.tables (node.Grant c.args.num) c.in-None.ensures.missing, refl),
)
