use Rattle.std.proofs.Common.{◌≡◌, inl, inr, refl, rules, subst}
use Rattle.desk_base.specs.Terms.{Grant}
use Rattle.share_graph.specs.declared.grants.Target.TheVariants as target
use Rattle.share_graph.proofs.Apart.{token_one}
use Rattle.saved_refs.proofs.claiming.own_claim.Goals as goal

pub returns-in_default : goal.returns-in_default
returns-in_default c = inl (refl, λ claim (one, to). c.in_default.ensures claim.0 one.listed one.is)

pub returns-in_default-target : goal.returns-in_default-target
returns-in_default-target c =
    inl (
      refl,
      λ claim (one, to).
          c.in_default-target.not-Claim claim.1
          (subst (λ (x : Grant). x.target ≡ target.Claim claim.1) ((token_one c.args.state.now c.requires c.args.token.now).one claim.0 c.in-Some.grant.now one c.in-Some.ensures) to),
    )

pub returns-then-ne : goal.returns-then-ne
returns-then-ne c = inr ((c.in-Some.grant.now, c.in-Claim.named), refl, (c.in-Some.ensures, c.in-Claim.is), search rules)
