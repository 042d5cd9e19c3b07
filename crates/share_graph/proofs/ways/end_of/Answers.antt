use Rattle.std.proofs.Common.{◌≡◌, Some, refl, sym, subst}
use Rattle.share_graph.specs.declared.grants.Giver.{Giver}
use Rattle.share_graph.specs.declared.ways.Origin.TheVariants as origin
use Rattle.share_graph.specs.Rows.{row}
use Rattle.share_graph.specs.Ways.{IsEndOf}
use Rattle.share_graph.proofs.ways.end_of.Goals as goal

pub returns-in-Account : goal.returns-in-Account
returns-in-Account c = record {
  grant = c.in-Some.grant.now;
  is_row = subst (λ grants. row grants c.args.root ≡ Some c.in-Some.grant.now) c.as_slice.ensures (sym c.in-Some.ensures);
  is_end = subst (λ (from : Giver). IsEndOf from (origin.Account c.in-Account.account)) (sym c.in-Account.is) refl;
}

pub returns-in-Site : goal.returns-in-Site
returns-in-Site c = record {
  grant = c.in-Some.grant.now;
  is_row = subst (λ grants. row grants c.args.root ≡ Some c.in-Some.grant.now) c.as_slice.ensures (sym c.in-Some.ensures);
  is_end = subst (λ (from : Giver). IsEndOf from (origin.Site c.in-Site.by c.in-Site.tag c.in-Site.item)) (sym c.in-Site.is) refl;
}
