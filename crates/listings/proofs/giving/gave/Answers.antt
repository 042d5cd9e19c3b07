use Rattle.std.proofs.Common.{◌≡◌, ◌∙◌, ℕ, ap, sym}
use Rattle.share_graph.specs.declared.grants.Giver.TheVariants as giver
use Rattle.listings.specs.Terms.{AccountId, Grant}
use Rattle.listings.proofs.Running.{equal_numbers, equal_test, given_by}
use Rattle.listings.proofs.giving.gave.Goals as goal

pub returns-in-Account : goal.returns-in-Account
returns-in-Account c = (
  λ yes. (c.in-Some.grant.now, sym c.in-Some.ensures, c.in-Account.is ∙ ap (λ (n : ℕ). let a : AccountId = record { 0 = n } in giver.Account a) (equal_numbers c.in-Account.giver.0 c.args.account.0 (sym c.eq.ensures ∙ yes))),
  λ (grant, is, by). (
      let same : grant ≡ c.in-Some.grant.now = cc (is, c.in-Some.ensures) in
      c.eq.ensures ∙ equal_test c.in-Account.giver.0 c.args.account.0 (given_by c.in-Account.giver c.args.account (sym c.in-Account.is ∙ ap (λ (g : Grant). g.giver) (sym same) ∙ by))),
)
