-- Tables whose rows carry their numbers.
use Rattle.share_graph.specs.declared.state.Tables.{Tables}
use Rattle.share_graph.specs.WellFormed.{AreNumbered}

-- Each row of the tables carries the number of its place among those of its kind, from 1.
pub record TablesAreNumbered (t : Tables) : Type 0 where
  pub accounts : AreNumbered (λ account. account.num.0) t.accounts
  pub apps : AreNumbered (λ app. app.num.0) t.apps
  pub grains : AreNumbered (λ grain. grain.num.0) t.grains
  pub grants : AreNumbered (λ grant. grant.num.0) t.grants
  pub saved : AreNumbered (λ saved. saved.num.0) t.saved
