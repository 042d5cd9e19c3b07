-- The link by which a curator lists a grain, in the rows of the question and of the command.
use Rattle.std.proofs.Common.{◌≡◌, None, inl, inr, ap}
use Rattle.desk_base.specs.Made.{nothing_made}
use Rattle.desk_base.specs.Steps.{Keeps, Refuses, Step}
use Rattle.desk_base.specs.Terms.{Account, AccountId, Caller, GrainId, GrantId, Grant, Refusal, State, unless◌then◌else◌}
use Rattle.desk_base.specs.Wording.{known_account, known_grant}
use Rattle.share_graph.specs.declared.grants.Giver.TheVariants as giver
use Rattle.share_graph.specs.declared.refusal.Refusal.TheVariants.{BadParent, NotGiver}
use Rattle.collections.specs.Linking.{IsLinkOf, IsNoLinkOf}
use Rattle.share_desk.specs.Commands.{Share}
use Rattle.collections.specs.Members.{IsBearers, IsOwed, member_needs}

-- what the row of the command comes to, once its link is known
abbrev pub Gives : State → Caller → GrainId → GrantId → AccountId → Account → Grant → Step → Type 0
Gives s who c g u account link =
    known_account s u λ member.
    unless IsOwed s.tables c g link account.num u then (Keeps nothing_made) else
    Share s who link.grain u link.assignment (member_needs c g u) None

-- what a row comes to, once the account that calls has access to the collection
abbrev pub ByLink : State → GrantId → (Grant → Step → Type 0) → Account → Step → Type 0
ByLink s g Rest account =
    known_grant s g λ link.
    unless IsBearers link then (Refuses (BadParent g)) else
    unless link.giver ≡ giver.Account account.num then (Refuses (NotGiver g)) else
    Rest link

module _ (s : State) (g : GrantId) (Rest : Grant → Step → Type 0) (account : Account) where
  pub link_listed : (link : Grant) (step : Step) → IsLinkOf s.tables account.num g link → Rest link step → ByLink s g Rest account step
  link_listed link step is rest = inr (link, is.is_row, inr (is.bearers, inr (is.given, rest)))

  pub link_refused : (r : Refusal) → IsNoLinkOf s.tables account.num g r → ByLink s g Rest account (Refuses r)
  link_refused r (inl (same, never)) = inl (ap Refuses same, never)
  link_refused r (inr (inl (link, same, is, other))) = inr (link, is, inl (ap Refuses same, other))
  link_refused r (inr (inr (link, same, is, bearers, other))) = inr (link, is, inr (bearers, inl (ap Refuses same, other)))
