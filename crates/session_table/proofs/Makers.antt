-- The maker of a grant is there.
use Rattle.std.proofs.Common.{List, Option, Some, None, IfSome, subst, sym}
use Rattle.host_base.specs.declared.ids.AccountId.{AccountId}
use Rattle.host_base.specs.declared.ids.GrantId.{GrantId}
use Rattle.share_graph.specs.declared.grants.Giver.{Giver}
use Rattle.share_graph.specs.declared.grants.Grant.{Grant}
use Rattle.share_graph.specs.declared.state.Tables.{Tables}
use Rattle.share_graph.specs.declared.ways.Origin.{Origin}
use Rattle.share_graph.specs.Coherent.{IsCoherent}
use Rattle.share_graph.specs.Known.{HasAccount, KnowsGiver}
use Rattle.share_graph.specs.Ways.{IsWay, from_account, from_site, from_grant, maker_of, IsShownAs}

-- the account at the end of a way is there
maker_on_way : (t : Tables) → IsCoherent t → (g : GrantId) (way : List Grant) (end : Origin) → IsWay t g way end → HasAccount t (maker_of end)
maker_on_way t coherent g _ _ (from_account {grant = grant} is given) = subst (λ (from : Giver). KnowsGiver t from) given (coherent.grants g grant is).knows.giver
maker_on_way t coherent g _ _ (from_site {grant = grant} is given) = subst (λ (from : Giver). KnowsGiver t from) given (coherent.grants g grant is).knows.giver
maker_on_way t coherent g _ _ (from_grant {p = p} {way = way} {end = end} is given on) = maker_on_way t coherent p way end on

-- as whom a bearer is shown, that account is there
pub shown_is_there : (t : Tables) → IsCoherent t → (g : GrantId) (who : Option AccountId) → IsShownAs t g who → IfSome who (HasAccount t)
shown_is_there t coherent g None shown = tt
shown_is_there t coherent g (Some a) (end, w, is) = subst (λ (b : AccountId). HasAccount t b) (sym is) (maker_on_way t coherent g w.way end w.is_way)
