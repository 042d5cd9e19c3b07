-- What grants hang on beside nodes: their grains, the accounts that they need to be admins, and the moments at which they end.
use Rattle.std.specs.Prelude.{◌≡◌, List, Option, Some, None, Contains}
use Rattle.std.specs.Global.{Vec}
use Rattle.host_base.specs.declared.ids.GrantId.{GrantId}
use Rattle.share_graph.specs.declared.grants.Grant.{Grant}
use Rattle.share_graph.specs.declared.grants.Need.{Need}
use Rattle.share_graph.specs.declared.grants.Need.TheVariants as need
use Rattle.share_graph.specs.declared.state.Tables.{Tables}
use Rattle.share_graph.specs.Rows.{IsGrant}
use Rattle.region_access.specs.contracts.tie.TieOrd.TheImpl as tie_order
use Rattle.region_access.specs.declared.tie.Tie.{Tie}
use Rattle.region_access.specs.declared.tie.Tie.TheVariants as tie
use Rattle.region_access.specs.Indexed.{listed_in, IsIndexBy}

-- the grant is on the grain, needs the account to be an admin, or ends at the moment
abbrev pub IsTied : Tie → Grant → Type 0
IsTied (tie.Grain n) grant = grant.grain ≡ n
IsTied (tie.Admin a) grant = Contains grant.needs (need.UserIsAdmin a)
IsTied (tie.End end) grant = grant.expires ≡ Some end

-- the grant of that number is there, and hangs on the tie
abbrev pub HangsOn : Tables → Tie → GrantId → Type 0
HangsOn t on g = (grant : Grant) × IsGrant t g grant × IsTied on grant

-- the index has, for each grain, the grants on it, for each account, the grants that need it to be an admin, and, for each
-- moment, the grants that end then, each once
abbrev pub IsTiesOf : Tables → (Tie → List GrantId) → Type 0
IsTiesOf t tied = IsIndexBy (HangsOn t) tied

-- the grants that hang on a tie, in a table of them
abbrev pub tied_in : List (Tie × Vec GrantId) → Tie → List GrantId
tied_in entries on = listed_in tie_order.ghosts.cmp entries on

-- what a need has its grant hang on
abbrev pub tie_of : Need → Option Tie
tie_of (need.UserIsAdmin a) = Some (tie.Admin a)
tie_of (need.TokenValid h) = None
tie_of (need.PermissionsHeld holder set) = None

-- a need of the list has its grant hang on the tie
abbrev pub IsAskedBy : List Need → Tie → Type 0
IsAskedBy needs on = (q : Need) × Contains needs q × (tie_of q ≡ Some on)
