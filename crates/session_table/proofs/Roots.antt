-- Whoever stands behind a good key can hold facts.
use Rattle.std.proofs.Common.{◌≡◌, Contains, Option, sym, subst}
use Rattle.std.proofs.lemmas.List.Elements.{All-contains}
use Rattle.host_base.specs.declared.ids.GrainId.{GrainId}
use Rattle.host_base.specs.declared.ids.GrantId.{GrantId}
use Rattle.host_base.specs.declared.permit.TabMark.{TabMark}
use Rattle.share_graph.specs.declared.grants.Grant.{Grant}
use Rattle.share_graph.specs.declared.grants.Target.{Target}
use Rattle.share_graph.specs.declared.grants.Target.TheVariants as target
use Rattle.share_graph.specs.declared.sessions.Handle.{Handle}
use Rattle.share_graph.specs.declared.sessions.Root.{Root}
use Rattle.share_graph.specs.declared.sessions.Root.TheVariants as root
use Rattle.share_graph.specs.declared.sessions.Session.{Session}
use Rattle.share_graph.specs.declared.state.State.{State}
use Rattle.share_graph.specs.declared.state.Tables.{Tables}
use Rattle.share_graph.specs.Coherent.{IsCoherent}
use Rattle.share_graph.specs.Keys.{IsBearer}
use Rattle.share_graph.specs.Known.{HasGrain}
use Rattle.share_graph.specs.Parents.{IsNoUser, IsOwnNode}
use Rattle.share_graph.specs.Rows.{IsGrant}
use Rattle.share_graph.specs.WellFormed.{IsWellFormed, IsRootedSession, IsRootedHandle, MayRoot}
use Rattle.session_table.specs.Behind.{IsBehind}
use Rattle.session_table.specs.Standing.{behind_grant, behind_session}

-- a bearer is no account
pub bearer_is_no_user : (to : Target) → IsBearer to → IsNoUser to
bearer_is_no_user (target.Bearer for_sharing) is = tt
bearer_is_no_user (target.User a) is = absurd is
bearer_is_no_user (target.Claim h) is = absurd is
bearer_is_no_user (target.Grain h) is = absurd is

-- behind a grant to no account
pub grant_is_behind : (t : Tables) → IsCoherent t → (g : GrantId) (grant : Grant) → IsGrant t g grant → IsNoUser grant.target → IsBehind t (behind_grant g grant)
grant_is_behind t coherent g grant is own = record {
  grain = (coherent.grants g grant is).knows.grain;
  node = record { grant = grant; is_row = is; no_user = own };
  root = (grant, is);
}

-- behind a session
root_is_behind : (t : Tables) (n : GrainId) (r : Root) (tab : Option TabMark) → HasGrain t n → MayRoot t n r → IsBehind t (record { grain = n; root = r; tab = tab })
root_is_behind t n (root.Account a) tab grain may = record { grain = grain; node = (grain, may); root = may }
root_is_behind t n (root.Grant g) tab grain (grant, is, on, bearer) = record {
  grain = grain;
  node = record { grant = grant; is_row = is; no_user = bearer_is_no_user grant.target bearer };
  root = (grant, is);
}

pub session_is_behind : (s : State) → IsWellFormed s → (session : Session) → Contains s.sessions session → IsBehind s.tables (behind_session session)
session_is_behind s ok session c =
    let rooted = All-contains (IsRootedSession s.tables) s.sessions session ok.rooted.sessions c in
    root_is_behind s.tables session.grain session.root _ rooted.grain rooted.root

-- a handle's grant is there
pub handle_is_rooted : (s : State) → IsWellFormed s → (handle : Handle) → Contains s.handles handle → IsRootedHandle s handle
handle_is_rooted s ok handle c = All-contains (IsRootedHandle s) s.handles handle ok.rooted.handles c

-- a grant that a grain claimed goes to no account
pub claimed_is_no_user : (h : GrainId) (to : Target) → to ≡ target.Grain h → IsNoUser to
claimed_is_no_user h to is = subst IsNoUser (sym is) tt

-- and so is a node of its own
pub handle_is_node : (s : State) → IsWellFormed s → (handle : Handle) → Contains s.handles handle → IsOwnNode s.tables handle.grant
handle_is_node s ok handle c =
    let rooted = handle_is_rooted s ok handle c in
    record { grant = rooted.grant; is_row = rooted.is_grant; no_user = claimed_is_no_user rooted.run.grain rooted.grant.target rooted.claimed }
