-- The clues of rows: one for each key that they are looked up by. As what they count, and under which row they stand.
use Rattle.std.specs.Prelude.{◌*◌, ◌+◌, ℕ, Bool, false, Option, Some, None, option_map, if◌then◌else◌}
use Rattle.host_base.specs.declared.digest.Digest.{Digest}
use Rattle.host_base.specs.declared.ids.AccountId.{AccountId}
use Rattle.host_base.specs.declared.ids.GrainId.{GrainId}
use Rattle.host_base.specs.declared.ids.GrantId.{GrantId}
use Rattle.host_base.specs.declared.ids.RunId.{RunId}
use Rattle.row_index.specs.Clues.{text_clue, number_clue}
use Rattle.row_index.specs.declared.clues.Clues.{Clues}
use Rattle.row_index.specs.declared.ways.Link.{Link}
use Rattle.share_graph.specs.declared.grants.Giver.{Giver}
use Rattle.share_graph.specs.declared.grants.Giver.TheVariants as giver
use Rattle.share_graph.specs.declared.grants.Grant.{Grant}
use Rattle.share_graph.specs.declared.grants.Target.{Target}
use Rattle.share_graph.specs.declared.grants.Target.TheVariants as target
use Rattle.share_graph.specs.declared.rows.Account.{Account}
use Rattle.share_graph.specs.declared.rows.Saved.{Saved}
use Rattle.share_graph.specs.declared.sessions.Handle.{Handle}
use Rattle.share_graph.specs.declared.sessions.Root.{Root}
use Rattle.share_graph.specs.declared.sessions.Root.TheVariants as root
use Rattle.share_graph.specs.declared.sessions.Run.{Run}
use Rattle.share_graph.specs.declared.sessions.Session.{Session}

-- a row with no keys
abbrev pub no_clues : Clues
no_clues = record { first = None; second = None; third = None }

-- a digest
abbrev pub digest_clue : Digest → ℕ
digest_clue d = text_clue d.0

-- the live run of a grain
abbrev pub live_clue : GrainId → ℕ
live_clue n = number_clue 1 n.0 0

-- an unrevoked share from a grant to an account; what was given from a grant
abbrev pub share_clue : GrantId → AccountId → ℕ
share_clue g a = number_clue 2 g.0 a.0

abbrev pub given_clue : GrantId → ℕ
given_clue g = number_clue 3 g.0 0

-- the handle of a run by its number, and by its grant
abbrev pub handle_clue : RunId → ℕ → ℕ
handle_clue r num = number_clue 4 r.0 num

abbrev pub held_clue : RunId → GrantId → ℕ
held_clue r g = number_clue 5 r.0 g.0

-- an account is found by its login and by its handle
abbrev pub account_clues : Account → Clues
account_clues account = record { first = Some (digest_clue account.login); second = Some (text_clue account.handle); third = None }

abbrev pub share_of : Giver → Target → Bool → Option ℕ
share_of (giver.Grant g) (target.User a) revoked = if revoked then None else Some (share_clue g a)
share_of (giver.Grant g) (target.Bearer for_sharing) revoked = None
share_of (giver.Grant g) (target.Claim n) revoked = None
share_of (giver.Grant g) (target.Grain n) revoked = None
share_of (giver.Account a) to revoked = None
share_of (giver.Site by tag item) to revoked = None

abbrev pub given_of : Giver → Option ℕ
given_of (giver.Account a) = None
given_of (giver.Grant g) = Some (given_clue g)
given_of (giver.Site by tag item) = None

-- a grant by its token, as a live share, and by what it was given from
abbrev pub grant_clues : Grant → Clues
grant_clues grant = record { first = option_map digest_clue grant.digest; second = share_of grant.giver grant.target grant.revoked; third = given_of grant.giver }

-- a saved reference by its token, a session by its key
abbrev pub saved_clues : Saved → Clues
saved_clues saved = record { first = Some (digest_clue saved.digest); second = None; third = None }

abbrev pub session_clues : Session → Clues
session_clues session = record { first = Some (digest_clue session.digest); second = None; third = None }

-- a run by its token, and by its grain while it isn't stopped
abbrev pub run_clues : Run → Clues
run_clues run = record { first = Some (digest_clue run.digest); second = if run.stopped then None else Some (live_clue run.grain); third = None }

abbrev pub handle_clues : Handle → Clues
handle_clues handle = record { first = Some (handle_clue handle.run handle.num); second = Some (held_clue handle.run handle.grant); third = None }

-- an open session counts for its root, and a handle for its run
abbrev pub root_mark : Root → ℕ
root_mark (root.Account a) = 2 * a.0
root_mark (root.Grant g) = 2 * g.0 + 1

abbrev pub session_mark : Session → Option ℕ
session_mark session = if session.closed then None else Some (root_mark session.root)

abbrev pub handle_mark : Handle → Option ℕ
handle_mark handle = Some handle.run.0

-- a row that stands under none
abbrev pub no_link : Link
no_link = record { parent = None; flagged = false }

-- a grant stands under the grant that gave it
abbrev pub parent_of : Giver → Option ℕ
parent_of (giver.Account a) = None
parent_of (giver.Grant g) = Some g.0
parent_of (giver.Site by tag item) = None

-- the grant is a bearer's, marked for sharing
abbrev pub is_for_sharing : Target → Bool
is_for_sharing (target.Bearer for_sharing) = for_sharing
is_for_sharing (target.User a) = false
is_for_sharing (target.Claim h) = false
is_for_sharing (target.Grain h) = false

abbrev pub grant_link : Grant → Link
grant_link grant = record { parent = parent_of grant.giver; flagged = is_for_sharing grant.target }
