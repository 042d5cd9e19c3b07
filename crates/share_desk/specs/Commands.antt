-- THE COMMANDS on shares, links and tokens. Each definition reads like its row of the table of commands.
use Rattle.std.specs.Prelude.{◌≡◌, ℕ, Bool, List, [], Option, None, true}
use Rattle.desk_base.specs.Terms.{AccountId, Assignment, Caller, Digest, Giver, GrainId, Grant, GrantId, IsBearerOf}
use Rattle.desk_base.specs.Terms.{Need, some◌of◌or◌then◌, State, Tables, Target, unless◌then◌else◌, when◌then◌else◌}
use Rattle.host_base.specs.declared.verdict.Denial.TheVariants.{UnknownKey}
use Rattle.share_graph.specs.declared.event.Event.TheVariants.{GrantRevoked}
use Rattle.share_graph.specs.declared.facts.Node.TheVariants as node
use Rattle.share_graph.specs.declared.grants.Giver.TheVariants as giver
use Rattle.share_graph.specs.declared.grants.Target.TheVariants as target
use Rattle.share_graph.specs.declared.refusal.Refusal.TheVariants.{NotGiver, BadParent, SelfShare}
use Rattle.share_graph.specs.Keys.{IsShareFrom}
use Rattle.desk_base.specs.Granting.{all_access, grant_step, token_step}
use Rattle.desk_base.specs.Limits.{adds}
use Rattle.desk_base.specs.Made.{nothing_made, shown_grant}
use Rattle.desk_base.specs.Steps.{Step, Refuses, Keeps, Makes, Plain, denies}
use Rattle.desk_base.specs.Wording.{by_account, known_account, known_grain, by_bearer, known_grant, access◌of◌then◌, role◌on◌of◌then◌, needs◌of◌then◌, lasts◌of◌then◌, keeps◌of◌showing◌else◌}
use Rattle.share_desk.specs.Rows.{MayRevoke}

-- a grant is added; whoever bears a token has one
abbrev pub give_step : Tables → GrainId → Giver → Target → Assignment → List Need → Option ℕ → Step
give_step t n from (target.Bearer for_sharing) assignment wanted expires = token_step t n from (target.Bearer for_sharing) assignment wanted expires
give_step t n from to assignment wanted expires = grant_step t n from to assignment wanted expires

-- what whoever gives comes to, once it is known who gives, on which grain, and to whom: role; needs; lasts
abbrev pub Gives : State → GrainId → Giver → Target → Assignment → List Need → Option ℕ → Step → Type 0
Gives s n from to assignment wanted expires =
    role assignment on n of s then
    needs wanted of s then
    lasts expires of s then
    adds s (give_step s.tables n from to assignment wanted expires)

-- share: Unknown(3, n); Unknown(1, to); access(n); SelfShare where `to` is the caller; role; needs; lasts
abbrev pub Share : State → Caller → GrainId → AccountId → Assignment → List Need → Option ℕ → Step → Type 0
Share s who n to assignment wanted expires =
    by_account s who λ from.
    known_grain s n λ grain.
    known_account s to λ account.
    access (node.User n from.num) of s then
    when to ≡ from.num then (Refuses SelfShare) else
    Gives s n (giver.Account from.num) (target.User to) assignment wanted expires

-- make_token: Unknown(3, n); access(n); role; needs; lasts
abbrev pub MakeToken : State → Caller → GrainId → Bool → Assignment → List Need → Option ℕ → Step → Type 0
MakeToken s who n for_sharing assignment wanted expires =
    by_account s who λ from.
    known_grain s n λ grain.
    access (node.User n from.num) of s then
    Gives s n (giver.Account from.num) (target.Bearer for_sharing) assignment wanted expires

-- child: role; needs; lasts, on the grain of the caller's grant
abbrev pub Child : State → Caller → Bool → Assignment → List Need → Option ℕ → Step → Type 0
Child s who for_sharing assignment wanted expires =
    by_bearer s who λ from.
    Gives s from.grain (giver.Grant from.num) (target.Bearer for_sharing) assignment wanted expires

-- redeem: Denied(UnknownKey) where no bearer's grant has the digest; BadParent where it isn't for sharing; Denied of the first step
-- that is missing for its entry; same where the caller has an unrevoked share from it, the one of the smallest number
abbrev pub Redeem : State → Caller → Digest → Step → Type 0
Redeem s who token =
    by_account s who λ account.
    some IsBearerOf token of s.tables.grants or denies UnknownKey then λ link.
    unless link.target ≡ target.Bearer true then (Refuses (BadParent link.num)) else
    access (node.Grant link.num) of s then
    keeps IsShareFrom link.num account.num of s.tables.grants showing (λ (share : Grant). shown_grant share.num.0) else
    adds s (grant_step s.tables link.grain (giver.Grant link.num) (target.User account.num) all_access [] None)

-- revoke: Unknown(4, g); NotGiver(g) where the caller is neither the owner of g's grain nor its root maker nor its recipient; same
-- where it is revoked
abbrev pub Revoke : State → Caller → GrantId → Step → Type 0
Revoke s who g =
    by_account s who λ account.
    known_grant s g λ grant.
    unless MayRevoke s.tables account.num g grant then (Refuses (NotGiver g)) else
    when grant.revoked ≡ true then (Keeps nothing_made) else
    adds s (Makes (Plain (GrantRevoked g)) nothing_made)
