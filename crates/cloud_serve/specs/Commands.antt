-- What the routes of the desk and of running grains, and their bodies, ask for.
use Rattle.std.specs.Prelude.{ℕ, true, false, List, Option, Some, None, Result, Ok, Err}
use Rattle.cloud_serve.specs.Terms.{account_body, AccountId, after_body, BodyFault, Caller, child_body, choose_body, claim_body, collect_body, Command, Digest, grain_body, GrainId, grant_body, GrantId, manifest_body, mark_body, plain_body, query_body, redeem_body, Route, save_body, share_body, Showing, Subject, tab_body, token_body, why_body}
use Rattle.share_graph.specs.declared.desk.Caller.TheVariants as caller
use Rattle.desk_orders.specs.declared.order.Command.TheVariants as command
use Rattle.listings.specs.declared.asking.Subject.TheVariants as subject
use Rattle.front_http.specs.declared.route.Route.TheVariants as route
use Rattle.cloud_serve.specs.declared.showing.Showing.TheVariants as showing

-- what is listed, behind this number
abbrev pub behind : Subject → ℕ → Subject
behind subject.Own after = subject.Own
behind (subject.Accounts a) after = subject.Accounts (record { 0 = after })
behind (subject.Apps p) after = subject.Apps (record { 0 = after })
behind (subject.Entered n) after = subject.Entered (record { 0 = after })
behind (subject.Given n g) after = subject.Given n (record { 0 = after })

-- a caller wants one command
abbrev pub wants : Caller → Command → Showing
wants who asked = showing.Wants (record { caller = who; command = asked })

-- A caller wants to open a grain: a run of it is to start, where none is live, and then a session.
abbrev pub opens : Caller → Option GrainId → Option ℕ → Showing
opens who n tab =
    showing.Opens (record { caller = who; command = command.StartRun n })
    (record { caller = who; command = command.OpenSession n tab })

-- a curator wants a member's share, or, where none is named, those of all members
abbrev pub collects : Digest → GrainId → GrantId → Option AccountId → Showing
collects who c g (Some u) = wants (caller.Login who) (command.Collect c g u)
collects who c g None = showing.Collects (record { curator = who; collection = c; link = g })

-- what is made of what a body states
abbrev pub stating : {A : Type 0} → (A → Showing) → Result A BodyFault → Result Showing BodyFault
stating make (Ok x) = Ok (make x)
stating make (Err fault) = Err fault

-- a caller asks for the command that is made of what a body states
abbrev pub asks : {A : Type 0} → Caller → Result A BodyFault → (A → Command)
    → Option (Result Showing BodyFault)
asks who stated make = Some (stating (λ x. wants who (make x)) stated)

module _ (who : Digest) (body : List ℕ) where
  -- the account whose login has this digest, and the run whose token has it
  abbrev pub login : Caller
  login = caller.Login who

  abbrev pub run : Caller
  run = caller.Run who

  -- WHAT IS ASKED FOR by a route and this body, where the credential has this digest: of an account by its login, of a
  -- bearer, of either, or of a run by its token; or the fault of the body. It is none where the route shows a key.
  abbrev pub asked_at : Route → Option (Result Showing BodyFault)
  asked_at route.Accounts = asks login (account_body body) λ f. command.AddAccount f.handle f.name
  asked_at (route.AccountAdmin n) = asks login (mark_body body) (command.SetAdmin (record { 0 = n }))
  asked_at (route.AccountEnabled n) = asks login (mark_body body) (command.SetEnabled (record { 0 = n }))
  asked_at (route.AccountLogin n) = asks login (plain_body body) λ _. command.RenewLogin (Some (record { 0 = n }))
  asked_at route.Login = asks login (plain_body body) λ _. command.RenewLogin None
  asked_at route.Apps = asks login (manifest_body body) command.AddApp
  asked_at (route.AppUpgrade n) = asks login (manifest_body body) (command.UpgradeApp (record { 0 = n }))
  asked_at route.Grains = asks login (grain_body body) λ f. command.NewGrain f.app f.title
  asked_at (route.GrainTrash n) = asks login (plain_body body) λ _. command.Trash (record { 0 = n })
  asked_at (route.GrainUntrash n) = asks login (plain_body body) λ _. command.Untrash (record { 0 = n })
  asked_at (route.GrainShare n) =
      asks login (share_body body) λ f. command.Share (record { 0 = n }) f.to f.assignment f.needs f.expires
  asked_at (route.GrainLink n) =
      asks login (token_body body) λ f. command.MakeToken (record { 0 = n }) true f.assignment f.needs f.expires
  asked_at (route.GrainToken n) =
      asks login (token_body body) λ f. command.MakeToken (record { 0 = n }) false f.assignment f.needs f.expires
  asked_at (route.GrainOpen n) = Some (stating (opens login (Some (record { 0 = n }))) (tab_body body))
  asked_at (route.GrainWake n) = asks login (plain_body body) λ _. command.StartRun (Some (record { 0 = n }))
  asked_at (route.GrainStop n) = asks login (plain_body body) λ _. command.StopRun (record { 0 = n })
  asked_at route.Redeem = asks login (redeem_body body) command.Redeem
  asked_at (route.GrantRevoke n) = asks login (plain_body body) λ _. command.Revoke (record { 0 = n })
  asked_at (route.SessionClose n) =
      asks (caller.Either who) (plain_body body) λ _. command.CloseSession (record { 0 = n })
  asked_at route.Child =
      asks (caller.Bearer who) (child_body body) λ f. command.Child f.for_sharing f.assignment f.needs f.expires
  asked_at route.Open = Some (stating (opens (caller.Bearer who) None) (tab_body body))
  asked_at route.Wake = asks (caller.Bearer who) (plain_body body) λ _. command.StartRun None
  asked_at (route.GrainQuery n) = asks login (query_body body) (command.Options (record { 0 = n }))
  asked_at (route.GrainChoose n) =
      asks login (choose_body body) λ f. command.Choose (record { 0 = n }) f.offer f.query f.assignment
  asked_at (route.GrainAccess n) = asks login (plain_body body) λ _. command.Access (record { 0 = n })
  asked_at (route.GrainWhy n) = asks login (why_body body) (command.Why (record { 0 = n }))
  asked_at (route.GrainMissing n) = asks login (grant_body body) (command.Missing (record { 0 = n }))
  asked_at (route.GrainCollect n) =
      Some (stating (λ f. collects who (record { 0 = n }) f.link f.member) (collect_body body))
  asked_at (route.GrainShares n) =
      asks login (after_body body) λ after. command.List (subject.Given (record { 0 = n }) (record { 0 = after }))
  asked_at route.Me = asks login (plain_body body) λ _. command.List subject.Own
  asked_at route.Mine = asks login (after_body body) λ after. command.List (subject.Entered (record { 0 = after }))
  asked_at route.AccountsList = asks login (after_body body) λ after. command.List (subject.Accounts (record { 0 = after }))
  asked_at route.AppsList = asks login (after_body body) λ after. command.List (subject.Apps (record { 0 = after }))
  asked_at (route.GrantPreview n) = asks login (plain_body body) λ _. command.Preview (record { 0 = n })
  asked_at route.Claim = asks run (claim_body body) λ f. command.Claim f.token f.permissions
  asked_at route.Save = asks run (save_body body) λ f. command.Save f.handle f.label
  asked_at route.Restore = asks run (redeem_body body) command.Restore
  asked_at route.Drop = asks run (redeem_body body) command.DropSaved
  asked_at _ = None
