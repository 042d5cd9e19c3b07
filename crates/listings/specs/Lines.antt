-- What the lines of a list say, and which lines there are.
use Rattle.std.specs.Prelude.{◌≡◌, ◌↔◌, ◌⊎◌, ◌<◌, ◌^◌, ℕ, List, [], ◌∷◌, true, length, map}
use Rattle.std.specs.List.{AllZip}
use Rattle.share_graph.specs.declared.facts.Fact.TheVariants.{Open, Perm}
use Rattle.share_graph.specs.declared.facts.Node.TheVariants as node
use Rattle.share_graph.specs.declared.grants.Giver.TheVariants as giver
use Rattle.share_graph.specs.declared.grants.Target.TheVariants as target
use Rattle.listings.specs.declared.line.GivenTo.TheVariants as to
use Rattle.listings.specs.Pages.{IsPage, page_behind}
use Rattle.listings.specs.Terms.{Account, AccountId, AccountLine, App, AppLine, AreNamesOf, Caller, GivenTo, Grain, GrainId, GrainLine, Grant, GrantId, GrantLine, Has, Holds, IsAccount, IsAppOf, IsCaller, IsGrain, IsGrant, IsLiveRun, IsNoneOf, IsPassing, PermSet, Role, RoleLine, secret_of, State, Tables, Target}

-- the account, without its login
abbrev pub IsAccountLine : Account → AccountLine → Type 0
IsAccountLine account line =
    line ≡ record { account = account.num; handle = account.handle; name = account.name; admin = account.admin; enabled = account.enabled }

-- THE ACCOUNTS behind a number
abbrev pub AreAccountLines : Tables → ℕ → List AccountLine → Type 0
AreAccountLines t after lines = AllZip IsAccountLine (page_behind after t.accounts) lines

-- THE CALLER'S OWN ACCOUNT, alone
abbrev pub IsOwnLine : State → Caller → List AccountLine → Type 0
IsOwnLine s who lines = (account : Account) × IsCaller s (secret_of who) account × AllZip IsAccountLine (account ∷ []) lines

abbrev pub role_line : Role → RoleLine
role_line role = record { title = role.title; obsolete = role.obsolete }

-- the application, with the names of its permissions and its roles, each at its place
abbrev pub IsAppLine : App → AppLine → Type 0
IsAppLine app line = line ≡ record {
  app = app.num;
  title = app.manifest.title;
  version = app.manifest.version;
  permissions = map (λ permission. permission.name) app.manifest.permissions;
  roles = map role_line app.manifest.roles;
}

-- THE APPLICATIONS behind a number
abbrev pub AreAppLines : Tables → ℕ → List AppLine → Type 0
AreAppLines t after lines = AllZip IsAppLine (page_behind after t.apps) lines

-- The grain of a number, with what the account holds on it.
pub record IsGrainLine (s : State) (a : AccountId) (n : GrainId) (line : GrainLine) : Type 0 where
  pub grain : Grain
  pub is_row : IsGrain s.tables n grain
  pub num : line.grain ≡ n
  pub app : line.app ≡ grain.app
  pub title : line.title ≡ grain.title
  pub owner : (owner : Account) × IsAccount s.tables grain.owner owner × (line.owner ≡ owner.handle)
  pub held : PermSet
  pub exact : (p : ℕ) → Has held p ↔ Holds s.tables (node.User n a) (Perm p)
  pub names : (app : App) × IsAppOf s.tables n app × AreNamesOf app held line.permissions
  pub running : line.running ≡ true ↔ (IsNoneOf s.runs (IsLiveRun n) → ⊥)

-- the account enters the grain of a number
abbrev pub Enters : Tables → AccountId → ℕ → Type 0
Enters t a n = (n < 2 ^ 32) × Holds t (node.User (record { 0 = n }) a) Open

-- THE GRAINS that the caller enters, behind a number
abbrev pub AreGrainLines : State → Caller → ℕ → List GrainLine → Type 0
AreGrainLines s who after lines =
    (account : Account) × IsCaller s (secret_of who) account
    × ((page : List ℕ) × IsPage (Enters s.tables account.num) after page × AllZip (λ n. IsGrainLine s account.num (record { 0 = n })) page lines)

-- whom a grant goes to
abbrev pub IsGivenTo : Tables → Target → GivenTo → Type 0
IsGivenTo t (target.User a) shown = (account : Account) × IsAccount t a account × (shown ≡ to.Account account.handle)
IsGivenTo t (target.Bearer for_sharing) shown = shown ≡ to.Bearer for_sharing
IsGivenTo t (target.Claim n) shown = shown ≡ to.Grain n
IsGivenTo t (target.Grain n) shown = shown ≡ to.Grain n

-- The grant of a number, with how it may end.
pub record IsGrantLine (t : Tables) (g : GrantId) (line : GrantLine) : Type 0 where
  pub passing : IsPassing t g line.passing
  pub to : IsGivenTo t passing.grant.target line.to
  pub needs : line.needs ≡ length passing.grant.needs
  pub expires : line.expires ≡ passing.grant.expires
  pub revoked : line.revoked ≡ passing.grant.revoked

-- the account gave the grant
abbrev pub Gave : Tables → AccountId → GrantId → Type 0
Gave t a g = (grant : Grant) × IsGrant t g grant × (grant.giver ≡ giver.Account a)

-- the grant of a number is on the grain
abbrev pub IsOnGrain : Tables → GrainId → ℕ → Type 0
IsOnGrain t n g = (grant : Grant) × IsGrant t (record { 0 = g }) grant × (grant.grain ≡ n)

-- the account may see the grant of a number on the grain: it owns the grain, or gave the grant
abbrev pub MaySee : Tables → AccountId → GrainId → ℕ → Type 0
MaySee t a n g =
    IsOnGrain t n g × (((grain : Grain) × IsGrain t n grain × (grain.owner ≡ a)) ⊎ Gave t a (record { 0 = g }))

-- THE GRANTS on the grain that the caller may see, behind a number
abbrev pub AreGrantLines : State → Caller → GrainId → ℕ → List GrantLine → Type 0
AreGrantLines s who n after lines =
    (account : Account) × IsCaller s (secret_of who) account
    × ((page : List ℕ) × IsPage (MaySee s.tables account.num n) after page × AllZip (λ g. IsGrantLine s.tables (record { 0 = g })) page lines)
