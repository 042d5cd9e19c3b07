-- What there is to know of commands beside their rows.
use Rattle.std.specs.Prelude.{◌≡◌, Bool, true, false, Option, Some, None, is_some}
use Rattle.desk_orders.specs.Terms.{ByBearer, ByEither, ByLogin, ByRun, Caller, Command, is_handle, IsSoundManifest, NamesGrain, SecretUse}
use Rattle.desk_orders.specs.declared.order.Command.TheVariants as command
use Rattle.desk_orders.specs.declared.secrets.SecretUse.TheVariants as secret_uses

-- a caller's command
pub record Asked : Type 0 where
  pub caller : Caller
  pub command : Command

-- what the secret is for that a command draws: the key of a session, the token of a run, or a token that is handed out
abbrev pub secret_use : Command → Option SecretUse
secret_use (command.OpenSession n tab) = Some secret_uses.Session
secret_use (command.StartRun n) = Some secret_uses.Run
secret_use (command.AddAccount handle name) = Some secret_uses.Token
secret_use (command.RenewLogin a) = Some secret_uses.Token
secret_use (command.MakeToken n for_sharing assignment needs expires) = Some secret_uses.Token
secret_use (command.Child for_sharing assignment needs expires) = Some secret_uses.Token
secret_use (command.Choose n offer query assignment) = Some secret_uses.Token
secret_use (command.Save handle label) = Some secret_uses.Token
secret_use _ = None

-- whether a command needs a secret
abbrev pub draws : Command → Bool
draws c = is_some (secret_use c)

-- whether a command is a question: it is answered by a listing, and changes nothing
abbrev pub lists : Command → Bool
lists (command.Options n query) = true
lists (command.Access n) = true
lists (command.Preview g) = true
lists (command.Why n a) = true
lists (command.Missing c g) = true
lists (command.List subject) = true
lists _ = false

-- A command is stated as its form asks: by the caller of its row, which is a login where nothing else is said; a handle
-- has the form of one, a manifest is sound, and a grain is named to run or to be opened exactly by a login.
abbrev pub IsStated : Caller → Command → Type 0
IsStated who (command.AddAccount handle name) = ByLogin who × (is_handle handle ≡ true)
IsStated who (command.AddApp manifest) = ByLogin who × IsSoundManifest manifest
IsStated who (command.UpgradeApp p manifest) = ByLogin who × IsSoundManifest manifest
IsStated who (command.Child for_sharing assignment needs expires) = ByBearer who
IsStated who (command.StartRun n) = NamesGrain who n
IsStated who (command.OpenSession n tab) = NamesGrain who n
IsStated who (command.CloseSession n) = ByEither who
IsStated who (command.Claim token permissions) = ByRun who
IsStated who (command.Save handle label) = ByRun who
IsStated who (command.Restore token) = ByRun who
IsStated who (command.DropSaved token) = ByRun who
IsStated who _ = ByLogin who
