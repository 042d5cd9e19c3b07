-- What the machine makes of an order: by the row of its command. Nothing above this definition speaks of a command.
use Rattle.std.specs.Prelude.{Bool, true, false, Option}
use Rattle.desk_orders.specs.Terms.{Access, AddAccount, AddApp, Caller, Child, Choose, Claim, CloseSession, Collect, Command, DropSaved, Lists, MakeToken, Missing, NewGrain, OpenSession, Options, Preview, Redeem, RenewLogin, Restore, Revoke, Save, SetAdmin, SetEnabled, Share, StartRun, State, Step, StopRun, Trash, UpgradeApp, Why}
use Rattle.desk_orders.specs.declared.order.Command.TheVariants as command
use Rattle.desk_orders.specs.Commands.{Asked}

-- THE ROW of a command, with what the sites have of the item that it chooses
abbrev pub RowBy : State → Option Bool → Caller → Command → Step → Type 0
RowBy s found who (command.AddAccount handle name) = AddAccount s who handle name
RowBy s found who (command.SetAdmin a on) = SetAdmin s who a on
RowBy s found who (command.SetEnabled a on) = SetEnabled s who a on
RowBy s found who (command.RenewLogin a) = RenewLogin s who a
RowBy s found who (command.AddApp manifest) = AddApp s who manifest
RowBy s found who (command.UpgradeApp p manifest) = UpgradeApp s who p manifest
RowBy s found who (command.NewGrain app title) = NewGrain s who app title
RowBy s found who (command.Trash n) = Trash s who n true
RowBy s found who (command.Untrash n) = Trash s who n false
RowBy s found who (command.Share n to assignment needs expires) = Share s who n to assignment needs expires
RowBy s found who (command.MakeToken n for_sharing assignment needs expires) =
    MakeToken s who n for_sharing assignment needs expires
RowBy s found who (command.Child for_sharing assignment needs expires) = Child s who for_sharing assignment needs expires
RowBy s found who (command.Redeem token) = Redeem s who token
RowBy s found who (command.Revoke g) = Revoke s who g
RowBy s found who (command.StartRun n) = StartRun s who n
RowBy s found who (command.StopRun n) = StopRun s who n
RowBy s found who (command.OpenSession n tab) = OpenSession s who n tab
RowBy s found who (command.CloseSession n) = CloseSession s who n
RowBy s found who (command.Options n query) = Options s who n
RowBy s found who (command.Choose n offer query assignment) = Choose s who n offer query assignment found
RowBy s found who (command.Claim token permissions) = Claim s who token permissions
RowBy s found who (command.Save handle label) = Save s who handle label
RowBy s found who (command.Restore token) = Restore s who token
RowBy s found who (command.DropSaved token) = DropSaved s who token
RowBy s found who (command.Access n) = Access s who n
RowBy s found who (command.Preview g) = Preview s who g
RowBy s found who (command.Why n a) = Why s who n a
RowBy s found who (command.Missing c g) = Missing s who c g
RowBy s found who (command.List subject) = Lists s who subject
RowBy s found who (command.Collect c g u) = Collect s who c g u

unfoldable pub RowOf : State → Option Bool → Asked → Step → Type 0
RowOf s found order = RowBy s found order.caller order.command
