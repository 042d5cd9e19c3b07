-- What holds of the commands holds of orders: one line a command, and nothing above speaks of commands.
use Rattle.std.proofs.Common.{Option, Bool, true, false}
use Rattle.desk_base.specs.Terms.{Caller, IsOne, IsWellFormed, State}
use Rattle.desk_base.specs.Fitting.{RowFits}
use Rattle.account_desk.proofs.OneRows.{add_account_one, renew_login_one, set_admin_one, set_enabled_one, add_app_one, upgrade_app_one, new_grain_one, trash_one}
use Rattle.account_desk.proofs.FitRows.{add_account_fits, renew_login_fits, set_admin_fits, set_enabled_fits, add_app_fits, upgrade_app_fits, new_grain_fits, trash_fits}
use Rattle.session_desk.proofs.OneRows.{start_run_one, stop_run_one, open_session_one, close_session_one}
use Rattle.session_desk.proofs.FitRows.{start_run_fits, stop_run_fits, open_session_fits, close_session_fits}
use Rattle.share_desk.proofs.OneRows.{share_one, make_token_one, child_one, redeem_one, revoke_one}
use Rattle.share_desk.proofs.FitRows.{share_fits, make_token_fits, child_fits, redeem_fits, revoke_fits}
use Rattle.saved_refs.proofs.OneRow.{options_one}
use Rattle.saved_refs.proofs.OneRows.{choose_one, claim_one, save_one, restore_one, drop_saved_one}
use Rattle.saved_refs.proofs.FitRows.{choose_fits, claim_fits, save_fits, restore_fits, drop_saved_fits}
use Rattle.collections.proofs.FitRow.{collect_fits}
use Rattle.collections.proofs.OneRow.{collect_one, missing_one}
use Rattle.listings.proofs.OneRows.{lists_one}
use Rattle.report_desk.proofs.OneRows.{access_one, preview_one, why_one}
use Rattle.desk_orders.proofs.OfOptions.{options_fits, access_fits, preview_fits, why_fits, lists_fits, missing_fits}
use Rattle.desk_orders.specs.declared.order.Command.{Command}
use Rattle.desk_orders.specs.declared.order.Command.TheVariants as command
use Rattle.desk_orders.specs.Commands.{Asked, IsStated, draws}
use Rattle.desk_orders.specs.Orders.{RowBy, RowOf}

pub one_by : (s : State) → IsWellFormed s → (found : Option Bool) (who : Caller) (c : Command) → IsOne (RowBy s found who c)
one_by s formed found who (command.AddAccount handle name) = add_account_one s formed who handle name
one_by s formed found who (command.SetAdmin a on) = set_admin_one s formed who a on
one_by s formed found who (command.SetEnabled a on) = set_enabled_one s formed who a on
one_by s formed found who (command.RenewLogin a) = renew_login_one s formed who a
one_by s formed found who (command.AddApp manifest) = add_app_one s formed who manifest
one_by s formed found who (command.UpgradeApp p manifest) = upgrade_app_one s formed who p manifest
one_by s formed found who (command.NewGrain app title) = new_grain_one s formed who app title
one_by s formed found who (command.Trash n) = trash_one s formed who n true
one_by s formed found who (command.Untrash n) = trash_one s formed who n false
one_by s formed found who (command.Share n to assignment needs expires) = share_one s formed who n to assignment needs expires
one_by s formed found who (command.MakeToken n for_sharing assignment needs expires) = make_token_one s formed who n for_sharing assignment needs expires
one_by s formed found who (command.Child for_sharing assignment needs expires) = child_one s formed who for_sharing assignment needs expires
one_by s formed found who (command.Redeem token) = redeem_one s formed who token
one_by s formed found who (command.Revoke g) = revoke_one s formed who g
one_by s formed found who (command.StartRun n) = start_run_one s formed who n
one_by s formed found who (command.StopRun n) = stop_run_one s formed who n
one_by s formed found who (command.OpenSession n tab) = open_session_one s formed who n tab
one_by s formed found who (command.CloseSession n) = close_session_one s formed who n
one_by s formed found who (command.Options n query) = options_one s formed who n
one_by s formed found who (command.Choose n offer query assignment) = choose_one s formed who n offer query assignment found
one_by s formed found who (command.Claim token permissions) = claim_one s formed who token permissions
one_by s formed found who (command.Save handle label) = save_one s formed who handle label
one_by s formed found who (command.Restore token) = restore_one s formed who token
one_by s formed found who (command.DropSaved token) = drop_saved_one s formed who token
one_by s formed found who (command.Access n) = access_one s formed who n
one_by s formed found who (command.Preview g) = preview_one s formed who g
one_by s formed found who (command.Why n a) = why_one s formed who n a
one_by s formed found who (command.Missing c g) = missing_one s formed who c g
one_by s formed found who (command.List subject) = lists_one s formed who subject
one_by s formed found who (command.Collect c g u) = collect_one s formed who c g u

pub order_one : (s : State) → IsWellFormed s → (found : Option Bool) (order : Asked) → IsOne (RowOf s found order)
unfolding RowOf
order_one s formed found order = one_by s formed found order.caller order.command

pub fits_by : (s : State) → IsWellFormed s → (found : Option Bool) (who : Caller) (c : Command) → IsStated who c → RowFits s (draws c) (RowBy s found who c)
fits_by s formed found who (command.AddAccount handle name) stated = add_account_fits s formed who handle name stated.1
fits_by s formed found who (command.SetAdmin a on) stated = set_admin_fits s formed who a on
fits_by s formed found who (command.SetEnabled a on) stated = set_enabled_fits s formed who a on
fits_by s formed found who (command.RenewLogin a) stated = renew_login_fits s formed who a
fits_by s formed found who (command.AddApp manifest) stated = add_app_fits s formed who manifest stated.1
fits_by s formed found who (command.UpgradeApp p manifest) stated = upgrade_app_fits s formed who p manifest stated.1
fits_by s formed found who (command.NewGrain app title) stated = new_grain_fits s formed who app title
fits_by s formed found who (command.Trash n) stated = trash_fits s formed who n true
fits_by s formed found who (command.Untrash n) stated = trash_fits s formed who n false
fits_by s formed found who (command.Share n to assignment needs expires) stated = share_fits s formed who n to assignment needs expires
fits_by s formed found who (command.MakeToken n for_sharing assignment needs expires) stated = make_token_fits s formed who n for_sharing assignment needs expires
fits_by s formed found who (command.Child for_sharing assignment needs expires) stated = child_fits s formed who for_sharing assignment needs expires
fits_by s formed found who (command.Redeem token) stated = redeem_fits s formed who token
fits_by s formed found who (command.Revoke g) stated = revoke_fits s formed who g
fits_by s formed found who (command.StartRun n) stated = start_run_fits s formed who n
fits_by s formed found who (command.StopRun n) stated = stop_run_fits s formed who n
fits_by s formed found who (command.OpenSession n tab) stated = open_session_fits s formed who n tab
fits_by s formed found who (command.CloseSession n) stated = close_session_fits s formed who n
fits_by s formed found who (command.Options n query) stated = options_fits s who n
fits_by s formed found who (command.Choose n offer query assignment) stated = choose_fits s formed who n offer query assignment found
fits_by s formed found who (command.Claim token permissions) stated = claim_fits s formed who token permissions
fits_by s formed found who (command.Save handle label) stated = save_fits s formed who handle label
fits_by s formed found who (command.Restore token) stated = restore_fits s formed who token
fits_by s formed found who (command.DropSaved token) stated = drop_saved_fits s formed who token
fits_by s formed found who (command.Access n) stated = access_fits s who n
fits_by s formed found who (command.Preview g) stated = preview_fits s who g
fits_by s formed found who (command.Why n a) stated = why_fits s who n a
fits_by s formed found who (command.Missing c g) stated = missing_fits s who c g
fits_by s formed found who (command.List subject) stated = lists_fits s who subject
fits_by s formed found who (command.Collect c g u) stated = collect_fits s formed who c g u
