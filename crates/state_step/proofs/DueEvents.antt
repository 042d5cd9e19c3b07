-- What is owed for an event suffices: an event of each kind fits.
use Rattle.share_graph.specs.declared.event.Event.{Event}
use Rattle.share_graph.specs.declared.event.Event.TheVariants as event
use Rattle.share_graph.specs.declared.state.State.{State}
use Rattle.share_graph.specs.EventFits.{EventFits}
use Rattle.share_graph.specs.WellFormed.{IsWellFormed}
use Rattle.state_step.specs.Fits.{IsDue, DueFits}
use Rattle.state_step.proofs.AccountLaws.{account_added_fits, admin_set_fits, enabled_set_fits, login_set_fits}
use Rattle.state_step.proofs.AppLaws.{app_added_fits, app_upgraded_fits}
use Rattle.state_step.proofs.GrainLaws.{grain_added_fits, trashed_set_fits}
use Rattle.state_step.proofs.GrantLaws.{grant_added_fits, grant_revoked_fits}
use Rattle.state_step.proofs.HandleLaws.{handle_made_fits, claimed_fits}
use Rattle.state_step.proofs.RunLaws.{run_started_fits, run_stopped_fits}
use Rattle.state_step.proofs.SavedLaws.{saved_added_fits, saved_dropped_fits}
use Rattle.state_step.proofs.SessionLaws.{session_opened_fits, session_closed_fits}
use Rattle.state_step.proofs.TickLaws.{ticked_fits}

-- by the kind of the event
fits_each : (s : State) (e : Event) → IsWellFormed s → IsDue s e → EventFits s e
fits_each s (event.AccountAdded account) formed due = account_added_fits s formed account due
fits_each s (event.AppAdded app) formed due = app_added_fits s formed app due
fits_each s (event.AppUpgraded p manifest) formed due = app_upgraded_fits s formed p manifest due
fits_each s (event.GrainAdded grain) formed due = grain_added_fits s formed grain due
fits_each s (event.GrantAdded grant) formed due = grant_added_fits s formed grant due
fits_each s (event.SavedAdded saved) formed due = saved_added_fits s formed saved due
fits_each s (event.AdminSet a on) formed due = admin_set_fits s formed a on due
fits_each s (event.EnabledSet a on) formed due = enabled_set_fits s formed a on due
fits_each s (event.LoginSet a login) formed due = login_set_fits s formed a login due
fits_each s (event.TrashedSet n on) formed due = trashed_set_fits s formed n on due
fits_each s (event.GrantRevoked g) formed due = grant_revoked_fits s formed g due
fits_each s (event.Claimed grant handle) formed due = claimed_fits s formed grant handle due
fits_each s (event.SavedDropped v) formed due = saved_dropped_fits s formed v due
fits_each s (event.RunStarted run) formed due = run_started_fits s formed run due
fits_each s (event.RunStopped r) formed due = run_stopped_fits s formed r due
fits_each s (event.SessionOpened session) formed due = session_opened_fits s formed session due
fits_each s (event.SessionClosed n) formed due = session_closed_fits s formed n due
fits_each s (event.HandleMade handle) formed due = handle_made_fits s formed handle due
fits_each s (event.Ticked m) formed due = ticked_fits s formed m due

-- the law
pub due_fits : DueFits
due_fits = fits_each
