-- The rows of the tables after an event.
use Rattle.std.proofs.Common.{◌≡◌, ℕ, zero, suc, ◌+◌, ◌≤◌, ◌<◌, Bool, true, List, [], ◌∷◌, ◌++◌, length, Option, Some, None, Result, Ok, Err, refl, sym, ap, subst, ◌∙◌, append-nil, arith}
use Rattle.std.specs.Prelude.{IfOk, OnOk, slice_get}
use Rattle.app_manifest.specs.declared.manifest.Manifest.{Manifest}
use Rattle.host_base.specs.declared.bytes.Memory.{Memory}
use Rattle.host_base.specs.declared.digest.Digest.{Digest}
use Rattle.std.proofs.lemmas.List.{length-append}
use Rattle.std.proofs.lemmas.List.Elements.{All-nil}
use Rattle.share_graph.specs.declared.event.Event.{Event}
use Rattle.share_graph.specs.declared.event.Event.TheVariants as event
use Rattle.share_graph.specs.declared.rows.Account.{Account}
use Rattle.share_graph.specs.declared.rows.App.{App}
use Rattle.share_graph.specs.declared.rows.Grain.{Grain}
use Rattle.share_graph.specs.declared.rows.Saved.{Saved}
use Rattle.share_graph.specs.declared.grants.Grant.{Grant}
use Rattle.share_graph.specs.declared.state.State.{State}
use Rattle.share_graph.specs.declared.state.Tables.{Tables}
use Rattle.share_graph.specs.Changing.{change, change_row}
use Rattle.share_graph.specs.EventFits.{EventFits}
use Rattle.share_graph.specs.History.{tables_after}
use Rattle.share_graph.specs.Setting.{with_admin, with_enabled, with_login, with_manifest, with_trashed, revoked, dropped}
use Rattle.share_graph.specs.Rows.{row}
use Rattle.share_graph.specs.WellFormed.{IsWellFormed}
use Rattle.share_graph.proofs.Marked.{row_changed}
use Rattle.cloud_keeper.specs.declared.row.Row.{Row}
use Rattle.cloud_keeper.specs.Keeping.{put}
use Rattle.row_formats.specs.Format.{Format}
use Rattle.row_formats.proofs.Fits.{flag_fits}
use Rattle.row_codec.specs.Rows.{account, grain, saved}
use Rattle.row_codec.specs.AppRow.{app}
use Rattle.row_codec.specs.GrantRow.{without_expiry, grant}
use Rattle.row_tables.specs.Sections.{stored, section_rows, SectionFits}
use Rattle.row_tables.specs.TablesRows.{HaveRows, rows_of}
use Rattle.row_tables.specs.RowAfter.{AddedFits, row_after}
use Rattle.row_tables.specs.Kept.{AreRowsOf, with_row}
use Rattle.row_tables.proofs.ListRows.{last_there}
use Rattle.row_tables.proofs.NextRows.{fits_next}
use Rattle.row_tables.proofs.Putting.{AreAbove, section_before, section_above, both_above, puts_past, added, changed, with_that}
use Rattle.row_tables.proofs.Fitted.{apps_countable, grants_countable}

-- ---- the tables have rows

one_more_fits : {A : Type 0} (limit : ℕ) (format : ℕ → Format A) (n : ℕ) (xs : List A) (x : A) (m : ℕ) → SectionFits limit format n xs → m ≡ n + length xs → m ≤ limit → (format m).fits x → SectionFits limit format n (xs ++ x ∷ [])
one_more_fits limit format n [] x m h e le fits =
    let place : m ≡ n = e ∙ omega arith in
    (omega arith, subst (λ (k : ℕ). (format k).fits x) place fits, tt)
one_more_fits limit format n (y ∷ ys) x m h e le fits = (h.0, h.1, one_more_fits limit format (suc n) ys x m h.2 (e ∙ omega arith) le fits)

change_fits : {A : Type 0} (limit : ℕ) (format : ℕ → Format A) (f : A → A) → ((n : ℕ) (x : A) → (format n).fits x → (format n).fits (f x)) → (n : ℕ) (xs : List A) (i : ℕ) → SectionFits limit format n xs → SectionFits limit format n (change f xs i)
change_fits limit format f keeps n [] i h = h
change_fits limit format f keeps n (x ∷ xs) zero h = (h.0, keeps n x h.1, h.2)
change_fits limit format f keeps n (x ∷ xs) (suc i) h = (h.0, h.1, change_fits limit format f keeps (suc n) xs i h.2)

row_change_fits : {A : Type 0} (limit : ℕ) (format : ℕ → Format A) (f : A → A) → ((n : ℕ) (x : A) → (format n).fits x → (format n).fits (f x)) → (xs : List A) (n : ℕ) → SectionFits limit format 1 xs → SectionFits limit format 1 (change_row f xs n)
row_change_fits limit format f keeps xs zero h = h
row_change_fits limit format f keeps xs (suc i) h = change_fits limit format f keeps 1 xs i h

-- the row of one number is changed to one that fits
change_fits_at : {A : Type 0} (limit : ℕ) (format : ℕ → Format A) (f : A → A) (n : ℕ) (xs : List A) (i : ℕ) → ((x : A) → slice_get xs i ≡ Some x → (format (n + i)).fits (f x)) → SectionFits limit format n xs
    → SectionFits limit format n (change f xs i)
change_fits_at limit format f n [] i fits h = h
change_fits_at limit format f n (x ∷ xs) zero fits h =
    let place : n + 0 ≡ n = omega arith in
    (h.0, subst (λ (k : ℕ). (format k).fits (f x)) place (fits x refl), h.2)
change_fits_at {A} limit format f n (x ∷ xs) (suc i) fits h =
    let place : n + suc i ≡ suc n + i = omega arith in
    (h.0, h.1, change_fits_at limit format f (suc n) xs i (λ (y : A) is. subst (λ (k : ℕ). (format k).fits (f y)) place (fits y is)) h.2)

row_change_fits_at : {A : Type 0} (limit : ℕ) (format : ℕ → Format A) (f : A → A) (xs : List A) (n : ℕ) → ((x : A) → row xs n ≡ Some x → (format n).fits (f x)) → SectionFits limit format 1 xs
    → SectionFits limit format 1 (change_row f xs n)
row_change_fits_at limit format f xs zero fits h = h
row_change_fits_at {A} limit format f xs (suc i) fits h =
    let place : suc i ≡ 1 + i = omega arith in
    change_fits_at limit format f 1 xs i (λ (x : A) is. subst (λ (k : ℕ). (format k).fits (f x)) place (fits x is)) h

-- an application with another manifest fits
upgraded_fits : (s : State) (n : ℕ) (manifest : Manifest) → EventFits s (event.AppUpgraded (record { 0 = n }) manifest) → AddedFits s.tables (event.AppUpgraded (record { 0 = n }) manifest)
    → (x : App) → row s.tables.apps n ≡ Some x → (app n).fits (with_manifest manifest x)
upgraded_fits s zero manifest f fits x is = cc is
upgraded_fits s (suc i) manifest f fits x is =
    let there = row_changed (with_manifest manifest) s.tables.apps (suc i) x is in
    let short = apps_countable (tables_after s.tables (event.AppUpgraded (record { 0 = suc i }) manifest)) f.formed.tables i (with_manifest manifest x) there in
    let number : x.num.0 ≡ suc i = f.formed.numbered.apps i (with_manifest manifest x) there ∙ omega arith in
    subst (λ (k : ℕ). (app k).fits (with_manifest manifest x)) number (fits x is short)

-- an account with another login fits
login_fits : (s : State) (n : ℕ) (login : Digest) → EventFits s (event.LoginSet (record { 0 = n }) login) → AddedFits s.tables (event.LoginSet (record { 0 = n }) login)
    → (x : Account) → row s.tables.accounts n ≡ Some x → (account n).fits (with_login login x)
login_fits s zero login f fits x is = cc is
login_fits s (suc i) login f fits x is =
    let there = row_changed (with_login login) s.tables.accounts (suc i) x is in
    let number : x.num.0 ≡ suc i = f.formed.numbered.accounts i (with_login login x) there ∙ omega arith in
    subst (λ (k : ℕ). (account k).fits (with_login login x)) number (fits x is)

-- what is set in a row leaves it one that fits
admin_fits : (on : Bool) (n : ℕ) (a : Account) → (account n).fits a → (account n).fits (with_admin on a)
admin_fits on n a h = ((h.0.0, (h.0.1.0, (h.0.1.1.0, (flag_fits on, h.0.1.1.1.1)))), ap (with_admin on) h.1)

enabled_fits : (on : Bool) (n : ℕ) (a : Account) → (account n).fits a → (account n).fits (with_enabled on a)
enabled_fits on n a h = ((h.0.0, (h.0.1.0, (h.0.1.1.0, (h.0.1.1.1.0, flag_fits on)))), ap (with_enabled on) h.1)

trashed_fits : (on : Bool) (n : ℕ) (g : Grain) → (grain n).fits g → (grain n).fits (with_trashed on g)
trashed_fits on n g h = ((h.0.0, (h.0.1.0, (h.0.1.1.0, flag_fits on))), ap (with_trashed on) h.1)

revoked_fields : (n : ℕ) (g : Grant) → (without_expiry n).fits g → (without_expiry n).fits (revoked g)
revoked_fields n g h = ((h.0.0, (h.0.1.0, (h.0.1.1.0, (h.0.1.1.1.0, (h.0.1.1.1.1.0, (h.0.1.1.1.1.1.0, flag_fits true)))))), ap revoked h.1)

revoked_by : (n : ℕ) (g : Grant) (expires : Option ℕ) → (grant n).fits (record g { expires = expires }) → (grant n).fits (revoked (record g { expires = expires }))
revoked_by n g None h = revoked_fields n (record g { expires = None }) h
revoked_by n g (Some end) h = ((revoked_fields n (record g { expires = None }) h.0.0, h.0.1), ap revoked h.1)

-- its expiry stays
revoked_fits : (n : ℕ) (g : Grant) → (grant n).fits g → (grant n).fits (revoked g)
revoked_fits n g h = revoked_by n g g.expires h

dropped_fits : (n : ℕ) (s : Saved) → (saved n).fits s → (saved n).fits (dropped s)
dropped_fits n s h = ((h.0.0, (h.0.1.0, (h.0.1.1.0, (h.0.1.1.1.0, flag_fits true)))), ap dropped h.1)

-- a row that is added is within the limit of its kind
at_end : {A : Type 0} (limit : ℕ) (xs : List A) (x : A) (n : ℕ) → n ≡ length xs + 1 → length (xs ++ x ∷ []) ≤ limit → n ≤ limit
at_end limit xs x n e le = omega (arith, e, le, length-append xs (x ∷ []))

pub have_rows_after : (s : State) (e : Event) → EventFits s e → AddedFits s.tables e → HaveRows s.tables → HaveRows (tables_after s.tables e)
have_rows_after s (event.AccountAdded a) f fits h =
    let next = fits_next s (event.AccountAdded a) f in
    record { accounts = one_more_fits 4096 account 1 s.tables.accounts a a.num.0 h.accounts (omega (arith, next)) (at_end 4096 s.tables.accounts a a.num.0 next f.formed.limits.accounts) fits; apps = h.apps; grains = h.grains; grants = h.grants; saved = h.saved }
have_rows_after s (event.AppAdded p) f fits h =
    let next = fits_next s (event.AppAdded p) f in
    let short = apps_countable (tables_after s.tables (event.AppAdded p)) f.formed.tables (length s.tables.apps) p (last_there s.tables.apps p) in
    record { accounts = h.accounts; apps = one_more_fits 256 app 1 s.tables.apps p p.num.0 h.apps (omega (arith, next)) (at_end 256 s.tables.apps p p.num.0 next f.formed.limits.apps) (fits short); grains = h.grains; grants = h.grants; saved = h.saved }
have_rows_after s (event.AppUpgraded p manifest) f fits h = record {
  accounts = h.accounts;
  apps = row_change_fits_at 256 app (with_manifest manifest) s.tables.apps p.0 (upgraded_fits s p.0 manifest f fits) h.apps;
  grains = h.grains;
  grants = h.grants;
  saved = h.saved;
}
have_rows_after s (event.GrainAdded g) f fits h =
    let next = fits_next s (event.GrainAdded g) f in
    record { accounts = h.accounts; apps = h.apps; grains = one_more_fits 16384 grain 1 s.tables.grains g g.num.0 h.grains (omega (arith, next)) (at_end 16384 s.tables.grains g g.num.0 next f.formed.limits.grains) fits; grants = h.grants; saved = h.saved }
have_rows_after s (event.GrantAdded g) f fits h =
    let next = fits_next s (event.GrantAdded g) f in
    let short = grants_countable (tables_after s.tables (event.GrantAdded g)) f.formed.tables (length s.tables.grants) g (last_there s.tables.grants g) in
    record { accounts = h.accounts; apps = h.apps; grains = h.grains; grants = one_more_fits 65536 grant 1 s.tables.grants g g.num.0 h.grants (omega (arith, next)) (at_end 65536 s.tables.grants g g.num.0 next f.formed.limits.grants) (fits short); saved = h.saved }
have_rows_after s (event.Claimed g handle) f fits h =
    let next = fits_next s (event.Claimed g handle) f in
    let short = grants_countable (tables_after s.tables (event.Claimed g handle)) f.formed.tables (length s.tables.grants) g (last_there s.tables.grants g) in
    record { accounts = h.accounts; apps = h.apps; grains = h.grains; grants = one_more_fits 65536 grant 1 s.tables.grants g g.num.0 h.grants (omega (arith, next)) (at_end 65536 s.tables.grants g g.num.0 next f.formed.limits.grants) (fits short); saved = h.saved }
have_rows_after s (event.SavedAdded v) f fits h =
    let next = fits_next s (event.SavedAdded v) f in
    record { accounts = h.accounts; apps = h.apps; grains = h.grains; grants = h.grants; saved = one_more_fits 65536 saved 1 s.tables.saved v v.num.0 h.saved (omega (arith, next)) (at_end 65536 s.tables.saved v v.num.0 next f.formed.limits.saved) fits }
have_rows_after s (event.AdminSet a on) f fits h = record { accounts = row_change_fits 4096 account (with_admin on) (admin_fits on) s.tables.accounts a.0 h.accounts; apps = h.apps; grains = h.grains; grants = h.grants; saved = h.saved }
have_rows_after s (event.EnabledSet a on) f fits h = record { accounts = row_change_fits 4096 account (with_enabled on) (enabled_fits on) s.tables.accounts a.0 h.accounts; apps = h.apps; grains = h.grains; grants = h.grants; saved = h.saved }
have_rows_after s (event.LoginSet a login) f fits h = record {
  accounts = row_change_fits_at 4096 account (with_login login) s.tables.accounts a.0 (login_fits s a.0 login f fits) h.accounts;
  apps = h.apps;
  grains = h.grains;
  grants = h.grants;
  saved = h.saved;
}
have_rows_after s (event.TrashedSet n on) f fits h = record { accounts = h.accounts; apps = h.apps; grains = row_change_fits 16384 grain (with_trashed on) (trashed_fits on) s.tables.grains n.0 h.grains; grants = h.grants; saved = h.saved }
have_rows_after s (event.GrantRevoked g) f fits h = record { accounts = h.accounts; apps = h.apps; grains = h.grains; grants = row_change_fits 65536 grant revoked revoked_fits s.tables.grants g.0 h.grants; saved = h.saved }
have_rows_after s (event.SavedDropped v) f fits h = record { accounts = h.accounts; apps = h.apps; grains = h.grains; grants = h.grants; saved = row_change_fits 65536 saved dropped dropped_fits s.tables.saved v.0 h.saved }
have_rows_after s (event.RunStarted run) f fits h = h
have_rows_after s (event.RunStopped r) f fits h = h
have_rows_after s (event.SessionOpened session) f fits h = h
have_rows_after s (event.SessionClosed n) f fits h = h
have_rows_after s (event.HandleMade handle) f fits h = h
have_rows_after s (event.Ticked m) f fits h = record { accounts = h.accounts; apps = h.apps; grains = h.grains; grants = h.grants; saved = h.saved }

-- ---- their rows are the rows before, with the one that is put among them

pub saved_above : (low : ℕ) (t : Tables) → low < 5 → AreAbove low (section_rows 5 saved 1 t.saved)
saved_above low t lt = section_above low 5 saved 1 t.saved lt

pub grants_above : (low : ℕ) (t : Tables) → low < 4 → AreAbove low (section_rows 4 grant 1 t.grants ++ section_rows 5 saved 1 t.saved)
grants_above low t lt = both_above low (section_rows 4 grant 1 t.grants) (section_rows 5 saved 1 t.saved) (section_above low 4 grant 1 t.grants lt) (saved_above low t (omega arith))

pub grains_above : (low : ℕ) (t : Tables) → low < 3 → AreAbove low (section_rows 3 grain 1 t.grains ++ (section_rows 4 grant 1 t.grants ++ section_rows 5 saved 1 t.saved))
grains_above low t lt =
    both_above low (section_rows 3 grain 1 t.grains) (section_rows 4 grant 1 t.grants ++ section_rows 5 saved 1 t.saved) (section_above low 3 grain 1 t.grains lt) (grants_above low t (omega arith))

pub apps_above : (low : ℕ) (t : Tables) → low < 2 → AreAbove low (section_rows 2 app 1 t.apps ++ (section_rows 3 grain 1 t.grains ++ (section_rows 4 grant 1 t.grants ++ section_rows 5 saved 1 t.saved)))
apps_above low t lt =
    both_above low (section_rows 2 app 1 t.apps) (section_rows 3 grain 1 t.grains ++ (section_rows 4 grant 1 t.grants ++ section_rows 5 saved 1 t.saved)) (section_above low 2 app 1 t.apps lt) (grains_above low t (omega arith))

-- a row of a kind is put behind those of the smaller kinds
past_accounts : (t : Tables) (r : Row) (b new : List Row) → 1 < r.kind → put r b ≡ new → put r (section_rows 1 account 1 t.accounts ++ b) ≡ section_rows 1 account 1 t.accounts ++ new
past_accounts t r b new lt e = puts_past r (section_rows 1 account 1 t.accounts) b new (section_before r 1 account 1 t.accounts lt) e

past_apps : (t : Tables) (r : Row) (b new : List Row) → 2 < r.kind → put r b ≡ new → put r (section_rows 1 account 1 t.accounts ++ (section_rows 2 app 1 t.apps ++ b)) ≡ section_rows 1 account 1 t.accounts ++ (section_rows 2 app 1 t.apps ++ new)
past_apps t r b new lt e =
    past_accounts t r (section_rows 2 app 1 t.apps ++ b) (section_rows 2 app 1 t.apps ++ new) (omega arith) (puts_past r (section_rows 2 app 1 t.apps) b new (section_before r 2 app 1 t.apps lt) e)

past_grains : (t : Tables) (r : Row) (b new : List Row) → 3 < r.kind → put r b ≡ new
    → put r (section_rows 1 account 1 t.accounts ++ (section_rows 2 app 1 t.apps ++ (section_rows 3 grain 1 t.grains ++ b))) ≡ section_rows 1 account 1 t.accounts ++ (section_rows 2 app 1 t.apps ++ (section_rows 3 grain 1 t.grains ++ new))
past_grains t r b new lt e =
    past_apps t r (section_rows 3 grain 1 t.grains ++ b) (section_rows 3 grain 1 t.grains ++ new) (omega arith) (puts_past r (section_rows 3 grain 1 t.grains) b new (section_before r 3 grain 1 t.grains lt) e)

past_grants : (t : Tables) (r : Row) (b new : List Row) → 4 < r.kind → put r b ≡ new
    → put r (section_rows 1 account 1 t.accounts ++ (section_rows 2 app 1 t.apps ++ (section_rows 3 grain 1 t.grains ++ (section_rows 4 grant 1 t.grants ++ b))))
    ≡ section_rows 1 account 1 t.accounts ++ (section_rows 2 app 1 t.apps ++ (section_rows 3 grain 1 t.grains ++ (section_rows 4 grant 1 t.grants ++ new)))
past_grants t r b new lt e =
    past_grains t r (section_rows 4 grant 1 t.grants ++ b) (section_rows 4 grant 1 t.grants ++ new) (omega arith) (puts_past r (section_rows 4 grant 1 t.grants) b new (section_before r 4 grant 1 t.grants lt) e)

-- nothing stands behind the last kind
last_put : (r : Row) (a b : List Row) → put r (a ++ []) ≡ b ++ [] → put r a ≡ b
last_put r a b e = ap (λ (rows : List Row). put r rows) (sym (append-nil a)) ∙ e ∙ append-nil b

pub rows_after : (s : State) (e : Event) → EventFits s e → with_row (row_after s.tables e) (rows_of s.tables) ≡ rows_of (tables_after s.tables e)
rows_after s (event.AccountAdded a) f =
    let p = added 1 account s.tables.accounts a a.num.0 _ (fits_next s (event.AccountAdded a) f) (apps_above 1 s.tables (omega arith)) in
    with_that _ _ _ _ p.0 p.1
rows_after s (event.AppAdded a) f =
    let p = added 2 app s.tables.apps a a.num.0 _ (fits_next s (event.AppAdded a) f) (grains_above 2 s.tables (omega arith)) in
    with_that _ _ _ _ p.0 (past_accounts s.tables (stored 2 app a.num.0 a) _ _ (omega arith) p.1)
rows_after s (event.AppUpgraded n manifest) f =
    let p = changed 2 app (with_manifest manifest) s.tables.apps n.0 f.changed.0 _ f.changed.1 in
    with_that _ _ _ _ p.0 (past_accounts s.tables (stored 2 app n.0 (with_manifest manifest f.changed.0)) _ _ (omega arith) p.1)
rows_after s (event.GrainAdded g) f =
    let p = added 3 grain s.tables.grains g g.num.0 _ (fits_next s (event.GrainAdded g) f) (grants_above 3 s.tables (omega arith)) in
    with_that _ _ _ _ p.0 (past_apps s.tables (stored 3 grain g.num.0 g) _ _ (omega arith) p.1)
rows_after s (event.GrantAdded g) f =
    let p = added 4 grant s.tables.grants g g.num.0 _ (fits_next s (event.GrantAdded g) f) (saved_above 4 s.tables (omega arith)) in
    with_that _ _ _ _ p.0 (past_grains s.tables (stored 4 grant g.num.0 g) _ _ (omega arith) p.1)
rows_after s (event.Claimed g handle) f =
    let p = added 4 grant s.tables.grants g g.num.0 _ (fits_next s (event.Claimed g handle) f) (saved_above 4 s.tables (omega arith)) in
    with_that _ _ _ _ p.0 (past_grains s.tables (stored 4 grant g.num.0 g) _ _ (omega arith) p.1)
rows_after s (event.SavedAdded v) f =
    let p = added 5 saved s.tables.saved v v.num.0 [] (fits_next s (event.SavedAdded v) f) (All-nil (λ (other : Row). 5 < other.kind)) in
    with_that _ _ _ _ p.0 (past_grants s.tables (stored 5 saved v.num.0 v) _ _ (omega arith) (last_put (stored 5 saved v.num.0 v) (section_rows 5 saved 1 s.tables.saved) (section_rows 5 saved 1 (s.tables.saved ++ v ∷ [])) p.1))
rows_after s (event.AdminSet a on) f =
    let p = changed 1 account (with_admin on) s.tables.accounts a.0 f.changed.0 _ f.changed.1 in
    with_that _ _ _ _ p.0 p.1
rows_after s (event.EnabledSet a on) f =
    let p = changed 1 account (with_enabled on) s.tables.accounts a.0 f.changed.0 _ f.changed.1 in
    with_that _ _ _ _ p.0 p.1
rows_after s (event.LoginSet a login) f =
    let p = changed 1 account (with_login login) s.tables.accounts a.0 f.changed.0 _ f.changed.1 in
    with_that _ _ _ _ p.0 p.1
rows_after s (event.TrashedSet n on) f =
    let p = changed 3 grain (with_trashed on) s.tables.grains n.0 f.changed.0 _ f.changed.1 in
    with_that _ _ _ _ p.0 (past_apps s.tables (stored 3 grain n.0 (with_trashed on f.changed.0)) _ _ (omega arith) p.1)
rows_after s (event.GrantRevoked g) f =
    let p = changed 4 grant revoked s.tables.grants g.0 f.changed.0 _ f.changed.1 in
    with_that _ _ _ _ p.0 (past_grains s.tables (stored 4 grant g.0 (revoked f.changed.0)) _ _ (omega arith) p.1)
rows_after s (event.SavedDropped v) f =
    let p = changed 5 saved dropped s.tables.saved v.0 f.changed.0 [] f.changed.1 in
    with_that _ _ _ _ p.0
    (past_grants s.tables (stored 5 saved v.0 (dropped f.changed.0)) _ _ (omega arith) (last_put (stored 5 saved v.0 (dropped f.changed.0)) (section_rows 5 saved 1 s.tables.saved) (section_rows 5 saved 1 (change_row dropped s.tables.saved v.0)) p.1))
rows_after s (event.RunStarted run) f = refl
rows_after s (event.RunStopped r) f = refl
rows_after s (event.SessionOpened session) f = refl
rows_after s (event.SessionClosed n) f = refl
rows_after s (event.HandleMade handle) f = refl
rows_after s (event.Ticked m) f = refl

-- the rows of tables, with the row of an event put among them, are the rows of the tables after the event
pub are_rows_after : (s : State) (t : Tables) (e : Event) (rows : List Row) (r : Option Row) → s.tables ≡ t → EventFits s e → AddedFits t e → r ≡ row_after t e → AreRowsOf t rows → AreRowsOf (tables_after t e) (with_row r rows)
are_rows_after s t e rows r is f fits row_is h =
    subst (λ (u : Tables). AddedFits u e → r ≡ row_after u e → AreRowsOf u rows → AreRowsOf (tables_after u e) (with_row r rows)) is
    (λ fits_now row_is_now now. record {
      have = have_rows_after s e f fits_now now.have;
      rows_are = ap (λ (o : Option Row). with_row o rows) row_is_now ∙ ap (λ (all : List Row). with_row (row_after s.tables e) all) now.rows_are ∙ rows_after s e f;
    })
    fits row_is h

-- the same of what was returned
pub all_rows_after : (o : Result (Option Row) Memory) (t : Tables) (e : Event) → IfOk o (λ r. r ≡ row_after t e) → OnOk o (AddedFits t e)
    → IfOk o (λ r. (s : State) (rows : List Row) → IsWellFormed s → s.tables ≡ t → EventFits s e → AreRowsOf t rows → AreRowsOf (tables_after t e) (with_row r rows))
all_rows_after (Ok r) t e row_is fits = λ s rows formed is f h. are_rows_after s t e rows r is f fits row_is h
all_rows_after (Err m) t e row_is fits = tt
