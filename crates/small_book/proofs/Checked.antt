-- The rows of the small book have no fault.
use Rattle.std.proofs.Common.{◌≡◌, ◌≢◌, ℕ, None, List, [], true, take, slice_index, refl, ap, inr, codes, arith}
use Rattle.std.specs.List.{All}
use Rattle.std.proofs.lemmas.List.Elements.{All-nil, All-from_recursion}
use Rattle.share_graph.specs.declared.grants.Grant.{Grant}
use Rattle.share_graph.specs.declared.rows.Account.{Account}
use Rattle.share_graph.specs.declared.rows.App.{App}
use Rattle.share_graph.specs.declared.rows.Grain.{Grain}
use Rattle.share_graph.specs.declared.state.Tables.{Tables}
use Rattle.share_graph.specs.Checked.{IsChecked, AccountFault, AppFault, GrainFault, GrantFault}
use Rattle.share_graph.specs.Fitting.{SetsFit, NeedSetFits}
use Rattle.share_graph.specs.Fresh.{is_handle}
use Rattle.share_graph.specs.Known.{KnowsNeed}
use Rattle.share_graph.specs.Parents.{NeedFits, NeedIsEarlier}
use Rattle.app_manifest.specs.Manifest.{manifest_of}
use Rattle.perm_roles.specs.PermSet.{no_permissions}
use Rattle.perm_roles.specs.Roles.{IsInRoles}
use Rattle.small_book.specs.SmallBook.{small_book, first_share, second_share, ada, zoe, ben, dan, notes, poll, app_row, grain_row, small_accounts, small_apps, small_grains, small_grants}
use Rattle.small_book.proofs.Digests.{differ}
use Rattle.small_book.proofs.Manifests.{notes_sound, poll_sound, none_within}
use Rattle.small_book.proofs.Places.{AreAt, at_each}

abbrev rows : Tables
rows = small_book.tables

-- the account's login, and its handle, is another's
abbrev OtherLogin : Account → Account → Type 0
OtherLogin account other = other.login ≢ account.login

abbrev OtherHandle : Account → Account → Type 0
OtherHandle account other = other.handle ≢ account.handle

-- texts with other first bytes
texts_differ : (a b : List ℕ) → slice_index a 0 ≢ slice_index b 0 → a ≢ b
texts_differ a b unlike same = unlike (ap (λ t. slice_index t 0) same)

no_account_fault : (i : ℕ) (account : Account) → is_handle account.handle ≡ true → All (OtherLogin account) (take i rows.accounts) → All (OtherHandle account) (take i rows.accounts) → AccountFault rows i account None
no_account_fault i account formed login handle = inr (login, inr (record { formed = formed; fresh = handle }, refl))

-- the row at a place has no fault
abbrev NoAccountFault : ℕ → Account → Type 0
NoAccountFault i account = AccountFault rows i account None

abbrev NoAppFault : ℕ → App → Type 0
NoAppFault i app = AppFault rows i app None

abbrev NoGrainFault : ℕ → Grain → Type 0
NoGrainFault i grain = GrainFault rows i grain None

abbrev NoGrantFault : ℕ → Grant → Type 0
NoGrantFault i grant = GrantFault rows i grant None

ada_fits : NoAccountFault 0 ada
ada_fits = no_account_fault 0 ada refl (All-from_recursion (OtherLogin ada) (take 0 small_accounts) tt) (All-from_recursion (OtherHandle ada) (take 0 small_accounts) tt)

zoe_fits : NoAccountFault 1 zoe
zoe_fits = no_account_fault 1 zoe refl (All-from_recursion (OtherLogin zoe) (take 1 small_accounts) (differ 0 1 _ _ refl refl (λ e. absurd (omega (e, arith))), tt)) (All-from_recursion (OtherHandle zoe) (take 1 small_accounts) (texts_differ ada.handle zoe.handle (λ e. absurd (omega (e, arith))), tt))

ben_fits : NoAccountFault 2 ben
ben_fits = no_account_fault 2 ben refl (All-from_recursion (OtherLogin ben) (take 2 small_accounts) (differ 0 2 _ _ refl refl (λ e. absurd (omega (e, arith))), (differ 1 2 _ _ refl refl (λ e. absurd (omega (e, arith))), tt))) (All-from_recursion (OtherHandle ben) (take 2 small_accounts) (texts_differ ada.handle ben.handle (λ e. absurd (omega (e, arith))), (texts_differ zoe.handle ben.handle (λ e. absurd (omega (e, arith))), tt)))

dan_fits : NoAccountFault 3 dan
dan_fits = no_account_fault 3 dan refl (All-from_recursion (OtherLogin dan) (take 3 small_accounts) (differ 0 3 _ _ refl refl (λ e. absurd (omega (e, arith))), (differ 1 3 _ _ refl refl (λ e. absurd (omega (e, arith))), (differ 2 3 _ _ refl refl (λ e. absurd (omega (e, arith))), tt)))) (All-from_recursion (OtherHandle dan) (take 3 small_accounts) (texts_differ ada.handle dan.handle (λ e. absurd (omega (e, arith))), (texts_differ zoe.handle dan.handle (λ e. absurd (omega (e, arith))), (texts_differ ben.handle dan.handle (λ e. absurd (omega (e, arith))), tt))))

accounts_fit : AreAt NoAccountFault small_accounts
accounts_fit = (ada_fits, (zoe_fits, (ben_fits, (dan_fits, tt))))

apps_fit : AreAt NoAppFault small_apps
apps_fit = (inr (notes_sound, refl), (inr (poll_sound, refl), tt))

grains_fit : AreAt NoGrainFault small_grains
grains_fit = (
  inr (record { app = (app_row 1 notes, refl); owner = (ada, refl) }, refl),
  (inr (record { app = (app_row 2 poll, refl); owner = (ada, refl) }, refl), tt),
)

-- a share that changes nothing of its base
sets_fit : (grant : Grant) → grant.grain ≡ record { 0 = 1 } → grant.needs ≡ [] → grant.assignment.add ≡ no_permissions → grant.assignment.remove ≡ no_permissions → IsInRoles (manifest_of notes).roles grant.assignment.base → SetsFit rows grant
sets_fit grant on needs add remove listed = record {
  assignment = rw on (app_row 1 notes, (grain_row 1 1 1 (codes "Minutes"), refl, refl), record { add = rw add (none_within 3); remove = rw remove (none_within 3); listed = listed });
  needs = rw needs (All-nil (NeedSetFits rows));
}

first_fits : NoGrantFault 0 first_share
first_fits =
    inr (
      record { grain = (grain_row 1 1 1 (codes "Minutes"), refl); giver = (ada, refl); target = (zoe, refl); needs = All-nil (KnowsNeed rows) },
      inr (
        tt,
        inr (
          record { giver = tt; needs = All-nil (NeedFits rows) },
          inr (
            record { giver = tt; needs = All-nil (NeedIsEarlier 1) },
            inr (
              sets_fit first_share refl refl refl refl (omega arith),
              inr (record { token = refl; few_needs = omega arith; ends = tt }, refl),
            ),
          ),
        ),
      ),
    )

second_fits : NoGrantFault 1 second_share
second_fits =
    inr (
      record { grain = (grain_row 1 1 1 (codes "Minutes"), refl); giver = (zoe, refl); target = (ben, refl); needs = All-nil (KnowsNeed rows) },
      inr (
        tt,
        inr (
          record { giver = tt; needs = All-nil (NeedFits rows) },
          inr (
            record { giver = tt; needs = All-nil (NeedIsEarlier 2) },
            inr (
              sets_fit second_share refl refl refl refl tt,
              inr (record { token = refl; few_needs = omega arith; ends = tt }, refl),
            ),
          ),
        ),
      ),
    )

pub checked : IsChecked rows
checked = record {
  accounts = at_each NoAccountFault small_accounts accounts_fit;
  apps = at_each NoAppFault small_apps apps_fit;
  grains = at_each NoGrainFault small_grains grains_fit;
  grants = at_each NoGrantFault small_grants (first_fits, (second_fits, tt));
  saved = λ k row is. cc is;
}
