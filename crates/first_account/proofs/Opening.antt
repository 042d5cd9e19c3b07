-- The tables with the first account alone have their row, and no fault.
use Rattle.std.proofs.Common.{◌≡◌, ℕ, zero, suc, List, [], ◌∷◌, None, Some, refl, ap, subst, inr, codes, arith}
use Rattle.std.specs.Prelude.{slice_get}
use Rattle.std.proofs.lemmas.List.Elements.{All-nil}
use Rattle.sha2.proofs.Facts256.{length-sha256}
use Rattle.plain_data.specs.Name.{IsName}
use Rattle.share_graph.specs.declared.rows.Account.{Account}
use Rattle.share_graph.specs.declared.fault.Kind.TheVariants as kind
use Rattle.share_graph.specs.declared.state.Tables.{Tables}
use Rattle.share_graph.specs.Checked.{IsChecked, AccountFault}
use Rattle.row_codec.specs.Rows.{account}
use Rattle.cloud_keeper.specs.declared.row.Row.{Row}
use Rattle.row_tables.specs.Kept.{AreRowsOf}
use Rattle.row_tables.specs.RowOf.{row_of}
use Rattle.first_account.specs.First.{first_admin, first_tables, first_row}

handle_is_name : IsName (codes "admin")
unfolding lib.Utf8.encode
handle_is_name = record { utf8 = (codes "admin", (refl, refl)); plain = refl }

name_is_name : IsName (codes "Admin")
unfolding lib.Utf8.encode
name_is_name = record { utf8 = (codes "Admin", (refl, refl)); plain = refl }

fits_its_row : (token : List ℕ) → (account 1).fits (first_admin token)
fits_its_row token = ((handle_is_name, (name_is_name, ((length-sha256 token, refl), (refl, refl)))), refl)

-- the tables with the first account alone have that row of it
pub row_there : (t : Tables) (token : List ℕ) → t ≡ first_tables token → (row : Row) × (row_of t kind.Account 1 ≡ Some row)
row_there t token e = (first_row token, ap (λ (u : Tables). row_of u kind.Account 1) e)

-- the row is that of those tables
pub first_kept : (token : List ℕ) → AreRowsOf (first_tables token) (first_row token ∷ [])
first_kept token = record {
  have = record { accounts = (omega arith, fits_its_row token, tt); apps = tt; grains = tt; grants = tt; saved = tt };
  rows_are = refl;
}

no_fault : (token : List ℕ) → AccountFault (first_tables token) 0 (first_admin token) None
no_fault token = inr (All-nil _, inr (record { formed = refl; fresh = All-nil _ }, refl))

no_account_fault : (token : List ℕ) (k : ℕ) (row : Account) → slice_get (first_admin token ∷ []) k ≡ Some row → AccountFault (first_tables token) k row None
no_account_fault token zero row e =
    let same : first_admin token ≡ row = cc in
    subst (λ (a : Account). AccountFault (first_tables token) 0 a None) same (no_fault token)
no_account_fault token (suc k) row e = absurd cc

-- the tables with the first account alone have no fault
pub first_checked : (token : List ℕ) → IsChecked (first_tables token)
first_checked token = record {
  accounts = no_account_fault token;
  apps = λ k row e. absurd cc;
  grains = λ k row e. absurd cc;
  grants = λ k row e. absurd cc;
  saved = λ k row e. absurd cc;
}
