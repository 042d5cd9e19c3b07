-- THE FIRST ACCOUNT, and the rows with which a keeper begins.
use Rattle.std.specs.Prelude.{◌≡◌, ℕ, List, [], ◌∷◌, Some, true, codes}
use Rattle.sha2.specs.Sha256.{sha256}
use Rattle.share_graph.specs.declared.rows.Account.{Account}
use Rattle.share_graph.specs.declared.state.Tables.{Tables}
use Rattle.cloud_keeper.specs.declared.row.Row.{Row}
use Rattle.cloud_keeper.specs.Keeping.{Keeping}
use Rattle.row_codec.specs.Rows.{account}
use Rattle.row_tables.specs.Sections.{stored}

-- the account whose login is a token: number 1, an enabled admin
abbrev pub first_admin : List ℕ → Account
first_admin token =
    record { num = record { 0 = 1 }; handle = codes "admin"; name = codes "Admin"; login = record { 0 = sha256 token }; admin = true; enabled = true }

-- the tables with that account alone
abbrev pub first_tables : List ℕ → Tables
first_tables token = record { accounts = first_admin token ∷ []; apps = []; grains = []; grants = []; saved = []; moment = 0 }

-- its row
abbrev pub first_row : List ℕ → Row
first_row token = stored 1 account 1 (first_admin token)

-- a keeper has no rows, where it tells them
abbrev pub HasNoRows : Keeping → Type 0
HasNoRows keeping = (rows : List Row) → keeping.rows ≡ Some rows → rows ≡ []

-- a keeper has just this row, where it tells its rows
abbrev pub HasJust : Row → Keeping → Type 0
HasJust row keeping = (rows : List Row) → keeping.rows ≡ Some rows → rows ≡ row ∷ []
