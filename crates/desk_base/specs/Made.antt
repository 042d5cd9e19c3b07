-- What replies show.
use Rattle.std.specs.Prelude.{ℕ, ◌+◌, List, Some, None, length}
use Rattle.desk_base.specs.Terms.{Made, Tables}

abbrev pub nothing_made : Made
nothing_made = record { account = None; app = None; grain = None; grant = None; handle = None; saved = None; session = None }

-- the number of the next row
abbrev pub next : {X : Type 0} → List X → ℕ
next rows = length rows + 1

abbrev pub made_account : Tables → Made
made_account t = record nothing_made { account = Some (next t.accounts) }

abbrev pub made_app : Tables → Made
made_app t = record nothing_made { app = Some (next t.apps) }

abbrev pub made_grain : Tables → Made
made_grain t = record nothing_made { grain = Some (next t.grains) }

-- the reply shows the number of an account
abbrev pub shown_account : ℕ → Made
shown_account num = record nothing_made { account = Some num }

-- the reply shows the number of a grant
abbrev pub shown_grant : ℕ → Made
shown_grant num = record nothing_made { grant = Some num }

abbrev pub made_grant : Tables → Made
made_grant t = shown_grant (next t.grants)
