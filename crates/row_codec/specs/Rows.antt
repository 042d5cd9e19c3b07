-- The rows of accounts, grains and saved references, each in its first version, with the number of its row.
use Rattle.std.specs.Prelude.{ℕ}
use Rattle.share_graph.specs.declared.rows.Account.{Account}
use Rattle.share_graph.specs.declared.rows.Grain.{Grain}
use Rattle.share_graph.specs.declared.rows.Saved.{Saved}
use Rattle.row_formats.specs.Format.{Format, text, digest, flag, ◌⊗◌, made, first_version}
use Rattle.row_codec.specs.Ids.{account_id, app_id, grain_id, grant_id}

-- the fields of an account: handle, name, login, admin, enabled
abbrev pub account_fields : ℕ → Format Account
account_fields num = made
    (λ f. record { num = record { 0 = num }; handle = f.0; name = f.1.0; login = f.1.1.0; admin = f.1.1.1.0; enabled = f.1.1.1.1 })
    (λ a. (a.handle, (a.name, (a.login, (a.admin, a.enabled)))))
    (text ⊗ text ⊗ digest ⊗ flag ⊗ flag)

-- an account: version 1, and its fields
abbrev pub account : ℕ → Format Account
account num = first_version (account_fields num)

-- the fields of a grain: application, owner, title, trashed
abbrev pub grain_fields : ℕ → Format Grain
grain_fields num = made
    (λ f. record { num = record { 0 = num }; app = f.0; owner = f.1.0; title = f.1.1.0; trashed = f.1.1.1 })
    (λ g. (g.app, (g.owner, (g.title, g.trashed))))
    (app_id ⊗ account_id ⊗ text ⊗ flag)

-- a grain: version 1, and its fields
abbrev pub grain : ℕ → Format Grain
grain num = first_version (grain_fields num)

-- the fields of a saved reference: holder, grant, label, digest, dropped
abbrev pub saved_fields : ℕ → Format Saved
saved_fields num = made
    (λ f. record { num = record { 0 = num }; holder = f.0; grant = f.1.0; label = f.1.1.0; digest = f.1.1.1.0; dropped = f.1.1.1.1 })
    (λ s. (s.holder, (s.grant, (s.label, (s.digest, s.dropped)))))
    (grain_id ⊗ grant_id ⊗ text ⊗ digest ⊗ flag)

-- a saved reference: version 1, and its fields
abbrev pub saved : ℕ → Format Saved
saved num = first_version (saved_fields num)
