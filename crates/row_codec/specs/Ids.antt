-- The formats of rows' numbers.
use Rattle.std.specs.Int.{w32}
use Rattle.host_base.specs.declared.ids.AccountId.{AccountId}
use Rattle.host_base.specs.declared.ids.AppId.{AppId}
use Rattle.host_base.specs.declared.ids.GrainId.{GrainId}
use Rattle.host_base.specs.declared.ids.GrantId.{GrantId}
use Rattle.row_formats.specs.Format.{Format, number, made}

-- the number of an account: four bytes
abbrev pub account_id : Format AccountId
account_id = made (λ n. record { 0 = n }) (λ a. a.0) (number w32)

-- the number of an application: four bytes
abbrev pub app_id : Format AppId
app_id = made (λ n. record { 0 = n }) (λ p. p.0) (number w32)

-- the number of a grain: four bytes
abbrev pub grain_id : Format GrainId
grain_id = made (λ n. record { 0 = n }) (λ g. g.0) (number w32)

-- the number of a grant: four bytes
abbrev pub grant_id : Format GrantId
grant_id = made (λ n. record { 0 = n }) (λ g. g.0) (number w32)
