use Rattle.std.specs.Prelude.{◌≢◌, ℕ, All, Option, Some, None, Bool, List, length, take, slice_index, nat_le, ◌&&◌, ◌||◌, ◌==◌}
use Rattle.std.specs.List.{list_all}
use Rattle.host_base.specs.declared.digest.Digest.{Digest}
use Rattle.share_graph.specs.declared.grants.Grant.{Grant}
use Rattle.share_graph.specs.declared.rows.Account.{Account}
use Rattle.share_graph.specs.declared.rows.Saved.{Saved}
use Rattle.share_graph.specs.declared.state.Tables.{Tables}

-- no row of these has the digest
abbrev pub NoLogin : List Account → Digest → Type 0
NoLogin accounts d = All (λ account. account.login ≢ d) accounts

abbrev pub NoToken : List Grant → Digest → Type 0
NoToken grants d = All (λ grant. grant.digest ≢ Some d) grants

abbrev pub NoReference : List Saved → Digest → Type 0
NoReference saved d = All (λ row. row.digest ≢ d) saved

-- no row before the one at place i, in the order of the kinds, has its digest
abbrev pub IsFreshLogin : Tables → ℕ → Account → Type 0
IsFreshLogin t i account = NoLogin (take i t.accounts) account.login

pub record IsNewToken (t : Tables) (i : ℕ) (d : Digest) : Type 0 where
  pub no_login : NoLogin t.accounts d
  pub no_token : NoToken (take i t.grants) d

abbrev pub IsFreshToken : Tables → ℕ → Option Digest → Type 0
IsFreshToken t i None = Unit {0}
IsFreshToken t i (Some d) = IsNewToken t i d

pub record IsFreshReference (t : Tables) (i : ℕ) (saved : Saved) : Type 0 where
  pub no_login : NoLogin t.accounts saved.digest
  pub no_token : NoToken t.grants saved.digest
  pub no_reference : NoReference (take i t.saved) saved.digest

-- no account before the one at place i has its handle
abbrev pub IsFreshHandle : Tables → ℕ → Account → Type 0
IsFreshHandle t i account = All (λ other. other.handle ≢ account.handle) (take i t.accounts)

-- a letter from `a` to `z`; such a letter, a digit or `_`
abbrev pub is_small_letter : ℕ → Bool
is_small_letter b = nat_le 97 b && nat_le b 122

abbrev pub is_handle_byte : ℕ → Bool
is_handle_byte b = is_small_letter b || (nat_le 48 b && nat_le b 57) || b == 95

-- the form of an account's handle: 1 to 32 of those, beginning with a letter
abbrev pub is_handle : List ℕ → Bool
is_handle text = is_small_letter (slice_index text 0) && nat_le (length text) 32 && list_all is_handle_byte text
