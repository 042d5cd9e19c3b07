-- The kinds of what the server keeps, and the digests that it knows.
use Rattle.std.specs.Prelude.{◌≡◌, ℕ, List, ◌++◌, map, option_map, Contains}
use Rattle.std.specs.List.{filter_map}
use Rattle.host_base.specs.declared.digest.Digest.{Digest}
use Rattle.share_graph.specs.declared.fault.Kind.{Kind}
use Rattle.share_graph.specs.declared.fault.Kind.TheVariants as kind
use Rattle.share_graph.specs.declared.state.State.{State}
use Rattle.share_graph.specs.Keys.{IsFirstOf}

-- the number of a kind
abbrev pub kind_number : Kind → ℕ
kind_number kind.Account = 1
kind_number kind.App = 2
kind_number kind.Grain = 3
kind_number kind.Grant = 4
kind_number kind.Saved = 5
kind_number kind.Session = 6
kind_number kind.Handle = 7
kind_number kind.Run = 8
kind_number kind.Entry = 9

-- A digest, with the kind and the number of the row that has it.
pub record KnownDigest : Type 0 where
  pub kind : Kind
  pub num : ℕ
  pub digest : Digest

-- the digests of a state, in the order of kinds: logins, tokens of grants and of saved references, keys of sessions, tokens of runs
abbrev pub digests_of : State → List KnownDigest
digests_of s =
    map (λ account. record { kind = kind.Account; num = account.num.0; digest = account.login }) s.tables.accounts
    ++ filter_map (λ grant. option_map (λ d. record { kind = kind.Grant; num = grant.num.0; digest = d }) grant.digest) s.tables.grants
    ++ map (λ saved. record { kind = kind.Saved; num = saved.num.0; digest = saved.digest }) s.tables.saved
    ++ map (λ session. record { kind = kind.Session; num = session.num.0; digest = session.digest }) s.sessions
    ++ map (λ run. record { kind = kind.Run; num = run.num.0; digest = run.digest }) s.runs

-- the digest is that of the row of this kind and number
abbrev pub HasDigest : State → Digest → Kind → ℕ → Type 0
HasDigest s d k n = Contains (digests_of s) (record { kind = k; num = n; digest = d })

-- the row of this kind and number is the first that has the digest, in the order of kinds and then of the rows
abbrev pub IsFirstWith : State → Digest → Kind → ℕ → Type 0
IsFirstWith s d k n = IsFirstOf (digests_of s) (λ known. known.digest ≡ d) (record { kind = k; num = n; digest = d })

-- no row has the digest
abbrev pub IsUnused : State → Digest → Type 0
IsUnused s d = (k : Kind) (n : ℕ) → HasDigest s d k n → ⊥

-- each digest is one row's
pub record AreApart (s : State) : Type 0 where
  pub one : (d : Digest) (k m : Kind) (i j : ℕ) → HasDigest s d k i → HasDigest s d m j → (k ≡ m) × (i ≡ j)
