-- An aid of proofs: the test of one digest.
use Rattle.std.specs.Prelude.{◌≡◌, ℕ, Option, Some, None}
use Rattle.host_base.specs.declared.digest.Digest.{Digest}
use Rattle.share_graph.specs.declared.fault.Kind.{Kind}
use Rattle.share_graph.specs.declared.state.State.{State}
use Rattle.share_graph.specs.Kinds.{HasDigest}

-- no row but the one of this kind and number has the digest
abbrev pub HasNoOther : State → Digest → Kind → ℕ → Type 0
HasNoOther s d k n = (m : Kind) (j : ℕ) → HasDigest s d m j → (m ≡ k) × (j ≡ n)

-- a row of a kind, with its number and its digest, hasn't this digest or is the one of this kind and number
unfoldable pub IsNoOther : Kind → ℕ → Option Digest → Digest → Kind → ℕ → Type 0
IsNoOther of num digest d k n = digest ≡ Some d → (of ≡ k) × (num ≡ n)

-- the digest of the row of this kind and number, if it has one, is its alone
abbrev pub IsApart : State → Kind → ℕ → Option Digest → Type 0
IsApart s k n None = Unit {0}
IsApart s k n (Some d) = HasNoOther s d k n
