-- Whether what a need asks is cited.
use Rattle.std.proofs.Common.{◌≡◌, ◌↔◌, ℕ, Bool, false, IsTrue, refl}
use Rattle.host_base.specs.declared.ids.GrantId.{GrantId}
use Rattle.perm_roles.specs.declared.perm_set.PermSet.{PermSet}
use Rattle.perm_roles.specs.PermSet.{Has}
use Rattle.share_graph.specs.declared.facts.Fact.{Fact}
use Rattle.share_graph.specs.declared.facts.Fact.TheVariants.{Open, Perm}
use Rattle.share_graph.specs.declared.facts.Node.{Node}
use Rattle.share_graph.specs.declared.facts.Node.TheVariants as node
use Rattle.share_graph.specs.declared.grants.Need.TheVariants as need
use Rattle.share_graph.specs.declared.state.Tables.{Tables}
use Rattle.share_graph.specs.Derivation.{Asks, IsMetBy}

module _ (t : Tables) (R : Node → Fact → Type 0) where
  -- a token is valid where its grant holds entry
  pub token_by : (h : GrantId) (test : Bool) → IsTrue test ↔ R (node.Grant h) Open → IsTrue test ↔ IsMetBy t R (need.TokenValid h)
  token_by h test exact = (
    λ o. (tt, λ at asked a. rw (a.0, a.1) (exact.0 o)),
    λ m. exact.1 (m.1 (node.Grant h) Open (refl, refl)),
  )

  -- permissions are held where the holder has entry and each of them
  asked_of : (holder : Node) (set : PermSet) → R holder Open → ((p : ℕ) → Has set p → R holder (Perm p)) → (at : Node) (asked : Fact)
      → Asks (need.PermissionsHeld holder set) at asked → R at asked
  asked_of holder set entry each at Open a = rw a entry
  asked_of holder set entry each at (Perm p) a = rw a.0 (each p a.1)

  pub set_by : (holder : Node) (set : PermSet) (test : Bool) → R holder Open → IsTrue test ↔ ((p : ℕ) → Has set p → R holder (Perm p))
      → IsTrue test ↔ IsMetBy t R (need.PermissionsHeld holder set)
  set_by holder set test entry exact = (
    λ h. (tt, asked_of holder set entry (exact.0 h)),
    λ m. exact.1 (λ p has. m.1 holder (Perm p) (refl, has)),
  )

  pub none_by : (holder : Node) (set : PermSet) (test : Bool) → IsTrue test ↔ R holder Open → test ≡ false → IsTrue test ↔ IsMetBy t R (need.PermissionsHeld holder set)
  none_by holder set test exact fails = (λ h. cc, λ m. exact.1 (m.1 holder Open refl))
