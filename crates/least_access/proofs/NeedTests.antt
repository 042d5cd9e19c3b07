-- When a need is met, by what is held at the node that it names.
use Rattle.std.proofs.Common.{◌≡◌, ◌↔◌, ℕ, Bool, true, false, IsTrue, refl}
use Rattle.host_base.specs.declared.ids.GrantId.{GrantId}
use Rattle.perm_roles.specs.declared.perm_set.PermSet.{PermSet}
use Rattle.perm_roles.specs.PermSet.{Has}
use Rattle.share_graph.specs.declared.facts.Fact.{Fact}
use Rattle.share_graph.specs.declared.facts.Fact.TheVariants.{Open, Perm}
use Rattle.share_graph.specs.declared.facts.Node.{Node}
use Rattle.share_graph.specs.declared.facts.Node.TheVariants as node
use Rattle.share_graph.specs.declared.grants.Need.TheVariants as need
use Rattle.share_graph.specs.declared.state.Tables.{Tables}
use Rattle.share_graph.specs.Derivation.{Asks, IsMetBy}
use Rattle.least_access.specs.declared.held.Held.{Held}
use Rattle.least_access.specs.Held.{IsIn}

-- a token is valid where its grant holds entry
pub token_met : (t : Tables) (R : Node → Fact → Type 0) (h : GrantId) (held : Held)
    → ((fact : Fact) → IsIn held fact ↔ R (node.Grant h) fact) → IsTrue held.entry ↔ IsMetBy t R (need.TokenValid h)
token_met t R h held exact = (
  λ o. (tt, λ at asked a. rw (a.0, a.1) ((exact Open).0 o)),
  λ m. (exact Open).1 (m.1 (node.Grant h) Open (refl, refl)),
)

-- permissions are held where the holder has entry and each of them
module _ (t : Tables) (R : Node → Fact → Type 0) (holder : Node) (set : PermSet) (held : Held)
    (exact : (fact : Fact) → IsIn held fact ↔ R holder fact) where
  each_met : held.entry ≡ true → ((p : ℕ) → Has set p → Has held.perms p)
      → (at : Node) (asked : Fact) → Asks (need.PermissionsHeld holder set) at asked → R at asked
  each_met o has at Open a = rw a ((exact Open).0 o)
  each_met o has at (Perm p) a = rw a.0 ((exact (Perm p)).0 (has p a.1))

  pub set_met : held.entry ≡ true → (b : Bool) → (IsTrue b ↔ ((p : ℕ) → Has set p → Has held.perms p))
      → IsTrue b ↔ IsMetBy t R (need.PermissionsHeld holder set)
  set_met o b test = (
    λ h. (tt, each_met o (test.0 h)),
    λ m. test.1 (λ p has. (exact (Perm p)).1 (m.1 holder (Perm p) (refl, has))),
  )

  pub set_unmet : held.entry ≡ false → IsTrue held.entry ↔ IsMetBy t R (need.PermissionsHeld holder set)
  set_unmet o = (λ h. cc, λ m. (exact Open).1 (m.1 holder Open refl))
