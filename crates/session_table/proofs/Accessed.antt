-- What the solution tells of a node that holds entry.
use Rattle.std.proofs.Common.{◌↔◌, ℕ, List}
use Rattle.perm_roles.specs.declared.perm_set.PermSet.{PermSet}
use Rattle.perm_roles.specs.PermSet.{Has}
use Rattle.share_graph.specs.declared.facts.Fact.TheVariants.{Open, Perm}
use Rattle.share_graph.specs.declared.facts.Node.{Node}
use Rattle.share_graph.specs.declared.rows.App.{App}
use Rattle.share_graph.specs.declared.state.Tables.{Tables}
use Rattle.share_graph.specs.Derivation.{Holds, IsAccess}
use Rattle.least_access.specs.Solved.{Table, HeldAt, IsSolutionOf}
use Rattle.session_table.specs.Naming.{AreNamesOf}

-- the positions of the set that the solution has at a node are what the node holds
pub is_access : (t : Tables) (table : Table) → IsSolutionOf t table → (at : Node) (app : App) (set : PermSet) (names : List (List ℕ)) → Holds t at Open
    → ((p : ℕ) → Has set p ↔ HeldAt table at (Perm p)) → (named : AreNamesOf app set names) → IsAccess t at named.held
is_access t table solved at app set names entry has named = record {
  entry = entry;
  ascends = named.ascends;
  exact = λ p. (
    λ c. (solved at (Perm p)).0 ((has p).0 ((named.exact p).0 c)),
    λ holds. (named.exact p).1 ((has p).1 ((solved at (Perm p)).1 holds)),
  );
}
