-- An aid for the proof of the verdict: the names of a set of permissions.
use Rattle.std.specs.Prelude.{◌≡◌, ℕ, ◌↔◌, Contains, List}
use Rattle.std.specs.List.Sorted.{IsStrictlyIncreasing}
use Rattle.perm_roles.specs.declared.perm_set.PermSet.{PermSet}
use Rattle.perm_roles.specs.PermSet.{Has}
use Rattle.share_graph.specs.declared.rows.App.{App}
use Rattle.session_table.specs.Verdict.{names_at}

-- The names at the positions of the set, ascending.
pub record AreNamesOf (app : App) (set : PermSet) (names : List (List ℕ)) : Type 0 where
  pub held : List ℕ
  pub ascends : IsStrictlyIncreasing held
  pub exact : (p : ℕ) → Contains held p ↔ Has set p
  pub are : names ≡ names_at app held
