-- "needs": whether needs can be had, and the first that can't.
use Rattle.std.specs.Prelude.{◌≡◌, ◌<◌, ℕ, List, Some, slice_get}
use Rattle.share_graph.specs.declared.facts.Node.TheVariants as node
use Rattle.desk_base.specs.Terms.{HasAccount, IsNode, Need, Refusal, Tables}
use Rattle.share_graph.specs.declared.grants.Need.TheVariants as need
use Rattle.share_graph.specs.declared.refusal.Refusal.TheVariants.{BadNeed}
use Rattle.share_graph.specs.Fitting.{HolderSetFits}

-- the rows that the need names are there, a grant among them goes to no account, and its set fits the application
abbrev pub CanBeHad : Tables → Need → Type 0
CanBeHad t (need.TokenValid h) = IsNode t (node.Grant h)
CanBeHad t (need.PermissionsHeld holder set) = IsNode t holder × HolderSetFits t holder set
CanBeHad t (need.UserIsAdmin a) = HasAccount t a

-- the need at the index, from 0, is one of the first eight and can be had
abbrev pub IsGoodAt : Tables → ℕ → Need → Type 0
IsGoodAt t i q = (i < 8) × CanBeHad t q

-- each need is good
abbrev pub AreGood : Tables → List Need → Type 0
AreGood t needs = (i : ℕ) (q : Need) → slice_get needs i ≡ Some q → IsGoodAt t i q

-- the need at the index is the first that isn't
pub record IsFirstBad (t : Tables) (needs : List Need) (i : ℕ) : Type 0 where
  pub need : Need
  pub there : slice_get needs i ≡ Some need
  pub bad : IsGoodAt t i need → ⊥
  pub earlier : (k : ℕ) (other : Need) → k < i → slice_get needs k ≡ Some other → IsGoodAt t k other

-- BadNeed of the first that isn't
unfoldable pub HasBadNeed : Tables → List Need → Refusal → Type 0
HasBadNeed t needs r = (i : ℕ) × (r ≡ BadNeed i) × IsFirstBad t needs i
