-- An aid for the proof: what steps say so far, and the places at which they say what a grant asks.
use Rattle.std.specs.Prelude.{◌≡◌, ◌++◌, ◌∷◌, [], ℕ, List, Some, Contains, length}
use Rattle.host_base.specs.declared.ids.GrantId.{GrantId}
use Rattle.share_graph.specs.declared.facts.Fact.{Fact}
use Rattle.share_graph.specs.declared.facts.Node.{Node}
use Rattle.share_graph.specs.declared.grants.Grant.{Grant}
use Rattle.share_graph.specs.declared.grants.Need.{Need}
use Rattle.share_graph.specs.declared.state.Tables.{Tables}
use Rattle.share_graph.specs.Derivation.{Asks, Follows}
use Rattle.share_graph.specs.Nodes.{node_of, source_of}
use Rattle.least_access.specs.declared.held.Held.{Held}
use Rattle.least_access.specs.Held.{IsIn}
use Rattle.least_access.specs.Solved.{Table, HeldAt}
use Rattle.access_report.specs.declared.step.Step.{Step}
use Rattle.access_report.specs.Steps.{SaysBefore, Cites, IsOwned, AreSound}

-- some step says that the node holds the fact
abbrev pub IsSaid : List Step → Node → Fact → Type 0
IsSaid steps at fact = (place : ℕ) × SaysBefore steps (length steps) place at fact

-- the steps say what others say
abbrev pub SayMore : List Step → List Step → Type 0
SayMore old new = (at : Node) (fact : Fact) → IsSaid old at fact → IsSaid new at fact

-- at one of the places it is said, where it is said at all
abbrev pub IsCited : List Step → List ℕ → Node → Fact → Type 0
IsCited steps from at fact = IsSaid steps at fact → Cites steps (length steps) from at fact

-- what the needs ask is cited
abbrev pub CitesNeeds : List Step → List Need → List ℕ → Type 0
CitesNeeds steps needs from = (q : Need) → Contains needs q → (at : Node) (asked : Fact) → Asks q at asked → IsCited steps from at asked

-- The places of what the grant asks, to pass the fact on.
pub record CitesAll (steps : List Step) (grant : Grant) (fact : Fact) (from : List ℕ) : Type 0 where
  pub source : (at : Node) → source_of grant ≡ Some at → IsCited steps from at fact
  pub needs : CitesNeeds steps grant.needs from

-- Sound steps, which say all that the table has.
pub record IsTold (t : Tables) (steps : List Step) (table : Table) : Type 0 where
  pub sound : AreSound t steps
  pub said : (at : Node) (fact : Fact) → HeldAt table at fact → IsSaid steps at fact

-- what the grant passes on follows by it from what is said
abbrev pub Follow : Tables → List Step → GrantId → Grant → Held → Type 0
Follow t steps g grant passed = (fact : Fact) → IsIn passed fact → Follows t (IsSaid steps) g grant (node_of g grant) fact

-- a step more: by the grant, with the places of what it asks
pub record IsToldBy (g : GrantId) (grant : Grant) (fact : Fact) (old new : List Step) : Type 0 where
  pub from : List ℕ
  pub cites : CitesAll old grant fact from
  pub more : new ≡ old ++ record { node = node_of g grant; fact = fact; grant = Some g; from = from } ∷ []

-- More steps, which are sound where what the grant passes on follows.
pub record TellsMore (g : GrantId) (grant : Grant) (passed : Held) (old new : List Step) : Type 0 where
  pub more : SayMore old new
  pub sound : (t : Tables) → AreSound t old → Follow t old g grant passed → AreSound t new

-- More steps, which are sound where the node is an owner's.
pub record OwnsMore (at : Node) (held : Held) (old new : List Step) : Type 0 where
  pub more : SayMore old new
  pub sound : (t : Tables) → AreSound t old → ((fact : Fact) → IsIn held fact → IsOwned t at fact) → AreSound t new
