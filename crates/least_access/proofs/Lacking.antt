-- What is lacking where entry isn't held.
use Rattle.std.specs.Option.{is_some, MatchOption}
use Rattle.std.proofs.Common.{◌≡◌, ◌<◌, ◌≤◌, ◌⊎◌, ◌+◌, ◌↔◌, ℕ, Bool, true, false, IsTrue, List, Option, Some, None, slice_get, length, refl, sym, ◌∙◌, subst, inl, inr, arith}
use Rattle.std.proofs.lemmas.Bool.{false≢true}
use Rattle.std.proofs.lemmas.Option.{slice_get_read}
use Rattle.host_base.specs.declared.ids.GrainId.{GrainId}
use Rattle.host_base.specs.declared.ids.GrantId.{GrantId}
use Rattle.share_graph.specs.declared.facts.Fact.TheVariants.{Open}
use Rattle.share_graph.specs.declared.facts.Node.{Node}
use Rattle.share_graph.specs.declared.facts.Node.TheVariants as node
use Rattle.share_graph.specs.declared.grants.Grant.{Grant}
use Rattle.share_graph.specs.declared.grants.Need.{Need}
use Rattle.share_graph.specs.declared.grants.Target.{Target}
use Rattle.share_graph.specs.declared.grants.Target.TheVariants as target
use Rattle.share_graph.specs.declared.state.Tables.{Tables}
use Rattle.share_graph.specs.Derivation.{Holds, IsMetBy, IsMet, via, site}
use Rattle.share_graph.specs.Expiry.{Lasts}
use Rattle.share_graph.specs.Missing.{AreMet, IsNode, IsMissing}
use Rattle.share_graph.specs.Nodes.{node_at, source_of, MayReceive}
use Rattle.share_graph.specs.Parents.{IsNoUser}
use Rattle.share_graph.specs.Rows.{IsGrant, IsKept}
use Rattle.least_access.specs.Solved.{Table, HeldAt, IsSolutionOf}

-- a test that fails tells that what it tests isn't so
pub not_so : (P : Type 0) (test : Bool) → IsTrue test ↔ P → test ≡ false → P → ⊥
not_so P test tells fails holds = false≢true (sym fails ∙ tells.1 holds)

-- what is met by the solution is met
pub met_by_solution : (t : Tables) (table : Table) → IsSolutionOf t table → (need : Need) → IsMetBy t (HeldAt table) need ↔ IsMet t need
met_by_solution t table solved need = (
  λ met. (met.0, λ at asked a. (solved at asked).0 (met.1 at asked a)),
  λ met. (met.0, λ at asked a. (solved at asked).1 (met.1 at asked a)),
)

-- each need before an index is met
abbrev pub MetBelow : Tables → List Need → ℕ → Type 0
MetBelow t needs i = (k : ℕ) (need : Need) → k < i → slice_get needs k ≡ Some need → IsMet t need

pub met_more : (t : Tables) (needs : List Need) (i : ℕ) (need : Need) → slice_get needs i ≡ Some need → IsMet t need → MetBelow t needs i → MetBelow t needs (i + 1)
met_more t needs i need there met below k other less is =
    let sides : (k < i) ⊎ (k ≡ i) = grind arith in
    elim sides [
      | inl earlier ↦ below k other earlier is
      | inr here ↦
          let at_i : slice_get needs i ≡ Some other = subst (λ (n : ℕ). slice_get needs n ≡ Some other) here is in
          let one : need ≡ other = cc in
          subst (λ (q : Need). IsMet t q) one met
    ]

pub all_met : (t : Tables) (needs : List Need) (i : ℕ) → length needs ≤ i → MetBelow t needs i → AreMet t needs
all_met t needs i end below need (k, less, is) = below k need (omega arith) (slice_get_read needs (length needs) k need refl less (sym is))

-- where entry is held nothing is missing
pub entered : (t : Tables) (at : Node) → IsNode t at → Holds t at Open → IsMissing t at None
entered t (node.User n a) there held = inl (refl, held)
entered t (node.Grant g) there held = (there.grant, there.is_row, inl (refl, held))

-- what was found is there, with what is so of it
pub some_found : {X : Type 0} (o : Option X) (P : Type 0) (Q : X → Type 0) → MatchOption o P Q → is_some o ≡ true → (x : X) × Q x
some_found None P Q m found = absurd (false≢true found)
some_found (Some x) P Q m found = (x, m)
