-- What holds is told, once nothing more follows by the grants on which it can rest.
use Rattle.std.proofs.Common.{◌≡◌, List, [], Option, Some, None, MatchOption, Contains, slice_get, refl, sym, subst, inl, inr}
use Rattle.host_base.specs.declared.ids.GrantId.{GrantId}
use Rattle.share_graph.specs.declared.facts.Fact.{Fact}
use Rattle.share_graph.specs.declared.facts.Fact.TheVariants.{Open}
use Rattle.share_graph.specs.declared.facts.Node.{Node}
use Rattle.share_graph.specs.declared.facts.Node.TheVariants as node
use Rattle.share_graph.specs.declared.grants.Grant.{Grant}
use Rattle.share_graph.specs.declared.state.Tables.{Tables}
use Rattle.share_graph.specs.Coherent.{IsCoherent}
use Rattle.share_graph.specs.Derivation.{LetsThrough, IsOpenSite, Holds, Follows}
use Rattle.share_graph.specs.Nodes.{node_of, source_of}
use Rattle.share_graph.specs.Rows.{IsGrant}
use Rattle.share_graph.proofs.Least.{least}
use Rattle.least_access.specs.Solved.{Table, HeldAt}
use Rattle.least_access.proofs.Following.{follows_row, follows_at}
use Rattle.region_work.specs.Emptying.{IsEmptyAt}
use Rattle.access_report.specs.declared.step.Step.{Step}
use Rattle.access_report.specs.Resting.{IsRestOf}
use Rattle.access_report.specs.Steps.{IsOwned}
use Rattle.access_report.specs.Telling.{IsTold}
use Rattle.access_report.specs.Turns.{IsClosedBy}

module _ (t : Tables) (coherent : IsCoherent t) (goal : Node) (nodes : List Node) (grants : List GrantId) (rest : IsRestOf t goal nodes grants) (table : Table)
    (owned : (at : Node) (fact : Fact) → Contains nodes at → IsOwned t at fact → HeldAt table at fact) (closed : IsClosedBy t grants table table) where
  abbrev IsKnown : Node → Fact → Type 0
  IsKnown at fact = Contains nodes at → HeldAt table at fact

  source_known : (g : GrantId) (grant : Grant) → Contains grants g → IsGrant t g grant → (at : Node) (fact : Fact) (o : Option Node) → source_of grant ≡ o
      → MatchOption o (IsOpenSite t g grant × (at ≡ node.Grant g) × (fact ≡ Open)) (λ source. LetsThrough t g grant fact × (at ≡ node_of g grant) × IsKnown source fact)
      → MatchOption o (IsOpenSite t g grant × (at ≡ node.Grant g) × (fact ≡ Open)) (λ source. LetsThrough t g grant fact × (at ≡ node_of g grant) × HeldAt table source fact)
  source_known g grant listed row at fact None is s = s
  source_known g grant listed row at fact (Some source) is s = (s.0, s.1, s.2 (rest.fed g grant source listed row (inl is)))

  known_follows : (g : GrantId) (grant : Grant) (at : Node) (fact : Fact) → Contains grants g → IsGrant t g grant → Follows t IsKnown g grant at fact → Follows t (HeldAt table) g grant at fact
  known_follows g grant at fact listed row f = record {
    met = λ q c. ((f.met q c).0, λ n asked a. (f.met q c).1 n asked a (rest.fed g grant n listed row (inr (q, c, (asked, a)))));
    source = source_known g grant listed row at fact (source_of grant) refl f.source;
  }

  stepped : (g : GrantId) (grant : Grant) (at : Node) (fact : Fact) → Follows t IsKnown g grant at fact → IsKnown at fact
  stepped g grant at fact f inside =
      let row = follows_row t IsKnown g grant at fact f in
      let here : at ≡ node_of g grant = follows_at t coherent IsKnown g grant at fact row f in
      let listed = rest.grants_all g grant row (subst (λ (n : Node). Contains nodes n) here inside) in
      let follows = known_follows g grant at fact listed row f in
      subst (λ (n : Node). HeldAt table n fact) (sym here) (closed g grant fact listed row (subst (λ (n : Node). Follows t (HeldAt table) g grant n fact) here follows))

  pub complete : (fact : Fact) → Holds t goal fact → HeldAt table goal fact
  complete fact d =
      least t IsKnown (record {
        owned = λ n grain app what o is inside. owned (node.User n grain.owner) what inside (record { num = n; grain = grain; app = app; owns = o; is_fact = is; of_owner = refl });
        stepped = stepped;
      }) d rest.goal

-- at first nothing is told
pub nothing_told : (t : Tables) (nodes : List Node) (steps : List Step) (table : Table) → steps ≡ [] → IsEmptyAt nodes table → IsTold t steps table
nothing_told t nodes steps table none empty = record {
  sound = λ i step is. (let at_none = subst (λ (xs : List Step). slice_get xs i ≡ Some step) none is in cc at_none);
  said = λ at fact h. absurd (empty.nothing at fact h);
}
