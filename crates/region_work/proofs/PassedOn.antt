-- After some of the grants that a node feeds were tested.
use Rattle.std.proofs.Common.{◌⊎◌, ◌+◌, ◌<◌, ◌++◌, ◌∷◌, [], ℕ, List, length, take, get_or, Contains, subst, inl, inr, arith}
use Rattle.std.proofs.lemmas.List.{take_more}
use Rattle.std.proofs.lemmas.List.Elements.{Contains-push_cases}
use Rattle.host_base.specs.declared.ids.GrantId.{GrantId}
use Rattle.share_graph.specs.declared.facts.Fact.{Fact}
use Rattle.share_graph.specs.declared.grants.Grant.{Grant}
use Rattle.share_graph.specs.declared.state.Tables.{Tables}
use Rattle.share_graph.specs.Derivation.{Follows}
use Rattle.share_graph.specs.Nodes.{node_of}
use Rattle.share_graph.specs.Rows.{IsGrant}
use Rattle.least_access.specs.Rounds.{IsSound}
use Rattle.least_access.specs.Solved.{Table, HeldAt}
use Rattle.region_work.specs.declared.gain.Gain.{Gain}
use Rattle.region_work.specs.Moves.{Moves}
use Rattle.region_work.specs.Work.{Work, Finds}
use Rattle.region_work.proofs.Finding.{finds_none, finds_more}

-- what follows by the grant since the gain followed before, or was found
abbrev pub IsPassed : Tables → Table → Gain → Work → GrantId → Type 0
IsPassed t table gain now num = (start : Table) → Moves gain start table → (grant : Grant) (fact : Fact) → IsGrant t num grant
    → Follows t (HeldAt table) num grant (node_of num grant) fact
    → Follows t (HeldAt start) num grant (node_of num grant) fact ⊎ HeldAt now.found (node_of num grant) fact

pub record PassedOn (t : Tables) (table : Table) (gain : Gain) (first now : Work) (fed : List GrantId) (i : ℕ) : Type 0 where
  pub finds : Finds first now
  pub sound : IsSound t table → IsSound t first.found → IsSound t now.found
  pub closed : (num : GrantId) → Contains (take i fed) num → IsPassed t table gain now num

pub passed_none : (t : Tables) (table : Table) (gain : Gain) (first : Work) (fed : List GrantId) → PassedOn t table gain first first fed 0
passed_none t table gain first fed = record {
  finds = finds_none first;
  sound = λ sound before. before;
  closed = λ num (k, below, is). absurd (omega arith);
}

pub passed_one : (t : Tables) (table : Table) (gain : Gain) (first now next : Work) (fed : List GrantId) (i : ℕ) (d : GrantId)
    → i < length fed
    → PassedOn t table gain first now fed i → Finds now next
    → (IsSound t table → IsSound t now.found → IsSound t next.found)
    → IsPassed t table gain next (get_or fed i d)
    → PassedOn t table gain first next fed (i + 1)
passed_one t table gain first now next fed i d within so_far finds sound passed = record {
  finds = finds_more first now next so_far.finds finds;
  sound = λ holds before. sound holds (so_far.sound holds before);
  closed = λ other c start moves grant fact row f.
      let split = take_more fed i d within in
      let there : Contains (take i fed ++ get_or fed i d ∷ []) other = subst (λ (xs : List GrantId). Contains xs other) split c in
      elim (Contains-push_cases (take i fed) (get_or fed i d) other there) [
        | inl earlier ↦
            elim (so_far.closed other earlier start moves grant fact row f) [
              | inl before ↦ inl before
              | inr found ↦ inr (finds.kept (node_of other grant) fact found)
            ]
        | inr here ↦ (subst (λ (n : GrantId). IsPassed t table gain next n) here passed) start moves grant fact row f
      ];
}
