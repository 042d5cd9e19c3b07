-- The indexes that were those of the tables before a grant is added, with its edges, are those of the tables after.
use Rattle.std.proofs.Common.{◌↔◌, ◌∷◌, [], List, Option, Some, None, Contains, refl, sym, ◌∙◌, subst, inl, inr}
use Rattle.host_base.specs.declared.ids.GrantId.{GrantId}
use Rattle.share_graph.specs.declared.facts.Node.{Node}
use Rattle.share_graph.specs.declared.grants.Grant.{Grant}
use Rattle.share_graph.specs.declared.grants.Need.{Need}
use Rattle.share_graph.specs.declared.grants.Need.TheVariants as need
use Rattle.share_graph.specs.declared.state.Tables.{Tables}
use Rattle.share_graph.specs.Region.{Feeds}
use Rattle.share_graph.specs.Rows.{IsGrant}
use Rattle.region_work.specs.Fed.{fed_in}
use Rattle.region_work.specs.Working.{IsIndexOf}
use Rattle.region_access.specs.declared.fed_grant.NewGrant.{NewGrant}
use Rattle.region_access.specs.declared.tie.Tie.{Tie}
use Rattle.region_access.specs.declared.tie.Tie.TheVariants as tie
use Rattle.region_access.specs.Arriving.{IsArrivalsOf}
use Rattle.region_access.specs.Indexed.{IsIndexBy}
use Rattle.region_access.specs.Adding.{IsNewIn}
use Rattle.region_access.specs.Indexes.{Entries, AreIndexesOf, HaveNew}
use Rattle.region_access.specs.NewEdges.{HasNoRow, HasNew, HasFeeding, HasArrival, HasTies, IsAlike, IsRowOf, AddsGrant}
use Rattle.region_access.specs.Ties.{IsTied, IsTiesOf, tied_in}
use Rattle.region_access.proofs.Arrived.{Arrives, arrives_one}
use Rattle.region_access.proofs.Indexed.{index_same, index_more, IsRowBy}
use Rattle.region_access.proofs.Tied.{Hangs}

turned : (g : GrantId) (a b : Grant) → IsAlike g a b → IsAlike g b a
turned g a b alike = record { source = sym alike.source; needs = sym alike.needs; grain = sym alike.grain; node = sym alike.node; expires = sym alike.expires }

-- what a row is of is what each row is of that is alike, and the keys of a new grant are what its row is of
module _ {K : Type 0} (Of : K → GrantId → Grant → Type 0) (keys : NewGrant → List K) (alike_of : (g : GrantId) (a b : Grant) → IsAlike g a b → (at : K) → Of at g a → Of at g b)
    (of_new : (added : NewGrant) (grant : Grant) → IsRowOf added grant → (at : K) → Contains (keys added) at ↔ Of at added.num grant) where
  row_kept : (added : Option NewGrant) (t u : Tables) → AddsGrant added t u → (at : K) (g : GrantId) → IsRowBy Of t at g → IsRowBy Of u at g
  row_kept added t u adds at g (grant, there, of) = let (other, is, alike) = adds.kept g grant there in (other, is, alike_of g grant other alike at of)

  pub rows_after : (added : Option NewGrant) (t u : Tables) (old new : K → List GrantId) → AddsGrant added t u → IsIndexBy (IsRowBy Of t) old → HasNew keys added old new → IsIndexBy (IsRowBy Of u) new
  rows_after None t u old new adds index same =
      index_same (IsRowBy Of t) (IsRowBy Of u) old new index same
      (λ at g. (
        λ (grant, is, of).
            elim (adds.back g grant is) [
              | inl (other, there, alike) ↦ (other, there, alike_of g grant other (turned g other grant alike) at of)
              | inr none ↦ absurd none
            ],
        row_kept None t u adds at g,
      ))
  rows_after (Some added) t u old new adds index (fresh, edges) =
      index_more (Contains (keys added)) added.num (IsRowBy Of t) (IsRowBy Of u) old new index fresh edges
      (λ at g. (
        λ (grant, is, of).
            elim (adds.back g grant is) [
              | inl (other, there, alike) ↦ inl (other, there, alike_of g grant other (turned g other grant alike) at of)
              | inr (same, one) ↦ inr (same, (of_new added grant one at).1 (subst (λ (h : GrantId). Of at h grant) same of))
            ],
        elim [
          | inl before ↦ row_kept (Some added) t u adds at g before
          | inr (same, c) ↦
              let (grant, is, one) = adds.new added refl in
              (grant, subst (λ (h : GrantId). IsGrant u h grant) (sym same) is, subst (λ (h : GrantId). Of at h grant) (sym same) ((of_new added grant one at).0 c))
        ],
      ))

-- ---- the index of edges

-- the node feeds the grant, whatever its number
abbrev FeedsIt : Node → GrantId → Grant → Type 0
FeedsIt at g grant = Feeds at grant

feeds_alike : (g : GrantId) (a b : Grant) → IsAlike g a b → (at : Node) → Feeds at a → Feeds at b
feeds_alike g a b alike at (inl source) = inl (sym alike.source ∙ source)
feeds_alike g a b alike at (inr (q, c, asked)) = inr (q, subst (λ (needs : List Need). Contains needs q) alike.needs c, asked)

index_by : (t : Tables) (fed : Node → List GrantId) → IsIndexOf t fed → IsIndexBy (IsRowBy FeedsIt t) fed
index_by t fed index = record { exact = λ at g. (λ c. index.rows at g c, λ (grant, is, feeds). index.all at g grant is feeds); once = index.once }

by_index : (t : Tables) (fed : Node → List GrantId) → IsIndexBy (IsRowBy FeedsIt t) fed → IsIndexOf t fed
by_index t fed index = record { all = λ at g grant is feeds. (index.exact at g).1 (grant, is, feeds); rows = λ at g c. (index.exact at g).0 c; once = index.once }

index_after : (added : Option NewGrant) (t u : Tables) (old new : Node → List GrantId) → AddsGrant added t u → IsIndexOf t old → HasFeeding added old new → IsIndexOf u new
index_after added t u old new adds index has =
    by_index u new (rows_after FeedsIt (λ one. one.feeding.items) feeds_alike (λ one grant of at. of.feeding at) added t u old new adds (index_by t old index) has)

-- ---- the index of arrivals

arrivals_after : (added : Option NewGrant) (t u : Tables) (old new : Node → List GrantId) → AddsGrant added t u → IsArrivalsOf t old → HasArrival added old new → IsArrivalsOf u new
arrivals_after added t u old new adds into has =
    rows_after Arrives (λ one. one.node ∷ []) (λ g a b alike at goes. sym alike.node ∙ goes) (λ one grant of at. arrives_one one.num grant one.node of.node at) added t u old new adds into has

-- ---- the index of ties

tied_alike : (g : GrantId) (a b : Grant) → IsAlike g a b → (on : Tie) → IsTied on a → IsTied on b
tied_alike g a b alike (tie.Grain n) same = sym alike.grain ∙ same
tied_alike g a b alike (tie.Admin u) c = subst (λ (needs : List Need). Contains needs (need.UserIsAdmin u)) alike.needs c
tied_alike g a b alike (tie.End end) ends = sym alike.expires ∙ ends

ties_after : (added : Option NewGrant) (t u : Tables) (old new : Tie → List GrantId) → AddsGrant added t u → IsTiesOf t old → HasTies added old new → IsTiesOf u new
ties_after added t u old new adds ties has =
    rows_after Hangs (λ one. one.ties.items) tied_alike (λ one grant of on. of.ties on) added t u old new adds ties has

-- ---- all of them

pub indexes_after : (added : Option NewGrant) (t u : Tables) (old new : Entries) → AddsGrant added t u → AreIndexesOf t old → HaveNew added old new → AreIndexesOf u new
indexes_after added t u old new adds indexes has = record {
  edges = index_after added t u (fed_in old.edges) (fed_in new.edges) adds indexes.edges has.feeding;
  arrivals = arrivals_after added t u (fed_in old.arrivals) (fed_in new.arrivals) adds indexes.arrivals has.arrival;
  ties = ties_after added t u (tied_in old.ties) (tied_in new.ties) adds indexes.ties has.ties;
}

-- a grant without a row is new to the indexes
pub none_feeds : (t : Tables) (indexes : Entries) (one : NewGrant) → AreIndexesOf t indexes → HasNoRow t (Some one) → IsNewIn one.num (fed_in indexes.edges)
none_feeds t indexes one are fresh at has = let (grant, is, feeds) = are.edges.rows at one.num has in fresh grant is

pub none_arrives : (t : Tables) (indexes : Entries) (one : NewGrant) → AreIndexesOf t indexes → HasNoRow t (Some one) → IsNewIn one.num (fed_in indexes.arrivals)
none_arrives t indexes one are fresh at has = let (grant, is, goes) = (are.arrivals.exact at one.num).0 has in fresh grant is

pub none_hangs : (t : Tables) (indexes : Entries) (one : NewGrant) → AreIndexesOf t indexes → HasNoRow t (Some one) → IsNewIn one.num (tied_in indexes.ties)
none_hangs t indexes one are fresh on has = let (grant, is, tied) = (are.ties.exact on one.num).0 has in fresh grant is
