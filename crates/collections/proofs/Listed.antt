-- The members of a collection are the accounts of the entries that tell who has access to it.
use Rattle.std.proofs.Common.{◌≡◌, ◌<◌, ℕ, List, Some, refl, subst, ap, arith}
use Rattle.std.specs.List.{AllPairs, filter_map}
use Rattle.std.specs.Ordering.{nat_cmp, ordering_then}
use Rattle.std.specs.declared.cmp.Ordering.TheVariants.{Less}
use Rattle.std.proofs.lemmas.Bool.Decides.{nat_tests}
use Rattle.std.proofs.lemmas.List.Elements.{Contains-get_or}
use Rattle.host_base.specs.declared.ids.AccountId.{AccountId}
use Rattle.host_base.specs.declared.ids.GrainId.{GrainId}
use Rattle.share_graph.specs.declared.facts.Fact.TheVariants.{Open}
use Rattle.share_graph.specs.declared.facts.Node.{Node}
use Rattle.share_graph.specs.declared.facts.Node.TheVariants as node
use Rattle.share_graph.specs.declared.state.Tables.{Tables}
use Rattle.share_graph.specs.Derivation.{Holds}
use Rattle.share_graph.specs.NodeOrder.{node_cmp}
use Rattle.share_graph.proofs.Contained.{contains-filter_map}
use Rattle.share_graph.proofs.Unused.{unfiltered}
use Rattle.least_access.proofs.Kept.{pairs_kept}
use Rattle.access_report.specs.declared.entry.Entry.{Entry}
use Rattle.access_report.specs.Entries.{HaveAccess, IsOn}
use Rattle.collections.specs.Scan.{account_at, AreMembers, member_of}

before : (a b n : ℕ) → ordering_then (nat_cmp a b) (nat_cmp n n) ≡ Less → a < b
before a b n is = grind (arith, nat_tests)

module _ (t : Tables) (c : GrainId) where
  by_node : (u : AccountId) (at : Node) → account_at at ≡ Some u → IsOn t c at → Holds t at Open → Holds t (node.User c u) Open
  by_node u (node.User n a) is on holds =
      let one : a ≡ u = cc is in
      subst (λ (x : AccountId). Holds t (node.User c x) Open) one (subst (λ (k : GrainId). Holds t (node.User k a) Open) on holds)
  by_node u (node.Grant g) is on holds = cc is

  -- on one grain accounts stand by their numbers
  ascends : (a b : Node) (y w : AccountId) → account_at a ≡ Some y → account_at b ≡ Some w → IsOn t c a → IsOn t c b → node_cmp a b ≡ Less → y.0 < w.0
  ascends (node.User n a) (node.User m b) y w is also on too less =
      let first : a ≡ y = cc is in
      let second : b ≡ w = cc also in
      let numbers : ordering_then (nat_cmp a.0 b.0) (nat_cmp c.0 c.0) ≡ Less =
      subst (λ (k : GrainId). ordering_then (nat_cmp a.0 b.0) (nat_cmp c.0 k.0) ≡ Less) too (subst (λ (k : GrainId). ordering_then (nat_cmp a.0 b.0) (nat_cmp k.0 m.0) ≡ Less) on less) in
      let below = before a.0 b.0 c.0 numbers in
      rw (← first, ← second) below
  ascends (node.Grant g) b y w is also on too less = cc is
  ascends (node.User n a) (node.Grant g) y w is also on too less = cc also

  abbrev Precedes : Entry → Entry → Type 0
  Precedes e f = IsOn t c e.node × IsOn t c f.node × (node_cmp e.node f.node ≡ Less)

  module _ (entries : List Entry) (access : HaveAccess t c entries) where
    rising : AllPairs Precedes entries
    rising i j d less within = (
      (access.each _ (Contains-get_or entries i d (omega (arith, less, within)))).on,
      (access.each _ (Contains-get_or entries j d within)).on,
      access.ascend i j d less within,
    )

    pub are_members : AreMembers t c (filter_map member_of entries)
    are_members = record {
      exact = λ u. (
        λ listed. (let (entry, there, is) = unfiltered member_of entries u listed in let its = access.each entry there in by_node u entry.node is its.on its.enters),
        λ holds. (let (entry, there, at) = access.all (node.User c u) refl holds in contains-filter_map member_of entries entry u there (ap account_at at)),
      );
      ascend = pairs_kept Precedes (λ (a : AccountId) (b : AccountId). a.0 < b.0) member_of (λ x z y w is also precedes. ascends x.node z.node y w is also precedes.0 precedes.1 precedes.2) entries rising;
    }
