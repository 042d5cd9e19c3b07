-- What holds of whoever holds anything: it holds entry, an account that does is enabled, and a bearer does by its own grant alone.
use Rattle.std.proofs.Common.{◌≡◌, Option, Some, refl, sym, ◌∙◌, subst}
use Rattle.host_base.specs.declared.ids.AccountId.{AccountId}
use Rattle.host_base.specs.declared.ids.GrainId.{GrainId}
use Rattle.host_base.specs.declared.ids.GrantId.{GrantId}
use Rattle.share_graph.specs.declared.facts.Fact.{Fact}
use Rattle.share_graph.specs.declared.facts.Fact.TheVariants.{Open}
use Rattle.share_graph.specs.declared.facts.Node.{Node}
use Rattle.share_graph.specs.declared.facts.Node.TheVariants as node
use Rattle.share_graph.specs.declared.grants.Giver.{Giver}
use Rattle.share_graph.specs.declared.grants.Giver.TheVariants as giver
use Rattle.share_graph.specs.declared.grants.Grant.{Grant}
use Rattle.share_graph.specs.declared.grants.Target.{Target}
use Rattle.share_graph.specs.declared.grants.Target.TheVariants as target
use Rattle.share_graph.specs.declared.state.Tables.{Tables}
use Rattle.share_graph.specs.Coherent.{IsCoherent}
use Rattle.share_graph.specs.Derivation.{Derivation, own, via, site, Follows, Holds}
use Rattle.share_graph.specs.Nodes.{MayReceive, node_at, source_at, source_of}
use Rattle.share_graph.specs.Parents.{GiverFits}
use Rattle.share_graph.specs.Rows.{IsEnabled, IsGrant}
use Rattle.least_access.proofs.Following.{Rule}
use Rattle.collections.specs.Members.{IsBearers}

module _ (t : Tables) where
  -- whoever holds anything holds entry
  pub enters : {at : Node} {fact : Fact} → Derivation t at fact → Holds t at Open
  enters (own o is) = own o tt
  enters (via passes source d now needs) = via (record { is_live = passes.is_live; received = passes.received; gives = tt }) source (enters d) now needs
  enters (site opens source now needs) = site opens source now needs

  received_by : (m n : GrainId) (a : AccountId) (g : GrantId) (to : Target) → node_at g m to ≡ node.User n a → MayReceive t to → IsEnabled t a
  received_by m n a g (target.User b) same may = let one : b ≡ a = cc in subst (λ (x : AccountId). IsEnabled t x) one may
  received_by m n a g (target.Bearer for_sharing) same may = cc same
  received_by m n a g (target.Claim h) same may = cc same
  received_by m n a g (target.Grain h) same may = cc same

  enabled_at : (n : GrainId) (a : AccountId) {at : Node} {fact : Fact} → Derivation t at fact → at ≡ node.User n a → IsEnabled t a
  enabled_at n a (own {n = m} {grain = grain} o is) same = let one : grain.owner ≡ a = cc in subst (λ (x : AccountId). IsEnabled t x) one o.enabled
  enabled_at n a (via {g = g} {grant = grant} passes source d now needs) same = received_by grant.grain n a g grant.target same passes.received
  enabled_at n a (site {g = g} opens source now needs) same = cc same

  -- an account that holds anything is enabled
  pub enabled : (n : GrainId) (a : AccountId) (fact : Fact) → Holds t (node.User n a) fact → IsEnabled t a
  enabled n a fact d = enabled_at n a d refl

  -- the grant of a node that is a grant's
  own_by : (g h : GrantId) (m : GrainId) (to : Target) → node_at h m to ≡ node.Grant g → h ≡ g
  own_by g h m (target.User b) same = cc same
  own_by g h m (target.Bearer for_sharing) same = cc
  own_by g h m (target.Claim k) same = cc
  own_by g h m (target.Grain k) same = cc

  module _ (coherent : IsCoherent t) (g : GrantId) (link : Grant) (row : IsGrant t g link) (bearers : IsBearers link) where
    -- the site gives to no bearer
    source_by : (from : Giver) → GiverFits t from link → (at : Node) × (source_at link.grain from ≡ Some at)
    source_by (giver.Account a) fits = (node.User link.grain a, refl)
    source_by (giver.Grant p) fits = (node.Grant p, refl)
    source_by (giver.Site by tag item) fits = cc (fits, bearers.1)

    -- a bearer's grant was given from a node
    pub has_source : (at : Node) × (source_of link ≡ Some at)
    has_source = source_by link.giver (coherent.grants g link row).parent.giver

    one_row : (h : GrantId) (grant : Grant) → IsGrant t h grant → h ≡ g → grant ≡ link
    one_row h grant is same =
        let there : IsGrant t g grant = subst (λ (k : GrantId). IsGrant t k grant) same is in
        let both : Some grant ≡ Some link = sym there ∙ row in
        cc both

    moved : (fact : Fact) (h : GrantId) (grant : Grant) → IsGrant t h grant → h ≡ g → Follows t (Holds t) h grant (node.Grant g) fact → Follows t (Holds t) g link (node.Grant g) fact
    moved fact h grant is same f =
        subst (λ (x : Grant). Follows t (Holds t) g x (node.Grant g) fact) (one_row h grant is same) (subst (λ (k : GrantId). Follows t (Holds t) k grant (node.Grant g) fact) same f)

    follows_at : {at : Node} {fact : Fact} → Derivation t at fact → at ≡ node.Grant g → Follows t (Holds t) g link (node.Grant g) fact
    follows_at (own o is) same = cc same
    follows_at (via {g = h} {grant = grant} {from = from} {fact = fact} passes source d now needs) same =
        moved fact h grant passes.is_live.is_row (own_by g h grant.grain grant.target same) (record {
          met = λ q c. (now q c, λ n asked a. needs q c n asked a);
          source = subst (λ (o : Option Node). Rule t (Holds t) h grant o (node.Grant g) fact) (sym source) (passes, sym same, d);
        })
    follows_at (site {g = h} {grant = grant} opens source now needs) same =
        let one : h ≡ g = cc in
        moved Open h grant opens.is_live.is_row one (record {
          met = λ q c. (now q c, λ n asked a. needs q c n asked a);
          source = subst (λ (o : Option Node). Rule t (Holds t) h grant o (node.Grant g) Open) (sym source) (opens, sym same, refl);
        })

    -- what the bearer holds follows by its grant
    pub follows_by : (fact : Fact) → Holds t (node.Grant g) fact → Follows t (Holds t) g link (node.Grant g) fact
    follows_by fact d = follows_at d refl
