-- Derivations once more, as plain finite trees: a tree is data, and a recursion on it says what it shows.
use Rattle.std.specs.Prelude.{◌≡◌, ◌⊎◌, List, [], ◌∷◌, map, flat_map, Some, None, Contains}
use Rattle.host_base.specs.declared.ids.GrainId.{GrainId}
use Rattle.host_base.specs.declared.ids.GrantId.{GrantId}
use Rattle.perm_roles.specs.PermSet.{positions}
use Rattle.share_graph.specs.declared.facts.Fact.{Fact}
use Rattle.share_graph.specs.declared.facts.Fact.TheVariants.{Open, Perm}
use Rattle.share_graph.specs.declared.facts.Node.{Node}
use Rattle.share_graph.specs.declared.facts.Node.TheVariants as node
use Rattle.share_graph.specs.declared.grants.Grant.{Grant}
use Rattle.share_graph.specs.declared.grants.Need.{Need}
use Rattle.share_graph.specs.declared.grants.Need.TheVariants as need
use Rattle.share_graph.specs.declared.rows.App.{App}
use Rattle.share_graph.specs.declared.rows.Grain.{Grain}
use Rattle.share_graph.specs.declared.state.Tables.{Tables}
use Rattle.share_graph.specs.Nodes.{node_of, source_of}
use Rattle.share_graph.specs.Derivation.{Owns, IsFactOf, LetsThrough, IsOpenSite, AsksNow}

mutual
  -- A finite tree: what an owner holds on a grain; what a grant passes on, over the tree of its source and those of its
  -- needs; or the entry of a grant of the site, over the trees of its needs.
  pub data Tree : Type 0 where
    own : GrainId → Fact → Tree
    via : GrantId → Tree → Trees → Tree
    site : GrantId → Trees → Tree

  -- A list of trees.
  pub data Trees : Type 0 where
    no_trees : Trees
    more_trees : Tree → Trees → Trees

-- That the node holds the fact.
pub record HeldFact : Type 0 where
  pub at : Node
  pub fact : Fact

-- what the need asks to be held: the entry of a token's grant, or entry and each permission of the set
abbrev pub asked : Need → List HeldFact
asked (need.TokenValid h) = record { at = node.Grant h; fact = Open } ∷ []
asked (need.PermissionsHeld holder set) = record { at = holder; fact = Open } ∷ map (λ p. record { at = holder; fact = Perm p }) (positions set)
asked (need.UserIsAdmin a) = []

abbrev mutual
  -- the tree is valid, and concludes that the node holds the fact
  pub Shows : Tables → Tree → Node → Fact → Type 0
  Shows t (own n held) at fact = (grain : Grain) × (app : App) × Owns t n grain app × IsFactOf app held × (at ≡ node.User n grain.owner) × (fact ≡ held)
  Shows t (via g source needs) at fact = (grant : Grant) × (from : Node) × LetsThrough t g grant fact × (at ≡ node_of g grant)
      × (source_of grant ≡ Some from) × Shows t source from fact
      × ((q : Need) → Contains grant.needs q → AsksNow t q) × ShowsAll t needs (flat_map asked grant.needs)
  Shows t (site g needs) at fact = (grant : Grant) × IsOpenSite t g grant × (at ≡ node.Grant g) × (fact ≡ Open)
      × (source_of grant ≡ None)
      × ((q : Need) → Contains grant.needs q → AsksNow t q) × ShowsAll t needs (flat_map asked grant.needs)

  -- the trees are valid, and conclude these claims, one each, in order
  pub ShowsAll : Tables → Trees → List HeldFact → Type 0
  ShowsAll t no_trees [] = Unit {0}
  ShowsAll t no_trees (c ∷ cs) = ⊥
  ShowsAll t (more_trees d ds) [] = ⊥
  ShowsAll t (more_trees d ds) (c ∷ cs) = Shows t d c.at c.fact × ShowsAll t ds cs

abbrev mutual
  -- some step of the tree, those for needs included, is by the grant
  pub TreeUses : Tree → GrantId → Type 0
  TreeUses (own n held) h = ⊥
  TreeUses (via g source needs) h = (g ≡ h) ⊎ TreeUses source h ⊎ TreesUse needs h
  TreeUses (site g needs) h = (g ≡ h) ⊎ TreesUse needs h

  -- some step of one of the trees is by the grant
  pub TreesUse : Trees → GrantId → Type 0
  TreesUse no_trees h = ⊥
  TreesUse (more_trees d ds) h = TreeUses d h ⊎ TreesUse ds h

-- some valid tree concludes that the node holds the fact
abbrev pub HasTree : Tables → Node → Fact → Type 0
HasTree t at fact = (d : Tree) × Shows t d at fact

-- some valid tree that doesn't use the grant concludes that the node holds the fact
abbrev pub HasTreeWithout : Tables → GrantId → Node → Fact → Type 0
HasTreeWithout t g at fact = (d : Tree) × Shows t d at fact × ¬ TreeUses d g
