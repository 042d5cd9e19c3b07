-- THE LAW OF A MEMBER'S SHARE.
use Rattle.std.proofs.Common.{◌≡◌, ◌⊎◌, [], ◌∷◌, ◌<◌, ℕ, zero, suc, List, Option, Some, Contains, false, get_or, length, refl, sym, ◌∙◌, subst, inl, inr, arith}
use Rattle.host_base.specs.declared.ids.AccountId.{AccountId}
use Rattle.host_base.specs.declared.ids.GrainId.{GrainId}
use Rattle.host_base.specs.declared.ids.GrantId.{GrantId}
use Rattle.perm_roles.specs.PermSet.{no_permissions}
use Rattle.perm_roles.specs.Roles.{GivesPermission}
use Rattle.perm_roles.specs.declared.roles.Assignment.{Assignment}
use Rattle.share_graph.specs.declared.facts.Fact.{Fact}
use Rattle.share_graph.specs.declared.facts.Fact.TheVariants.{Open, Perm}
use Rattle.share_graph.specs.declared.facts.Node.{Node}
use Rattle.share_graph.specs.declared.facts.Node.TheVariants as node
use Rattle.share_graph.specs.declared.grants.Grant.{Grant}
use Rattle.share_graph.specs.declared.grants.Need.{Need}
use Rattle.share_graph.specs.declared.grants.Need.TheVariants as need
use Rattle.share_graph.specs.declared.grants.Target.{Target}
use Rattle.share_graph.specs.declared.state.State.{State}
use Rattle.share_graph.specs.declared.state.Tables.{Tables}
use Rattle.share_graph.specs.Coherent.{IsCoherent}
use Rattle.share_graph.specs.Derivation.{Asks, Follows, Holds, IsMet, LetsThrough}
use Rattle.share_graph.specs.Expiry.{Lasts}
use Rattle.share_graph.specs.Nodes.{Gives, MayReceive, node_of, source_of}
use Rattle.share_graph.specs.Rows.{IsAppOf, IsGrant}
use Rattle.share_graph.specs.WellFormed.{IsWellFormed}
use Rattle.share_graph.proofs.Coherence.{coherent}
use Rattle.share_graph.proofs.Least.{derived}
use Rattle.least_access.proofs.Following.{Rule, follows_source}
use Rattle.desk_base.proofs.GivenRoles.{none_within}
use Rattle.collections.specs.Members.{IsBearers, IsMemberShare, member_needs, Passes, PassesAsMember}
use Rattle.collections.proofs.Bearing.{enabled, enters, follows_by, has_source}

-- the needs of a member's share are two
one_of_two : {X : Type 0} (a b q : X) → Contains (a ∷ b ∷ []) q → (q ≡ a) ⊎ (q ≡ b)
one_of_two a b q (zero, less, is) = inl (sym is)
one_of_two a b q (suc zero, less, is) = inr (sym is)
one_of_two a b q (suc (suc k), less, is) = absurd (omega arith)

module _ (t : Tables) (g : GrantId) (c : GrainId) (u : AccountId) where
  -- the link holds entry
  link_met : Holds t (node.Grant g) Open → IsMet t (need.TokenValid g)
  link_met held = (tt, λ at asked (same, is). subst (λ (n : Node). Holds t n asked) (sym same) (subst (λ (f : Fact). Holds t (node.Grant g) f) (sym is) held))

  -- the member holds entry on the collection, and nothing else is asked of it
  member_asked : Holds t (node.User c u) Open → (at : Node) (asked : Fact) → Asks (need.PermissionsHeld (node.User c u) no_permissions) at asked → Holds t at asked
  member_asked member at Open same = subst (λ (n : Node). Holds t n Open) (sym same) member
  member_asked member at (Perm p) (same, has) = absurd (omega (arith, none_within 0 p has))

  member_met : Holds t (node.User c u) Open → IsMet t (need.PermissionsHeld (node.User c u) no_permissions)
  member_met member = (tt, member_asked member)

module _ (t : Tables) (coherent : IsCoherent t) (c : GrainId) (g : GrantId) (link : Grant) (u : AccountId) (h : GrantId) (share : Grant) (row : IsGrant t g link) (bearers : IsBearers link)
    (is_row : IsGrant t h share) (is : IsMemberShare c g link u share) where
  -- the source is that of the link
  same_source : source_of share ≡ source_of link
  same_source = cc (is.giver, is.grain)

  -- and what goes through is the same
  gives : (fact : Fact) → (a b : Grant) → a.grain ≡ b.grain → a.assignment ≡ b.assignment → Gives t a fact → Gives t b fact
  gives Open a b on by given = tt
  gives (Perm p) a b on by (app, its, given) = (
    app,
    subst (λ (n : GrainId). IsAppOf t n app) on its,
    subst (λ (x : Assignment). GivesPermission app.manifest.roles (length app.manifest.permissions) x p) by given,
  )

  -- the two needs of the share, where the link and the member hold entry
  met : Holds t (node.Grant g) Open → Holds t (node.User c u) Open → (q : Need) → Contains share.needs q → IsMet t q
  met held member q listed =
      elim (one_of_two _ _ q (subst (λ (qs : List Need). Contains qs q) is.needs listed)) [
        | inl first ↦ subst (λ (n : Need). IsMet t n) (sym first) (link_met t g c u held)
        | inr second ↦ subst (λ (n : Need). IsMet t n) (sym second) (member_met t g c u member)
      ]

  -- what the share asks of the link and of the member
  asked : (fact : Fact) → Follows t (Holds t) h share (node_of h share) fact → Holds t (node.Grant g) Open × Holds t (node.User c u) Open
  asked fact f = (
    (f.met (need.TokenValid g) (listed (need.TokenValid g) 0 (omega arith) refl)).1 (node.Grant g) Open (refl, refl),
    (f.met (need.PermissionsHeld (node.User c u) no_permissions) (listed (need.PermissionsHeld (node.User c u) no_permissions) 1 (omega arith) refl)).1 (node.User c u) Open refl,
  )
    where
      listed : (q : Need) (k : ℕ) → k < 2 → get_or (member_needs c g u) k q ≡ q → Contains share.needs q
      listed q k less there = subst (λ (qs : List Need). Contains qs q) (sym is.needs) (k, less, there)

  forth : (fact : Fact) → Passes t h fact → Holds t (node.Grant g) fact × Holds t (node.User c u) Open
  forth fact (grant, there, f) =
      let both : Some grant ≡ Some share = sym there ∙ is_row in
      let one : grant ≡ share = cc both in
      let step : Follows t (Holds t) h share (node_of h share) fact = subst (λ (x : Grant). Follows t (Holds t) h x (node_of h x) fact) one f in
      let (held, member) = asked fact step in
      let (from, source) = has_source t coherent g link row bearers in
      let passed = follows_source t (Holds t) h share from (node_of h share) fact (same_source ∙ source) step in
      let opens = follows_by t coherent g link row bearers Open held in
      let opened = follows_source t (Holds t) g link from (node.Grant g) Open source opens in
      let through : LetsThrough t g link fact = record { is_live = opened.0.is_live; received = opened.0.received; gives = gives fact share link is.grain is.assignment passed.0.gives } in (
        derived t g link (node.Grant g) fact (record {
          met = opens.met;
          source = subst (λ (o : Option Node). Rule t (Holds t) g link o (node.Grant g) fact) (sym source) (through, opened.1, passed.2);
        }),
        member,
      )

  back : (fact : Fact) → share.revoked ≡ false → Holds t (node.Grant g) fact → Holds t (node.User c u) Open → Passes t h fact
  back fact live held member =
      let (from, source) = has_source t coherent g link row bearers in
      let passed = follows_source t (Holds t) g link from (node.Grant g) fact source (follows_by t coherent g link row bearers fact held) in
      let through : LetsThrough t h share fact = record {
        is_live = record { is_row = is_row; live = live; lasts = subst (λ (end : Option ℕ). Lasts t.moment end) (sym is.expires) tt };
        received = subst (λ (to : Target). MayReceive t to) (sym is.target) (enabled t c u Open member);
        gives = gives fact link share (sym is.grain) (sym is.assignment) passed.0.gives;
      } in (
        share,
        is_row,
        record {
          met = met (enters t held) member;
          source = subst (λ (o : Option Node). Rule t (Holds t) h share o (node_of h share) fact) (sym (same_source ∙ source)) (through, refl, passed.2);
        },
      )

pub passes_as_member : (t : Tables) → IsCoherent t → PassesAsMember t
passes_as_member t coherent c g link u h share fact row bearers is_row is live = (
  forth t coherent c g link u h share row bearers is_row is fact,
  λ both. back t coherent c g link u h share row bearers is_row is fact live both.0 both.1,
)

-- the same of a state
pub member_law : (s : State) → IsWellFormed s → PassesAsMember s.tables
member_law s formed = passes_as_member s.tables (coherent s.tables formed.tables)
