-- An application whose new manifest gives no less gives all that it gave.
use Rattle.std.proofs.Common.{◌≡◌, ◌<◌, ◌≤◌, ℕ, List, [], Some, length, Contains, refl, sym, ◌∙◌, subst, inl, inr, arith}
use Rattle.app_manifest.specs.Upgrade.{GivesNoLess}
use Rattle.app_manifest.specs.declared.manifest.Manifest.{Manifest}
use Rattle.host_base.specs.declared.ids.AppId.{AppId}
use Rattle.perm_roles.specs.Roles.{IsInBase, GivesPermission}
use Rattle.perm_roles.specs.declared.roles.Assignment.{Assignment}
use Rattle.perm_roles.specs.declared.roles.Base.{Base}
use Rattle.perm_roles.specs.declared.roles.Base.TheVariants as base
use Rattle.share_graph.specs.declared.facts.Fact.{Fact}
use Rattle.share_graph.specs.declared.facts.Fact.TheVariants.{Open, Perm}
use Rattle.share_graph.specs.declared.facts.Node.{Node}
use Rattle.share_graph.specs.declared.facts.Node.TheVariants as node
use Rattle.share_graph.specs.declared.grants.Grant.{Grant}
use Rattle.share_graph.specs.declared.rows.App.{App}
use Rattle.share_graph.specs.declared.state.Tables.{Tables}
use Rattle.share_graph.specs.Changing.{change_row}
use Rattle.share_graph.specs.Derivation.{IsFactOf}
use Rattle.share_graph.specs.Nodes.{node_of, Gives}
use Rattle.share_graph.specs.Region.{GivesOutside}
use Rattle.share_graph.specs.Rows.{row, IsApp}
use Rattle.share_graph.specs.Setting.{with_manifest}
use Rattle.share_graph.proofs.Marked.{change_row_other, row_changed, same_number}
use Rattle.region_access.specs.Seeds.{IsSeedOfApp}
use Rattle.region_access.proofs.Upgraded.{with_apps, HasNodesOfApp}

-- a list that has the seeds of an application has the nodes of its grains
pub nodes_of_app : (t : Tables) (nodes : List Node) (p : AppId) → ((at : Node) → IsSeedOfApp t p at → Contains nodes at) → HasNodesOfApp t nodes p
nodes_of_app t nodes p has = record {
  owners = λ n grain is of. has (node.User n grain.owner) (n, (grain, is, of), inl (grain, is, refl));
  grants = λ g grant grain is on of. has (node_of g grant) (grant.grain, (grain, on, of), inr (g, grant, is, refl, refl));
}

same_gives : (m : Manifest) → GivesNoLess m m
same_gives m = record { all = omega arith; default = λ k is. is; roles = λ n k is. is }

in_base : (old new : Manifest) → GivesNoLess old new → (from : Base) (k : ℕ) → IsInBase old.roles (length old.permissions) from k → IsInBase new.roles (length new.permissions) from k
in_base old new more base.NoRole k is = more.default k is
in_base old new more base.AllAccess k is = (let most = more.all in omega (arith, is, most))
in_base old new more (base.Role n) k is = more.roles n k is

permission : (old new : Manifest) → GivesNoLess old new → (a : Assignment) (k : ℕ) → GivesPermission old.roles (length old.permissions) a k → GivesPermission new.roles (length new.permissions) a k
permission old new more a k (is, kept) = (elim is [ inl from ↦ inl (in_base old new more a.base k from) | inr added ↦ inr added ], kept)

fact_of : (old new : App) → GivesNoLess old.manifest new.manifest → (fact : Fact) → IsFactOf old fact → IsFactOf new fact
fact_of old new more Open is = tt
fact_of old new more (Perm k) is = (let most = more.all in omega (arith, is, most))

module _ (t : Tables) (p : AppId) (manifest : Manifest) (no_less : (app : App) → IsApp t p app → GivesNoLess app.manifest manifest) where
  abbrev now : List App
  now = change_row (with_manifest manifest) t.apps p.0

  -- an application that was there is there, and gives no less
  still : (q : AppId) (app : App) → IsApp t q app → (next : App) × (row now q.0 ≡ Some next) × GivesNoLess app.manifest next.manifest
  still q app is =
      elim (same_number q.0 p.0) [
        | inl same ↦
            let was : row t.apps p.0 ≡ Some app = subst (λ (k : ℕ). row t.apps k ≡ Some app) same is in
            (with_manifest manifest app, subst (λ (k : ℕ). row now k ≡ Some (with_manifest manifest app)) (sym same) (row_changed (with_manifest manifest) t.apps p.0 app was), no_less app was)
        | inr apart ↦ (app, change_row_other (with_manifest manifest) t.apps p.0 q.0 apart ∙ is, same_gives app.manifest)
      ]

  still_gives : (grant : Grant) (fact : Fact) → Gives t grant fact → Gives (with_apps t now) grant fact
  still_gives grant Open gives = tt
  still_gives grant (Perm k) (app, (grain, is, of_app), gives) =
      let (next, there, more) = still grain.app app of_app in
      (next, (grain, is, there), permission app.manifest next.manifest more grant.assignment k gives)

  pub app_raised : GivesOutside (Contains []) t (with_apps t now)
  app_raised = record {
    owned = λ n grain fact out (app, o, has).
        let (next, there, more) = still grain.app app o.of_app in
        (next, record { is_row = o.is_row; of_app = there; kept = o.kept; enabled = o.enabled }, fact_of app next more fact has);
    passed = λ g grant fact out l. record { is_live = record { is_row = l.is_live.is_row; live = l.is_live.live; lasts = l.is_live.lasts }; received = l.received; gives = still_gives grant fact l.gives };
    asked = λ g grant q out is c now. now;
    asked_of_site = λ g grant q out is none c now. now;
    opened = λ g grant out none o. record { is_live = record { is_row = o.is_live.is_row; live = o.is_live.live; lasts = o.is_live.lasts }; kept = o.kept };
  }
