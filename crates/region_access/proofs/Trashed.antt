-- A grain that goes into the trash or comes back touches nothing outside the region of its nodes.
use Rattle.std.proofs.Common.{◌≡◌, ℕ, Bool, List, Some, Contains, refl, sym, ◌∙◌, ap, subst, inl, inr}
use Rattle.host_base.specs.declared.ids.AccountId.{AccountId}
use Rattle.host_base.specs.declared.ids.GrainId.{GrainId}
use Rattle.share_graph.specs.declared.facts.Node.{Node}
use Rattle.share_graph.specs.declared.facts.Node.TheVariants as node
use Rattle.share_graph.specs.declared.rows.Grain.{Grain}
use Rattle.share_graph.specs.declared.state.Tables.{Tables}
use Rattle.share_graph.specs.Changing.{change_row}
use Rattle.share_graph.specs.Coherent.{IsCoherent}
use Rattle.share_graph.specs.Rows.{row, IsGrain}
use Rattle.share_graph.specs.Setting.{with_trashed}
use Rattle.share_graph.proofs.Marked.{change_row_other, row_changed, row_changed_back, same_number}
use Rattle.region_work.specs.Prepared.{LeadsNowhere, Touches}
use Rattle.share_graph.specs.Region.{GivesOutside}
use Rattle.region_access.proofs.ManyGrains.{with_grains, HasNodesOn, MayTouch, gives_by_grains, touches_by_grains}

abbrev grain_id : ℕ → GrainId
grain_id n = record { 0 = n }

module _ (t : Tables) (n : GrainId) (on : Bool) (nodes : List Node)
    (owner : (grain : Grain) → IsGrain t n grain → Contains nodes (node.User n grain.owner)) (others : HasNodesOn t nodes n) where
  abbrev new : List Grain
  new = change_row (with_trashed on) t.grains n.0

  forth : (m : GrainId) (grain : Grain) → row t.grains m.0 ≡ Some grain → MayTouch t nodes new m grain
  forth m grain is =
      elim (same_number m.0 n.0) [
        | inl same ↦
            let one : m ≡ n = ap (λ k. grain_id k) same in
            let there : row t.grains n.0 ≡ Some grain = subst (λ (k : ℕ). row t.grains k ≡ Some grain) same is in
            subst (λ (k : GrainId). MayTouch t nodes new k grain) (sym one)
            (inr (owner grain there, others, inl (with_trashed on grain, row_changed (with_trashed on) t.grains n.0 grain there, refl)))
        | inr apart ↦ inl (change_row_other (with_trashed on) t.grains n.0 m.0 apart ∙ is)
      ]

  back : (m : GrainId) (grain : Grain) → row new m.0 ≡ Some grain → MayTouch t nodes t.grains m grain
  back m grain is =
      elim (same_number m.0 n.0) [
        | inl same ↦
            let one : m ≡ n = ap (λ k. grain_id k) same in
            let (was, there, set) = row_changed_back (with_trashed on) t.grains n.0 grain (subst (λ (k : ℕ). row new k ≡ Some grain) same is) in
            subst (λ (k : GrainId). MayTouch t nodes t.grains k grain) (sym one)
            (inr (subst (λ (a : AccountId). Contains nodes (node.User n a)) (ap (λ (x : Grain). x.owner) set) (owner was there), others, inl (was, there, ap (λ (x : Grain). x.app) set)))
        | inr apart ↦ inl (sym (change_row_other (with_trashed on) t.grains n.0 m.0 apart) ∙ is)
      ]

  pub trash_touches : IsCoherent t → IsCoherent (with_grains t new) → LeadsNowhere t nodes → Touches nodes t (with_grains t new)
  trash_touches coherent coherent_after closed = touches_by_grains t nodes t.grains new coherent coherent_after forth back closed

  pub trash_back : IsCoherent (with_grains t new) → GivesOutside (Contains nodes) (with_grains t new) t
  trash_back coherent_after = gives_by_grains t nodes new t.grains coherent_after back
