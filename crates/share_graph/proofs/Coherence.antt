-- What tables without a fault give of each row: they are coherent.
use Rattle.std.proofs.Common.{◌≡◌, ◌+◌, ℕ, zero, suc, List, Option, Some, None, refl, subst, sym, ◌∙◌, add-one, inl, inr, arith}
use Rattle.host_base.specs.declared.ids.GrantId.{GrantId}
use Rattle.share_graph.specs.declared.fault.GraphFault.{GraphFault}
use Rattle.share_graph.specs.declared.grants.Grant.{Grant}
use Rattle.share_graph.specs.declared.rows.App.{App}
use Rattle.share_graph.specs.declared.rows.Grain.{Grain}
use Rattle.share_graph.specs.declared.state.Tables.{Tables}
use Rattle.share_graph.specs.Rows.{row}
use Rattle.share_graph.specs.Fitting.{IsSoundManifest, SetsFit, SharesWell}
use Rattle.share_graph.specs.Known.{KnowsOfGrain, KnowsOfGrant}
use Rattle.share_graph.specs.Parents.{HasParent, NamesEarlier}
use Rattle.share_graph.specs.Checked.{AppFault, GrainFault, GrantFault, HaveNoFault, IsChecked}
use Rattle.share_graph.specs.Coherent.{IsCoherentGrant, IsCoherent, HasNumbers}
use Rattle.share_graph.specs.WellFormed.{IsWithinLimits}

-- what is so of each row by its place is so of the row of a number
by_number : {X : Type 0} (rows : List X) (Fault : ℕ → X → Option GraphFault → Type 0) → HaveNoFault rows Fault → (n : ℕ) (here : X) → row rows n ≡ Some here
    → (i : ℕ) × (n ≡ suc i) × Fault i here None
by_number rows Fault all zero here is = cc is
by_number rows Fault all (suc i) here is = (i, refl, all i here is)

sound_manifest : (t : Tables) (i : ℕ) (app : App) → AppFault t i app None → IsSoundManifest app.manifest
sound_manifest t i app (inl (e, never)) = absurd (cc e)
sound_manifest t i app (inr (sound, done)) = sound

knows_of : (t : Tables) (i : ℕ) (grain : Grain) → GrainFault t i grain None → KnowsOfGrain t grain
knows_of t i grain (inl (e, never)) = absurd (cc e)
knows_of t i grain (inr (knows, done)) = knows

-- What is so of a grant without a fault.
record IsSoundGrant (t : Tables) (i : ℕ) (grant : Grant) : Type 0 where
  knows : KnowsOfGrant t grant
  parent : HasParent t grant
  earlier : NamesEarlier (i + 1) grant
  sets : SetsFit t grant
  shares : SharesWell grant

sound_grant : (t : Tables) (i : ℕ) (grant : Grant) → GrantFault t i grant None → IsSoundGrant t i grant
sound_grant t i grant (inl (e, never)) = absurd (cc e)
sound_grant t i grant (inr (knows, inl (e, never))) = absurd (cc e)
sound_grant t i grant (inr (knows, inr (fresh, inl (e, never)))) = absurd (cc e)
sound_grant t i grant (inr (knows, inr (fresh, inr (parent, inl (e, never))))) = absurd (cc e)
sound_grant t i grant (inr (knows, inr (fresh, inr (parent, inr (earlier, inl (e, never)))))) = absurd (cc e)
sound_grant t i grant (inr (knows, inr (fresh, inr (parent, inr (earlier, inr (sets, inl (e, never))))))) = absurd (cc e)
sound_grant t i grant (inr (knows, inr (fresh, inr (parent, inr (earlier, inr (sets, inr (shares, done))))))) =
    record { knows = knows; parent = parent; earlier = earlier; sets = sets; shares = shares }

coherent_grant : (t : Tables) → IsChecked t → (g : GrantId) (grant : Grant) → row t.grants g.0 ≡ Some grant → IsCoherentGrant t g grant
coherent_grant t checked g grant is =
    let (i, next, free) = by_number t.grants (GrantFault t) checked.grants g.0 grant is in
    let sound = sound_grant t i grant free in
    record {
      knows = sound.knows;
      parent = sound.parent;
      earlier = subst (λ (n : ℕ). NamesEarlier n grant) (sym (next ∙ sym (add-one i))) sound.earlier;
      sets = sound.sets;
      shares = sound.shares;
    }

pub coherent : (t : Tables) → IsChecked t → IsCoherent t
coherent t checked = record {
  apps = λ p app is. (let (i, next, free) = by_number t.apps (AppFault t) checked.apps p.0 app is in sound_manifest t i app free);
  grains = λ n grain is. (let (i, next, free) = by_number t.grains (GrainFault t) checked.grains n.0 grain is in knows_of t i grain free);
  grants = coherent_grant t checked;
}

pub has_numbers : (t : Tables) → IsWithinLimits t → HasNumbers t
has_numbers t limits = let grains = limits.grains in let grants = limits.grants in record { grains = omega arith; grants = omega arith }
