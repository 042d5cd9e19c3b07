-- The grant that an event adds, as the indexes are told of it.
use Rattle.std.proofs.Common.{◌≡◌, ◌+◌, ℕ, [], ◌∷◌, ◌++◌, Option, Some, None, length, refl, sym, ◌∙◌, ap, subst, inl, inr}
use Rattle.host_base.specs.declared.ids.GrantId.{GrantId}
use Rattle.share_graph.specs.declared.grants.Grant.{Grant}
use Rattle.share_graph.specs.declared.state.Tables.{Tables}
use Rattle.share_graph.specs.Changing.{change_row}
use Rattle.share_graph.specs.Revoking.{revoke_in}
use Rattle.share_graph.specs.Rows.{row, IsGrant}
use Rattle.share_graph.specs.Setting.{revoked}
use Rattle.share_graph.proofs.Marked.{change_row_other}
use Rattle.least_access.proofs.Turns.{grant_id}
use Rattle.state_step.proofs.Each.{push_old_row}
use Rattle.region_access.specs.declared.fed_grant.NewGrant.{NewGrant}
use Rattle.region_access.specs.NewEdges.{HasNoRow, IsRowOf, IsAlike, AddsGrant}
use Rattle.share_graph.proofs.Marked.{row_changed, row_changed_back, same_number}
use Rattle.live_access.specs.Adding.{IsNewOf}
use Rattle.live_access.proofs.Pushed.{row_new, row_pushed, none_next}

-- a grant is as it was
same_row : (g : GrantId) (grant : Grant) → IsAlike g grant grant
same_row g grant = record { source = refl; needs = refl; grain = refl; node = refl; expires = refl }

-- a grant that is revoked gives from the same source, under the same needs, on the same grain, to the same node, and ends when it
-- did
same_revoked : (g : GrantId) (grant : Grant) → IsAlike g grant (revoked grant)
same_revoked g grant = record { source = refl; needs = refl; grain = refl; node = refl; expires = refl }

-- the grants stay
pub adds_none : (t u : Tables) → ((g : GrantId) → row u.grants g.0 ≡ row t.grants g.0) → AddsGrant None t u
adds_none t u same = record {
  kept = λ g grant is. (grant, same g ∙ is, same_row g grant);
  back = λ g grant is. inl (grant, sym (same g) ∙ is, same_row g grant);
  new = λ one never. absurd (cc never);
}

-- a grant is revoked: its source, its needs, its grain and its node stay
pub adds_none_revoked : (t : Tables) (g : GrantId) → AddsGrant None t (revoke_in t g)
adds_none_revoked t g = record {
  kept = λ h grant is.
      elim (same_number h.0 g.0) [
        | inl same ↦
            let there : row t.grants g.0 ≡ Some grant = subst (λ (k : ℕ). row t.grants k ≡ Some grant) same is in
            let now : row (change_row revoked t.grants g.0) g.0 ≡ Some (revoked grant) = row_changed revoked t.grants g.0 grant there in
            (revoked grant, subst (λ (k : ℕ). row (change_row revoked t.grants g.0) k ≡ Some (revoked grant)) (sym same) now, same_revoked h grant)
        | inr apart ↦ (grant, change_row_other revoked t.grants g.0 h.0 apart ∙ is, same_row h grant)
      ];
  back = λ h grant is.
      elim (same_number h.0 g.0) [
        | inl same ↦
            let (was, there, now) = row_changed_back revoked t.grants g.0 grant (subst (λ (k : ℕ). row (change_row revoked t.grants g.0) k ≡ Some grant) same is) in
            let alike : IsAlike h was grant = subst (λ (x : Grant). IsAlike h was x) now (same_revoked h was) in
            inl (was, subst (λ (k : ℕ). row t.grants k ≡ Some was) (sym same) there, alike)
        | inr apart ↦ inl (grant, sym (change_row_other revoked t.grants g.0 h.0 apart) ∙ is, same_row h grant)
      ];
  new = λ one never. absurd (cc never);
}

module _ (t : Tables) (grant : Grant) (next : grant.num.0 ≡ length t.grants + 1) where
  abbrev pub with_it : Tables
  with_it = record t { grants = t.grants ++ grant ∷ [] }

  pub adds_one : (added : Option NewGrant) → IsNewOf (Some grant) added → AddsGrant added t with_it
  adds_one None never = absurd never
  adds_one (Some one) (num, of) = record {
    kept = λ g x is. (x, push_old_row t.grants (grant ∷ []) g.0 x is, same_row g x);
    back = λ g x is.
        elim (row_pushed t.grants grant g.0 x is) [
          | inl before ↦ inl (x, before, same_row g x)
          | inr (last, same) ↦
              let here : g ≡ grant.num = ap (λ n. grant_id n) (last ∙ sym next) in
              inr (here ∙ sym num, subst (λ (y : Grant). IsRowOf one y) same of)
        ];
    new = λ other is.
        let same : one ≡ other = cc is in
        let at : one.num.0 ≡ length t.grants + 1 = ap (λ (g : GrantId). g.0) num ∙ next in
        let there : row (t.grants ++ grant ∷ []) one.num.0 ≡ Some grant = subst (λ (n : ℕ). row (t.grants ++ grant ∷ []) n ≡ Some grant) (sym at) (row_new t.grants grant) in
        subst (λ (o : NewGrant). (x : Grant) × IsGrant with_it o.num x × IsRowOf o x) same (grant, there, of);
  }

  pub no_row_of_one : (added : Option NewGrant) → IsNewOf (Some grant) added → HasNoRow t added
  no_row_of_one None never = absurd never
  no_row_of_one (Some one) (num, of) = λ x is. none_next t.grants one.num.0 x (ap (λ (g : GrantId). g.0) num ∙ next) is

pub no_row_of_none : (t : Tables) (added : Option NewGrant) → IsNewOf None added → HasNoRow t added
no_row_of_none t None is = tt
no_row_of_none t (Some one) never = absurd never

pub adds_nothing : (t u : Tables) (added : Option NewGrant) → IsNewOf None added → AddsGrant None t u → AddsGrant added t u
adds_nothing t u None is adds = adds
adds_nothing t u (Some one) never adds = absurd never
