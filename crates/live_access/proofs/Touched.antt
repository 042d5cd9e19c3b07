-- What each event touches, in its own words.
use Rattle.std.proofs.Common.{◌≡◌, ◌≢◌, ◌⊎◌, ◌+◌, ℕ, List, [], ◌∷◌, ◌++◌, Some, Contains, length, sym, ◌∙◌, ap, subst, inl, inr}
use Rattle.host_base.specs.declared.ids.AccountId.{AccountId}
use Rattle.host_base.specs.declared.ids.GrainId.{GrainId}
use Rattle.host_base.specs.declared.ids.GrantId.{GrantId}
use Rattle.share_graph.specs.declared.facts.Node.{Node}
use Rattle.share_graph.specs.declared.facts.Node.TheVariants as node
use Rattle.share_graph.specs.declared.grants.Grant.{Grant}
use Rattle.share_graph.specs.declared.rows.Account.{Account}
use Rattle.share_graph.specs.declared.rows.Grain.{Grain}
use Rattle.share_graph.specs.declared.state.Tables.{Tables}
use Rattle.share_graph.specs.Changing.{change_row}
use Rattle.share_graph.specs.Coherent.{IsCoherent}
use Rattle.share_graph.specs.Nodes.{node_of}
use Rattle.share_graph.specs.Region.{GivesOutside}
use Rattle.share_graph.specs.Revoking.{revoke_in}
use Rattle.share_graph.specs.Rows.{row, IsGrant, IsEnabled, IsAdmin}
use Rattle.share_graph.specs.Setting.{revoked}
use Rattle.share_graph.proofs.Marked.{change_row_other}
use Rattle.least_access.proofs.Turns.{grant_id}
use Rattle.state_step.proofs.Each.{push_old_row}
use Rattle.region_work.specs.Prepared.{LeadsNowhere, Touches}
use Rattle.region_access.proofs.ManyAccounts.{with_accounts, HasOwnNodes, HasNeeding, gives_by_accounts, touches_by_accounts}
use Rattle.region_access.proofs.ManyGrains.{MayTouch, gives_by_grains, touches_by_grains}
use Rattle.region_access.proofs.OneGrant.{closed_since, gives_back, gives_there, touches}
use Rattle.share_graph.proofs.Marked.{row_changed, row_changed_back, same_number}
use Rattle.live_access.proofs.Pushed.{row_before, row_pushed, none_next}

-- ---- a grant that is added

module _ (t : Tables) (grant : Grant) (next : grant.num.0 ≡ length t.grants + 1) where
  abbrev pub with_grant : Tables
  with_grant = record t { grants = t.grants ++ grant ∷ [] }

  other_grants : (h : GrantId) → h ≢ grant.num → row with_grant.grants h.0 ≡ row t.grants h.0
  other_grants h apart = row_before t.grants grant h.0 (λ e. apart (ap (λ n. grant_id n) (e ∙ sym next)))

  no_grant : (nodes : List Node) (x : Grant) → IsGrant t grant.num x → Contains nodes (node_of grant.num x)
  no_grant nodes x is = absurd (none_next t.grants grant.num.0 x next is)

  the_grant : (nodes : List Node) → Contains nodes (node_of grant.num grant) → (x : Grant) → IsGrant with_grant grant.num x → Contains nodes (node_of grant.num x)
  the_grant nodes inside x there =
      elim (row_pushed t.grants grant grant.num.0 x there) [
        | inl before ↦ absurd (none_next t.grants grant.num.0 x next before)
        | inr (last, same) ↦ subst (λ (y : Grant). Contains nodes (node_of grant.num y)) same inside
      ]

  pub grant_added_touches : (nodes : List Node) → IsCoherent t → IsCoherent with_grant → Contains nodes (node_of grant.num grant) → LeadsNowhere t nodes → Touches nodes t with_grant
  grant_added_touches nodes coherent coherent_after inside closed =
      touches t with_grant.grants grant.num nodes other_grants (no_grant nodes) (the_grant nodes inside) coherent coherent_after
      (closed_since t with_grant.grants grant.num nodes other_grants (the_grant nodes inside) closed)

  pub grant_added_there : IsCoherent t → GivesOutside (Contains []) t with_grant
  grant_added_there coherent = gives_there t with_grant.grants grant.num [] other_grants (no_grant []) coherent

  pub grant_added_back : (nodes : List Node) → IsCoherent with_grant → Contains nodes (node_of grant.num grant) → GivesOutside (Contains nodes) with_grant t
  grant_added_back nodes coherent_after inside = gives_back t with_grant.grants grant.num nodes other_grants (the_grant nodes inside) coherent_after

-- ---- a grant that is revoked

pub grant_revoked_touches : (t : Tables) (g : GrantId) (nodes : List Node) → IsCoherent t → IsCoherent (revoke_in t g)
    → ((grant : Grant) → IsGrant t g grant → Contains nodes (node_of g grant)) → LeadsNowhere t nodes → Touches nodes t (revoke_in t g)
grant_revoked_touches t g nodes coherent coherent_after was closed =
    let gs : List Grant = change_row revoked t.grants g.0 in
    let others : (h : GrantId) → h ≢ g → row gs h.0 ≡ row t.grants h.0 = λ h apart. change_row_other revoked t.grants g.0 h.0 (λ e. apart (ap (λ n. grant_id n) e)) in
    let is : (grant : Grant) → row gs g.0 ≡ Some grant → Contains nodes (node_of g grant) = λ grant there.
    (let (before, known, same) = row_changed_back revoked t.grants g.0 grant there in subst (λ (x : Grant). Contains nodes (node_of g x)) same (was before known)) in
    touches t gs g nodes others was is coherent coherent_after (closed_since t gs g nodes others is closed)

-- ---- a grain that is added

abbrev grain_id : ℕ → GrainId
grain_id n = record { 0 = n }

module _ (t : Tables) (grain : Grain) (next : grain.num.0 ≡ length t.grains + 1) (coherent : IsCoherent t) where
  abbrev pub with_grain : Tables
  with_grain = record t { grains = t.grains ++ grain ∷ [] }

  none_on : (g : GrantId) (grant : Grant) → IsGrant t g grant → grant.grain.0 ≡ length t.grains + 1 → ⊥
  none_on g grant is on = let (row_of, there) = (coherent.grants g grant is).knows.grain in none_next t.grains grant.grain.0 row_of on there

  grain_before : (nodes : List Node) (n : GrainId) (x : Grain) → row t.grains n.0 ≡ Some x → MayTouch t nodes with_grain.grains n x
  grain_before nodes n x is = inl (push_old_row t.grains (grain ∷ []) n.0 x is)

  grain_after : (nodes : List Node) → Contains nodes (node.User grain.num grain.owner) → (n : GrainId) (x : Grain) → row with_grain.grains n.0 ≡ Some x → MayTouch t nodes t.grains n x
  grain_after nodes inside n x is =
      elim (row_pushed t.grains grain n.0 x is) [
        | inl before ↦ inl before
        | inr (last, same) ↦
            let here : grain.num ≡ n = ap (λ k. grain_id k) (next ∙ sym last) in
            let own : Contains nodes (node.User n x.owner) = subst (λ (y : Grain). Contains nodes (node.User n y.owner)) same (subst (λ (m : GrainId). Contains nodes (node.User m grain.owner)) here inside) in
            inr (own, (λ g grant there on. absurd (none_on g grant there (ap (λ (m : GrainId). m.0) on ∙ last))), inr (λ g grant there on. none_on g grant there (ap (λ (m : GrainId). m.0) on ∙ last)))
      ]

  pub grain_added_touches : (nodes : List Node) → IsCoherent with_grain → Contains nodes (node.User grain.num grain.owner) → LeadsNowhere t nodes → Touches nodes t with_grain
  grain_added_touches nodes coherent_after inside closed = touches_by_grains t nodes t.grains with_grain.grains coherent coherent_after (grain_before nodes) (grain_after nodes inside) closed

  pub grain_added_there : GivesOutside (Contains []) t with_grain
  grain_added_there = gives_by_grains t [] t.grains with_grain.grains coherent (grain_before [])

  pub grain_added_back : (nodes : List Node) → IsCoherent with_grain → Contains nodes (node.User grain.num grain.owner) → GivesOutside (Contains nodes) with_grain t
  grain_added_back nodes coherent_after inside = gives_by_grains t nodes with_grain.grains t.grains coherent_after (grain_after nodes inside)

-- ---- an account that becomes an admin or is one no longer, is enabled or disabled, or gets another login

abbrev pub account_id : ℕ → AccountId
account_id n = record { 0 = n }

-- the change of an account's row leaves whether it is enabled, or the nodes have its own nodes
abbrev pub MayEnable : Tables → List Node → AccountId → (Account → Account) → Type 0
MayEnable t nodes a f = ((account : Account) → (f account).enabled ≡ account.enabled) ⊎ HasOwnNodes t nodes a

-- it leaves whether it is enabled and an admin, or the nodes have those that need it as an admin
abbrev pub MayRaise : Tables → List Node → AccountId → (Account → Account) → Type 0
MayRaise t nodes a f = ((account : Account) → ((f account).enabled ≡ account.enabled) × ((f account).admin ≡ account.admin)) ⊎ HasNeeding t nodes a

module _ (t : Tables) (a : AccountId) (f : Account → Account) (nodes : List Node) (own : MayEnable t nodes a f) (raise : MayRaise t nodes a f) where
  abbrev set : List Account
  set = change_row f t.accounts a.0

  abbrev after_set : Tables
  after_set = with_accounts t set

  own_of : (b : AccountId) → b.0 ≡ a.0 → HasOwnNodes t nodes a → HasOwnNodes t nodes b
  own_of b same has = let one : b ≡ a = ap (λ n. account_id n) same in subst (λ (k : AccountId). HasOwnNodes t nodes k) (sym one) has

  needing_of : (b : AccountId) → b.0 ≡ a.0 → HasNeeding t nodes a → HasNeeding t nodes b
  needing_of b same needing = let one : b ≡ a = ap (λ n. account_id n) same in subst (λ (k : AccountId). HasNeeding t nodes k) (sym one) needing

  enabled : (b : AccountId) → IsEnabled t b → IsEnabled after_set b ⊎ HasOwnNodes t nodes b
  enabled b (account, is, is_enabled) =
      elim (same_number b.0 a.0) [
        | inl same ↦
            elim own [
              | inl keeps ↦
                  let there : row t.accounts a.0 ≡ Some account = subst (λ (k : ℕ). row t.accounts k ≡ Some account) same is in
                  let now : row set a.0 ≡ Some (f account) = row_changed f t.accounts a.0 account there in
                  inl (f account, subst (λ (k : ℕ). row set k ≡ Some (f account)) (sym same) now, keeps account ∙ is_enabled)
              | inr has ↦ inr (own_of b same has)
            ]
        | inr apart ↦ inl (account, change_row_other f t.accounts a.0 b.0 apart ∙ is, is_enabled)
      ]

  enabled_before : (b : AccountId) → IsEnabled after_set b → IsEnabled t b ⊎ HasOwnNodes t nodes b
  enabled_before b (account, is, is_enabled) =
      elim (same_number b.0 a.0) [
        | inl same ↦
            elim own [
              | inl keeps ↦
                  let (was, there, now) = row_changed_back f t.accounts a.0 account (subst (λ (k : ℕ). row set k ≡ Some account) same is) in
                  inl (was, subst (λ (k : ℕ). row t.accounts k ≡ Some was) (sym same) there, sym (keeps was) ∙ ap (λ (x : Account). x.enabled) now ∙ is_enabled)
              | inr has ↦ inr (own_of b same has)
            ]
        | inr apart ↦ inl (account, sym (change_row_other f t.accounts a.0 b.0 apart) ∙ is, is_enabled)
      ]

  admin : (b : AccountId) → IsAdmin t b → IsAdmin after_set b ⊎ HasNeeding t nodes b
  admin b (account, is, is_enabled, is_admin) =
      elim (same_number b.0 a.0) [
        | inl same ↦
            elim raise [
              | inl keeps ↦
                  let there : row t.accounts a.0 ≡ Some account = subst (λ (k : ℕ). row t.accounts k ≡ Some account) same is in
                  let now : row set a.0 ≡ Some (f account) = row_changed f t.accounts a.0 account there in
                  inl (f account, subst (λ (k : ℕ). row set k ≡ Some (f account)) (sym same) now, (keeps account).0 ∙ is_enabled, (keeps account).1 ∙ is_admin)
              | inr needing ↦ inr (needing_of b same needing)
            ]
        | inr apart ↦ inl (account, change_row_other f t.accounts a.0 b.0 apart ∙ is, is_enabled, is_admin)
      ]

  admin_before : (b : AccountId) → IsAdmin after_set b → IsAdmin t b ⊎ HasNeeding t nodes b
  admin_before b (account, is, is_enabled, is_admin) =
      elim (same_number b.0 a.0) [
        | inl same ↦
            elim raise [
              | inl keeps ↦
                  let (was, there, now) = row_changed_back f t.accounts a.0 account (subst (λ (k : ℕ). row set k ≡ Some account) same is) in
                  inl (
                    was,
                    subst (λ (k : ℕ). row t.accounts k ≡ Some was) (sym same) there,
                    sym (keeps was).0 ∙ ap (λ (x : Account). x.enabled) now ∙ is_enabled,
                    sym (keeps was).1 ∙ ap (λ (x : Account). x.admin) now ∙ is_admin,
                  )
              | inr needing ↦ inr (needing_of b same needing)
            ]
        | inr apart ↦ inl (account, sym (change_row_other f t.accounts a.0 b.0 apart) ∙ is, is_enabled, is_admin)
      ]

  pub account_set_touches : IsCoherent t → IsCoherent after_set → LeadsNowhere t nodes → Touches nodes t after_set
  account_set_touches coherent coherent_after closed = touches_by_accounts t nodes t.accounts set coherent coherent_after enabled enabled_before admin admin_before closed

  pub account_set_back : IsCoherent after_set → GivesOutside (Contains nodes) after_set t
  account_set_back coherent_after = gives_by_accounts t nodes set t.accounts coherent_after enabled_before admin_before
