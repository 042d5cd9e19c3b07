-- Values of one kind that fit their rows, and the numbers that they carry.
use Rattle.std.proofs.Common.{◌≡◌, ℕ, zero, suc, ◌+◌, ◌≤◌, List, [], ◌∷◌, length, Option, Some, None, Result, Ok, Err, refl, sym, ap, subst, ◌∙◌, arith, inl, inr}
use Rattle.std.specs.Prelude.{All, IfOk, slice_get}
use Rattle.std.proofs.lemmas.List.Elements.{All-head, All-tail}
use Rattle.share_graph.specs.declared.state.State.{State}
use Rattle.share_graph.specs.declared.state.Tables.{Tables}
use Rattle.share_graph.specs.declared.rows.App.{App}
use Rattle.share_graph.specs.declared.grants.Grant.{Grant}
use Rattle.share_graph.specs.declared.fault.GraphFault.{GraphFault}
use Rattle.share_graph.specs.Checked.{IsChecked, AppFault, GrantFault}
use Rattle.share_graph.specs.WellFormed.{IsWellFormed}
use Rattle.row_formats.specs.Format.{Format}
use Rattle.row_codec.specs.Rows.{account, grain, saved}
use Rattle.row_codec.specs.AppRow.{app, IsCountableApp}
use Rattle.row_codec.specs.GrantRow.{grant, IsCountableGrant}
use Rattle.row_tables.specs.declared.stored.LoadFault.{LoadFault}
use Rattle.row_tables.specs.Sections.{SectionFits, FitsOwn}
use Rattle.row_tables.specs.TablesRows.{HaveRows}
use Rattle.row_tables.specs.Kept.{AreRowsOf}
use Rattle.row_tables.specs.Numbered.{TablesAreNumbered}
use Rattle.cloud_keeper.specs.declared.row.Row.{Row}

-- ---- the numbers that rows carry

numbered_from : {A : Type 0} (limit : ℕ) (format : ℕ → Format A) (num : A → ℕ) → ((n : ℕ) (x : A) → (format n).fits x → num x ≡ n) → (n : ℕ) (xs : List A) → SectionFits limit format n xs
    → (i : ℕ) (x : A) → slice_get xs i ≡ Some x → num x ≡ n + i
numbered_from limit format num own n [] fits i x e = absurd cc
numbered_from {A} limit format num own n (y ∷ ys) fits zero x e =
    let same : y ≡ x = cc in
    let place : n ≡ n + 0 = omega arith in
    subst (λ (z : A). num z ≡ n) same (own n y fits.1) ∙ place
numbered_from limit format num own n (y ∷ ys) fits (suc i) x e =
    let place : suc n + i ≡ n + suc i = omega arith in
    numbered_from limit format num own (suc n) ys fits.2 i x e ∙ place

from_one : {A : Type 0} (limit : ℕ) (format : ℕ → Format A) (num : A → ℕ) → ((n : ℕ) (x : A) → (format n).fits x → num x ≡ n) → (xs : List A) → SectionFits limit format 1 xs
    → (i : ℕ) (x : A) → slice_get xs i ≡ Some x → num x ≡ i + 1
from_one limit format num own xs fits i x e = numbered_from limit format num own 1 xs fits i x e ∙ omega arith

grant_number : (n : ℕ) (g : Grant) → (grant n).fits g → g.num.0 ≡ n
grant_number n g fits = by_expiry g.expires fits
  where
    by_expiry : (expires : Option ℕ) → (grant n).fits (record g { expires = expires }) → g.num.0 ≡ n
    by_expiry None h = sym (ap (λ (b : Grant). b.num.0) h.1)
    by_expiry (Some end) h = sym (ap (λ (b : Grant). b.num.0) h.0.0.1)

are_numbered : (t : Tables) → HaveRows t → TablesAreNumbered t
are_numbered t h = record {
  accounts = from_one 4096 account (λ a. a.num.0) (λ n a fits. sym (ap (λ b. b.num.0) fits.1)) t.accounts h.accounts;
  apps = from_one 256 app (λ a. a.num.0) (λ n a fits. sym (ap (λ b. b.num.0) fits.1)) t.apps h.apps;
  grains = from_one 16384 grain (λ g. g.num.0) (λ n g fits. sym (ap (λ b. b.num.0) fits.1)) t.grains h.grains;
  grants = from_one 65536 grant (λ g. g.num.0) grant_number t.grants h.grants;
  saved = from_one 65536 saved (λ s. s.num.0) (λ n s fits. sym (ap (λ b. b.num.0) fits.1)) t.saved h.saved;
}

pub all_numbered : (r : Result Tables LoadFault) (rows : List Row) → IfOk r (λ t. AreRowsOf t rows) → IfOk r TablesAreNumbered
all_numbered (Ok t) rows h = are_numbered t h.have
all_numbered (Err e) rows h = tt

-- ---- values that carry their numbers

pub section_fits : {A : Type 0} (limit : ℕ) (format : ℕ → Format A) (num : A → ℕ) (is_countable : A → Type 0) (n : ℕ) (xs : List A) → All (FitsOwn format num is_countable) xs
    → ((i : ℕ) (x : A) → slice_get xs i ≡ Some x → is_countable x) → ((i : ℕ) (x : A) → slice_get xs i ≡ Some x → num x ≡ n + i) → n + length xs ≤ limit + 1 → SectionFits limit format n xs
section_fits limit format num is_countable n [] own short numbered le = tt
section_fits {A} limit format num is_countable n (x ∷ xs) own short numbered le =
    let here : (format (num x)).fits x = All-head (FitsOwn format num is_countable) x xs own (short 0 x refl) in
    let place : num x ≡ n = numbered 0 x refl ∙ omega arith in (
      omega arith,
      subst (λ (m : ℕ). (format m).fits x) place here,
      section_fits limit format num is_countable (suc n) xs (All-tail (FitsOwn format num is_countable) x xs own) (λ i y e. short (suc i) y e) (λ i y e. numbered (suc i) y e ∙ omega arith) (omega arith),
    )

-- ---- the lists of tables without a fault can be counted

app_countable : (t : Tables) (i : ℕ) (a : App) → AppFault t i a None → IsCountableApp a
app_countable t i a h = elim h [
  | inl bad ↦ absurd (none_some _ bad.0)
  | inr good ↦ record { permissions = omega (arith, good.0.few_permissions); roles = omega (arith, good.0.few_roles); descriptors = omega (arith, good.0.few_requests) }
]
  where
    none_some : (f : GraphFault) → None ≡ Some f → ⊥
    none_some f e = cc

grant_countable : (t : Tables) (i : ℕ) (g : Grant) → GrantFault t i g None → IsCountableGrant g
grant_countable t i g h = elim h [
  | inl bad ↦ absurd (none_some _ bad.0)
  | inr known ↦ elim known.1 [
    | inl bad ↦ absurd (none_some _ bad.0)
    | inr fresh ↦ elim fresh.1 [
      | inl bad ↦ absurd (none_some _ bad.0)
      | inr parent ↦ elim parent.1 [
        | inl bad ↦ absurd (none_some _ bad.0)
        | inr earlier ↦ elim earlier.1 [
          | inl bad ↦ absurd (none_some _ bad.0)
          | inr sets ↦ elim sets.1 [
            | inl bad ↦ absurd (none_some _ bad.0)
            | inr good ↦ record { needs = omega (arith, good.0.few_needs); ends = good.0.ends }
          ]
        ]
      ]
    ]
  ]
]
  where
    none_some : (f : GraphFault) → None ≡ Some f → ⊥
    none_some f e = cc

pub apps_countable : (t : Tables) → IsChecked t → (i : ℕ) (a : App) → slice_get t.apps i ≡ Some a → IsCountableApp a
apps_countable t h i a e = app_countable t i a (h.apps i a e)

pub grants_countable : (t : Tables) → IsChecked t → (i : ℕ) (g : Grant) → slice_get t.grants i ≡ Some g → IsCountableGrant g
grants_countable t h i g e = grant_countable t i g (h.grants i g e)

-- ---- the tables of a well-formed state have rows

-- each row fits that of the number that it carries
pub record FitTables (t : Tables) : Type 0 where
  pub accounts : All (FitsOwn account (λ a. a.num.0) (λ a. Unit {0})) t.accounts
  pub apps : All (FitsOwn app (λ a. a.num.0) IsCountableApp) t.apps
  pub grains : All (FitsOwn grain (λ g. g.num.0) (λ g. Unit {0})) t.grains
  pub grants : All (FitsOwn grant (λ g. g.num.0) IsCountableGrant) t.grants
  pub saved : All (FitsOwn saved (λ s. s.num.0) (λ s. Unit {0})) t.saved

from_place : (n i : ℕ) → n ≡ i + 1 → n ≡ 1 + i
from_place n i e = omega (arith, e)

formed_have_rows : (s : State) → IsWellFormed s → FitTables s.tables → HaveRows s.tables
formed_have_rows s formed fit = record {
  accounts = section_fits 4096 account (λ a. a.num.0) (λ a. Unit {0}) 1 s.tables.accounts fit.accounts (λ i x e. tt) (λ i x e. from_place x.num.0 i (formed.numbered.accounts i x e)) (omega (arith, formed.limits.accounts));
  apps = section_fits 256 app (λ a. a.num.0) IsCountableApp 1 s.tables.apps fit.apps (apps_countable s.tables formed.tables) (λ i x e. from_place x.num.0 i (formed.numbered.apps i x e)) (omega (arith, formed.limits.apps));
  grains = section_fits 16384 grain (λ g. g.num.0) (λ g. Unit {0}) 1 s.tables.grains fit.grains (λ i x e. tt) (λ i x e. from_place x.num.0 i (formed.numbered.grains i x e)) (omega (arith, formed.limits.grains));
  grants = section_fits 65536 grant (λ g. g.num.0) IsCountableGrant 1 s.tables.grants fit.grants (grants_countable s.tables formed.tables) (λ i x e. from_place x.num.0 i (formed.numbered.grants i x e)) (omega (arith, formed.limits.grants));
  saved = section_fits 65536 saved (λ s. s.num.0) (λ s. Unit {0}) 1 s.tables.saved fit.saved (λ i x e. tt) (λ i x e. from_place x.num.0 i (formed.numbered.saved i x e)) (omega (arith, formed.limits.saved));
}

pub have_rows_of : (s : State) (t : Tables) → IsWellFormed s → s.tables ≡ t → FitTables t → HaveRows t
have_rows_of s t formed is = subst (λ (u : Tables). FitTables u → HaveRows u) is (formed_have_rows s formed)
