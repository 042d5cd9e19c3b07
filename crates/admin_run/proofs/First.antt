-- The tables with the first account alone are a well-formed state without sessions, and a keeper that has just its row has them.
use Rattle.std.proofs.Common.{◌≡◌, ◌∙◌, ◌≤◌, ℕ, zero, suc, IsTrue, List, [], ◌∷◌, Option, None, Some, Ok, length, refl, ap, sym, subst, arith}
use Rattle.std.proofs.lemmas.List.{nil_from_length}
use Rattle.cloud_keeper.specs.Keeping.{Keeping, RowsFollow, TellsStill}
use Rattle.cloud_keeper.specs.declared.row.Row.{Row}
use Rattle.share_graph.specs.declared.rows.Account.{Account}
use Rattle.share_graph.specs.declared.state.Tables.{Tables}
use Rattle.share_graph.specs.WellFormed.{AreNumbered, IsWellFormed, IsWithinLimits}
use Rattle.row_tables.specs.Checks.{GivesTables}
use Rattle.row_tables.specs.Kept.{AreRowsOf, IsStored}
use Rattle.row_tables.specs.Numbered.{TablesAreNumbered}
use Rattle.host_base.specs.Drawing.{Drawer}
use Rattle.admin_run.specs.Beginning.{Begins, BeginsWith, HadRows}
use Rattle.first_account.specs.First.{HasJust, HasNoRows, first_admin, first_row, first_tables}
use Rattle.first_account.proofs.Opening.{first_checked, first_kept}
use Rattle.hub_core.specs.Opening.{AreOfKeeper, opened}
use Rattle.hub_core.proofs.Opened.{opened_formed}

within_limits : (token : List ℕ) → IsWithinLimits (first_tables token)
within_limits token = record { accounts = omega arith; apps = omega arith; grains = omega arith; grants = omega arith; saved = omega arith }

numbered_account : (token : List ℕ) → AreNumbered (λ account. account.num.0) (first_admin token ∷ [])
numbered_account token zero account is =
    let same : first_admin token ≡ account = cc is in
    subst (λ (a : Account). a.num.0 ≡ 1) same refl
numbered_account token (suc i) account is = absurd (cc is)

numbered : (token : List ℕ) → TablesAreNumbered (first_tables token)
numbered token = record {
  accounts = numbered_account token;
  apps = λ i row is. absurd (cc is);
  grains = λ i row is. absurd (cc is);
  grants = λ i row is. absurd (cc is);
  saved = λ i row is. absurd (cc is);
}

pub first_formed : (tables : Tables) (token : List ℕ) → tables ≡ first_tables token → IsWellFormed (opened tables)
first_formed tables token is =
    subst (λ (t : Tables). IsWellFormed (opened t)) (sym is) (opened_formed (first_tables token) (first_checked token) (within_limits token) (numbered token))

pub first_stored : (keeping : Keeping) (tables : Tables) (token : List ℕ) → tables ≡ first_tables token → HasJust (first_row token) keeping → IsStored keeping tables
first_stored keeping tables token is just = record {
  told = λ rows told.
      subst (λ (t : Tables). AreRowsOf t rows) (sym is) (subst (λ (list : List Row). AreRowsOf (first_tables token) list) (sym (just rows told)) (first_kept token));
}

-- rows that stayed as they were, and stayed so again
pub kept_before : (before now later : Keeping) → RowsFollow before now (λ rows. rows) → RowsFollow now later (λ rows. rows) → RowsFollow before later (λ rows. rows)
kept_before before now later first then = record {
  told = λ rows told.
      (let (mid, was, same) = then.told rows told in
      let (front, were, alike) = first.told mid was in
      (front, were, same ∙ alike));
}

-- a keeper whose loaded rows are none has none
pub none_loaded : (keeping : Keeping) (items : List Row) → ((rows : List Row) → keeping.rows ≡ Some rows → items ≡ rows) → length items ≡ 0 → HasNoRows keeping
none_loaded keeping items loaded none = λ rows told. sym (loaded rows told) ∙ nil_from_length items none

-- rows that were loaded are those that were told before, where the store is clean still
pub of_keeper : (old now : Keeping) (items : List Row) → ((rows : List Row) → now.rows ≡ Some rows → items ≡ rows) → TellsStill old now (λ rows. rows) → AreOfKeeper old now items
of_keeper old now items loaded tells = λ clean rows was. loaded rows (tells.told clean rows was)

pub had_none : (old now : Keeping) (items : List Row) → AreOfKeeper old now items → length items ≡ 0 → HadRows old now (λ rows. rows ≡ [])
had_none old now items are none = λ clean rows was. sym (are clean rows was) ∙ nil_from_length items none

-- these tables are stated by rows, and are well formed
abbrev pub StatesTables : List Row → Tables → Type 0
StatesTables rows t = GivesTables (Ok t) rows × AreRowsOf t rows × IsWellFormed (opened t)

-- it begins again with the tables of its rows
pub begins_again : (old new : Keeping) (drawer : Drawer) (items : List Row) (tables : Tables) → ((rows : List Row) → new.rows ≡ Some rows → items ≡ rows) → TellsStill old new (λ rows. rows) → (length items ≡ 0 → ⊥)
    → StatesTables items tables → old.faults ≤ new.faults → (IsTrue new.clean → IsTrue old.clean) → Begins old new drawer drawer tables None
begins_again old new drawer items tables loaded tells some states counts clean =
    let are = of_keeper old new items loaded tells in
    record {
      with = (λ is rows was none. some (ap length (are is rows was ∙ none)), record { rows = items; told = are; read = states.0 });
      formed = states.2;
      stored = record { told = λ rows told. subst (λ (list : List Row). AreRowsOf tables list) (loaded rows told) states.1 };
      drew = refl;
      store_counts = counts;
      clean = clean;
      secrets_count = omega arith;
    }

-- what it began with stays so while the store stays clean
pub begins_on : (old now later : Keeping) (tables : Tables) (login : Option (List ℕ)) → (IsTrue later.clean → IsTrue now.clean) → BeginsWith old now tables login → BeginsWith old later tables login
begins_on old now later tables None clean (some, loaded) =
    (λ is. some (clean is), record { rows = loaded.rows; told = λ is. loaded.told (clean is); read = loaded.read })
begins_on old now later tables (Some token) clean (none, is) = (λ still. none (clean still), is)
