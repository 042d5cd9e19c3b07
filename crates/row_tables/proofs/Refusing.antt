-- Tables that were read are within the limits, and what has a fault is not without one.
use Rattle.std.proofs.Common.{◌≡◌, ℕ, suc, ◌+◌, ◌≤◌, List, [], ◌∷◌, length, Some, Result, Ok, Err, sym, ap, subst, ◌∙◌, arith, inl, inr}
use Rattle.std.specs.Prelude.{IfOk}
use Rattle.share_graph.specs.Checked.{IsChecked, TablesFault}
use Rattle.share_graph.specs.WellFormed.{IsWithinLimits}
use Rattle.share_graph.specs.declared.fault.GraphFault.{GraphFault}
use Rattle.share_graph.specs.declared.state.Tables.{Tables}
use Rattle.table_check.proofs.FirstFaults.{fault_refutes}
use Rattle.row_formats.specs.Format.{Format}
use Rattle.row_codec.specs.Rows.{account, grain, saved}
use Rattle.row_codec.specs.AppRow.{app}
use Rattle.row_codec.specs.GrantRow.{grant}
use Rattle.row_formats.proofs.Steps.{ok_is}
use Rattle.cloud_keeper.specs.declared.row.Row.{Row}
use Rattle.row_tables.specs.declared.stored.BadRow.{BadRow}
use Rattle.row_tables.specs.declared.stored.LoadFault.{LoadFault}
use Rattle.row_tables.specs.declared.stored.LoadFault.TheVariants as load
use Rattle.row_tables.specs.Sections.{SectionFits, FailsRows, GivesRow}
use Rattle.row_tables.specs.TablesRows.{HaveRows, at_start, tables_of}
use Rattle.row_tables.specs.Checks.{bad_ref, GivesTables}
use Rattle.row_tables.specs.Kept.{AreRowsOf}
use Rattle.row_tables.proofs.AtStart.{checked_at_start}
use Rattle.row_tables.proofs.SectionExact.{tables_again}

few : {A : Type 0} (limit : ℕ) (format : ℕ → Format A) (n : ℕ) (xs : List A) → n ≤ limit + 1 → SectionFits limit format n xs → n + length xs ≤ limit + 1
few limit format n [] le h = omega arith
few limit format n (x ∷ xs) le h = let rest = few limit format (suc n) xs (omega (arith, h.0)) h.2 in omega arith

within : (t : Tables) → HaveRows t → IsWithinLimits t
within t h = record {
  accounts = omega (arith, few 4096 account 1 t.accounts (omega arith) h.accounts);
  apps = omega (arith, few 256 app 1 t.apps (omega arith) h.apps);
  grains = omega (arith, few 16384 grain 1 t.grains (omega arith) h.grains);
  grants = omega (arith, few 65536 grant 1 t.grants (omega arith) h.grants);
  saved = omega (arith, few 65536 saved 1 t.saved (omega arith) h.saved);
}

pub all_within : (r : Result Tables LoadFault) (rows : List Row) → IfOk r (λ t. AreRowsOf t rows) → IfOk r IsWithinLimits
all_within (Ok t) rows h = within t h.have
all_within (Err e) rows h = tt

pub fails_alike : (e : LoadFault) (rows : List Row) → FailsRows e (tables_of rows) → GivesTables (Err e) rows
fails_alike load.Memory rows h = tt
fails_alike (load.BadRow bad) rows h = inl h

pub refused : (t : Tables) (rows : List Row) (f : GraphFault) (bad : BadRow) → tables_of rows ≡ Ok t → TablesFault t (Some f) → bad ≡ bad_ref t f → GivesTables (Err (load.BadRow bad)) rows
refused t rows f bad read has is = inr (t, read, (f, has, is))

pub are_checked : (r : Result Tables LoadFault) (rows : List Row) → GivesTables r rows → IfOk r IsChecked
are_checked (Ok t) rows h = h.1
are_checked (Err e) rows h = tt

pub is_only : (r : Result Tables LoadFault) (rows : List Row) → GivesTables r rows → (t : Tables) → AreRowsOf t rows → IsChecked t → GivesRow (λ u. u) r (Ok (at_start t))
is_only (Ok u) rows h t are checked = sym (ap tables_of are.rows_are ∙ tables_again t are.have) ∙ h.0
is_only (Err load.Memory) rows h t are checked = tt
is_only (Err (load.BadRow bad)) rows h t are checked =
    let read : tables_of rows ≡ Ok (at_start t) = ap tables_of are.rows_are ∙ tables_again t are.have in
    elim h [
      | inl early ↦ absurd (let both : Ok (at_start t) ≡ Err bad = sym read ∙ early in cc)
      | inr w ↦ absurd (let same : w.0 ≡ at_start t = ok_is w.0 (at_start t) (sym w.1 ∙ read) in fault_refutes (at_start t) w.2.0 (subst (λ (u : Tables). TablesFault u (Some w.2.0)) same w.2.1) (checked_at_start t checked))
    ]

-- and it has the moment of a start
pub all_start : (r : Result Tables LoadFault) (rows : List Row) → GivesTables r rows → IfOk r (λ t. AreRowsOf t rows) → IfOk r (λ t. t.moment ≡ 0)
all_start (Ok t) rows h are = let same : at_start t ≡ t = ok_is (at_start t) t (is_only (Ok t) rows h t are h.1) in sym (ap (λ (u : Tables). u.moment) same)
all_start (Err e) rows h are = tt
