use Rattle.std.proofs.lemmas.Result.{err_from_is_err_and}
use Rattle.share_graph.specs.Checked.{AccountFault, AppFault, GrainFault, GrantFault}
use Rattle.table_check.proofs.FirstFaults.{tables_one, of_apps, of_grains, of_grants, no_fault_of, first_fault_of, last_tells}
use Rattle.table_check.proofs.checking.check_tables.Goals as goal

pub returns-in_err-check_rows-clause-one : goal.returns-in_err-check_rows-clause-one
returns-in_err-check_rows-clause-one c = tables_one c.args.tables.now

pub returns-in_err-check_rows-2-clause-first : goal.returns-in_err-check_rows-2-clause-first
returns-in_err-check_rows-2-clause-first c =
    let t = c.args.tables.now in
    let p = err_from_is_err_and c.from_residual-in_err-check_rows-2.result c.from_residual-in_err-check_rows-2.ensures.1 in
    rw (p.1, p.2) (of_apps t c.in_err-check_rows-2.field-0.0
    (no_fault_of c.as_slice.result.now t.accounts (AccountFault t) c.as_slice.ensures c.in_ok-check_rows.ensures)
    (first_fault_of c.as_slice-2.result.now t.apps (AppFault t) c.in_err-check_rows-2.field-0.0 c.as_slice-2.ensures c.in_err-check_rows-2.ensures))

pub returns-in_err-check_rows-2-clause-one : goal.returns-in_err-check_rows-2-clause-one
returns-in_err-check_rows-2-clause-one c = tables_one c.args.tables.now

pub returns-in_err-check_rows-3-clause-first : goal.returns-in_err-check_rows-3-clause-first
returns-in_err-check_rows-3-clause-first c =
    let t = c.args.tables.now in
    let p = err_from_is_err_and c.from_residual-in_err-check_rows-3.result c.from_residual-in_err-check_rows-3.ensures.1 in
    rw (p.1, p.2) (of_grains t c.in_err-check_rows-3.field-0.0
    (no_fault_of c.as_slice.result.now t.accounts (AccountFault t) c.as_slice.ensures c.in_ok-check_rows.ensures)
    (no_fault_of c.as_slice-2.result.now t.apps (AppFault t) c.as_slice-2.ensures c.in_ok-check_rows-2.ensures)
    (first_fault_of c.as_slice-3.result.now t.grains (GrainFault t) c.in_err-check_rows-3.field-0.0 c.as_slice-3.ensures c.in_err-check_rows-3.ensures))

pub returns-in_err-check_rows-3-clause-one : goal.returns-in_err-check_rows-3-clause-one
returns-in_err-check_rows-3-clause-one c = tables_one c.args.tables.now

pub returns-in_err-check_rows-4-clause-first : goal.returns-in_err-check_rows-4-clause-first
returns-in_err-check_rows-4-clause-first c =
    let t = c.args.tables.now in
    let p = err_from_is_err_and c.from_residual-in_err-check_rows-4.result c.from_residual-in_err-check_rows-4.ensures.1 in
    rw (p.1, p.2) (of_grants t c.in_err-check_rows-4.field-0.0
    (no_fault_of c.as_slice.result.now t.accounts (AccountFault t) c.as_slice.ensures c.in_ok-check_rows.ensures)
    (no_fault_of c.as_slice-2.result.now t.apps (AppFault t) c.as_slice-2.ensures c.in_ok-check_rows-2.ensures)
    (no_fault_of c.as_slice-3.result.now t.grains (GrainFault t) c.as_slice-3.ensures c.in_ok-check_rows-3.ensures)
    (first_fault_of c.as_slice-4.result.now t.grants (GrantFault t) c.in_err-check_rows-4.field-0.0 c.as_slice-4.ensures c.in_err-check_rows-4.ensures))

pub returns-in_err-check_rows-4-clause-one : goal.returns-in_err-check_rows-4-clause-one
returns-in_err-check_rows-4-clause-one c = tables_one c.args.tables.now

pub returns-clause-first : goal.returns-clause-first
returns-clause-first c =
    let t = c.args.tables.now in
    last_tells t c.check_rows-5.result
    (no_fault_of c.as_slice.result.now t.accounts (AccountFault t) c.as_slice.ensures c.in_ok-check_rows.ensures)
    (no_fault_of c.as_slice-2.result.now t.apps (AppFault t) c.as_slice-2.ensures c.in_ok-check_rows-2.ensures)
    (no_fault_of c.as_slice-3.result.now t.grains (GrainFault t) c.as_slice-3.ensures c.in_ok-check_rows-3.ensures)
    (no_fault_of c.as_slice-4.result.now t.grants (GrantFault t) c.as_slice-4.ensures c.in_ok-check_rows-4.ensures)
    (rw c.as_slice-5.ensures at c.check_rows-5.ensures)

pub returns-clause-one : goal.returns-clause-one
returns-clause-one c = tables_one c.args.tables.now
