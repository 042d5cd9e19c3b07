use Rattle.std.proofs.lemmas.Bool.{false≢true}
use Rattle.table_check.proofs.FirstFaults.{fault_refutes}
use Rattle.table_check.proofs.well_formed.has_no_fault.Goals as goal

pub returns-in-Err : goal.returns-in-Err
returns-in-Err c = (λ no. absurd (false≢true no), λ checked. absurd (fault_refutes c.args.tables.now _ c.in-Err.ensures.first checked))
