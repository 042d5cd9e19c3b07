use Rattle.table_check.proofs.LiveRuns.{one_where_first}
use Rattle.table_check.proofs.live.have_one_live_run.Goals as goal

pub returns : goal.returns
returns c =
    let same = one_where_first c.args.runs.now in
    (λ yes. same.0 (c.are_first_live.ensures.0 yes), λ one. c.are_first_live.ensures.1 (same.1 one))
