use Rattle.std.proofs.Common.{◌∙◌, []}
use Rattle.std.proofs.lemmas.Result.{IfOk-weaker}
use Rattle.admin_run.proofs.serving.open_tables.Goals as goal

pub returns-clause-ok : goal.returns-clause-ok
returns-clause-ok g c =
    IfOk-weaker c.from_state.result _ _ (λ locked same.
    same ∙ (λ i. record {
      start = record { tables = c.args.tables; sessions = c.empty.ensures i; runs = c.empty-2.ensures i; handles = c.empty-3.ensures i };
      history = [];
      holds = c.args.held.tell;
      keeper = c.args.held.keeper;
    })) c.from_state.ensures.ok
