use Rattle.std.proofs.Common.{arith}
use Rattle.hub_core.proofs.Stopping.{settled_outlives}
use Rattle.admin_run.proofs.First.{first_formed, first_stored}
use Rattle.admin_run.proofs.beginning.begin_anew.Goals as goal

pub returns-in-Ok-clause-begins : goal.returns-in-Ok-clause-begins
returns-in-Ok-clause-begins g c = λ before none le clean.
    let made = c.in-Ok.ensures in
    record {
      with = (λ is. none (made.clean is), made.tables);
      formed = first_formed c.in-Ok.tables c.in-Ok.token made.tables;
      stored = first_stored _ c.in-Ok.tables c.in-Ok.token made.tables made.row;
      drew = made.token;
      store_counts = omega (arith, le, made.store_count);
      clean = λ is. clean (made.clean is);
      secrets_count = made.secrets_count;
    }

pub returns-in-Ok-clause-outlive : goal.returns-in-Ok-clause-outlive
returns-in-Ok-clause-outlive g c = settled_outlives (g.K.Keeper.keeping c.first_account.new.keeper) (g.K.Keeper.may_leave c.first_account.new.keeper) c.in-Ok.ensures.settled
