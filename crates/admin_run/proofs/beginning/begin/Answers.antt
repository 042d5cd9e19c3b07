use Rattle.std.proofs.Common.{◌≡◌, arith, length, subst}
use Rattle.std.proofs.lemmas.Bool.Decides.{nat_tests}
use Rattle.hub_core.proofs.Stopping.{settled_outlives}
use Rattle.admin_run.proofs.First.{StatesTables, begins_again, had_none, of_keeper}
use Rattle.admin_run.proofs.beginning.begin.Goals as goal

pub returns-then-is_empty-clause-begins : goal.returns-then-is_empty-clause-begins
returns-then-is_empty-clause-begins g c =
    let keeping = g.K.Keeper.keeping c.args.keeper.now in
    let zero : length c.in-Ok.rows.items ≡ 0 = grind (arith, nat_tests, c.is_empty.ensures, c.if-is_empty.true, c.in-Ok.rows.ok.0) in
    let are = of_keeper keeping (g.K.Keeper.keeping c.load.new.self) c.in-Ok.rows.items c.in-Ok.ensures.loaded c.in-Ok.ensures.tells in
    c.begin_anew.ensures.begins keeping (had_none keeping (g.K.Keeper.keeping c.load.new.self) c.in-Ok.rows.items are zero) c.in-Ok.ensures.counts c.in-Ok.ensures.clean

pub returns-then-is_empty-clause-fails : goal.returns-then-is_empty-clause-fails
returns-then-is_empty-clause-fails g c = c.begin_anew.ensures.fails (g.K.Keeper.keeping c.args.keeper.now) c.in-Ok.ensures.same c.in-Ok.ensures.counts

pub returns-in-Ok-clause-begins : goal.returns-in-Ok-clause-begins
returns-in-Ok-clause-begins g c =
    begins_again (g.K.Keeper.keeping c.args.keeper.now) (g.K.Keeper.keeping c.load.new.self) (g.S.Secrets.drawer c.args.secrets.now) c.in-Ok.rows.items c.in_ok-tables-in-Ok.tables c.in-Ok.ensures.loaded c.in-Ok.ensures.tells
    (λ none. grind (arith, nat_tests, c.is_empty.ensures, c.if-is_empty.false, c.in-Ok.rows.ok.0, none))
    (subst (λ list. StatesTables list c.in_ok-tables-in-Ok.tables) c.as_slice.ensures.value c.in_ok-tables-in-Ok.ensures.tables) c.in-Ok.ensures.counts c.in-Ok.ensures.clean

pub returns-in-Ok-clause-outlive : goal.returns-in-Ok-clause-outlive
returns-in-Ok-clause-outlive g c = settled_outlives (g.K.Keeper.keeping c.load.new.self) (g.K.Keeper.may_leave c.load.new.self) c.in-Ok.ensures.settled
