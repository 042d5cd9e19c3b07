use Rattle.std.proofs.Common.{ℕ, List, subst, inl}
use Rattle.admin_run.specs.Outside.{Tells}
use Rattle.admin_run.proofs.judging.judge_rows.Goals as goal

pub returns-in-Ok-counts_line-clause-judged : goal.returns-in-Ok-counts_line-clause-judged
returns-in-Ok-counts_line-clause-judged g c =
    inl (
      c.in-Ok.tables,
      c.in-Ok.ensures.exact.0,
      c.in-Ok.ensures.exact.1,
      subst (λ (line : List ℕ). Tells (g.O.Sink.outlet c.args.out.now) (g.O.Sink.outlet c.tell_line.new.out) line 0 c.tell_line.result) c.in-Ok-counts_line.ensures c.tell_line.ensures.tells,
    )
