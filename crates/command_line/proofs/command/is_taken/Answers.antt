use Rattle.std.proofs.Common.{map, string_bytes, ◌∙◌}
use Rattle.command_line.proofs.Taking.{fails_by, none_fails, some_fails}
use Rattle.command_line.proofs.command.is_taken.Goals as goal

pub returns-in-Ok-clause-taken : goal.returns-in-Ok-clause-taken
returns-in-Ok-clause-taken c e =
    none_fails _ c.try_get_matches_from.result c.in-Ok.field-0 c.in-Ok.is (fails_by _ (map string_bytes c.args.words.now) c.try_get_matches_from.result c.in_ok-command.ensures c.try_get_matches_from.ensures.kinds)

pub returns : goal.returns
returns c = record {
  taken = λ e. cc e;
  refused = λ e.
      some_fails _ c.try_get_matches_from.result c.in-Err.error c.in-Err.is (λ memory. c.in_default.not-OutOfMemory (c.kind.ensures ∙ memory))
      (fails_by _ (map string_bytes c.args.words.now) c.try_get_matches_from.result c.in_ok-command.ensures c.try_get_matches_from.ensures.kinds);
}
