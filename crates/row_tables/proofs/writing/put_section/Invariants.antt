use Rattle.std.proofs.Common.{◌≡◌, ◌+◌, ◌++◌, take}
use Rattle.std.specs.Prelude.{All}
use Rattle.row_tables.specs.Sections.{section_rows, FitsOwn}
use Rattle.row_tables.proofs.writing.put_section.Given as goal

abbrev pub invariant-loop-value : goal.invariant-loop-value
invariant-loop-value g l =
    record {
      counted : l.num ≡ l.value-index + 1;
      so_far : l.rows.items ≡ l.fn.rows.items ++ section_rows l.kind g.T.Stored.format 1 (take l.value-index l.values);
      fit : All (FitsOwn g.T.Stored.format g.T.Stored.carried g.T.Stored.is_countable) (take l.value-index l.values);
    }
