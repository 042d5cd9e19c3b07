use Rattle.std.proofs.Common.{◌≡◌, ◌+◌, ◌-◌, ◌≤◌, length, drop}
use Rattle.row_tables.specs.Sections.{AreBytes, body_of, section_at}
use Rattle.row_tables.proofs.SectionLoop.{with_front}
use Rattle.row_tables.proofs.sections.section_of.Given as goal

abbrev pub invariant-loop-at : goal.invariant-loop-at
invariant-loop-at g l =
    record {
      within : l.at ≤ length l.rows;
      numbers : l.next ≤ l.limit + 1;
      bytes : AreBytes l.rows l.fn.from → AreBytes l.rows l.at;
      so_far : with_front l.values (section_at l.kind l.limit (body_of g.T.Stored.format) l.next l.at (drop l.at l.rows)) ≡ section_at l.kind l.limit (body_of g.T.Stored.format) 1 l.fn.from (drop l.fn.from l.rows);
    }

abbrev pub decreases-loop-at : goal.decreases-loop-at
decreases-loop-at g l = length l.rows - l.at
