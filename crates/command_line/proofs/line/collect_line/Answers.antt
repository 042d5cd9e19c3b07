use Rattle.command_line.proofs.LineFacts.{row_said}
use Rattle.command_line.proofs.line.collect_line.Goals as goal

pub returns-in-None : goal.returns-in-None
returns-in-None c grain grant is = c.in-None.ensures grain grant
    (row_said grain _ _ 2 _ _ is.words_are c.grain-item.is c.as_str-in-len4.ensures.value is.grain_is)
    (row_said grant _ _ 3 _ _ is.words_are c.grant-item.is c.as_str-in-len4-2.ensures.value is.grant_is)
