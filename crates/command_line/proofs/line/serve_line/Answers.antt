use Rattle.command_line.proofs.LineFacts.{count_said}
use Rattle.command_line.proofs.line.serve_line.Goals as goal

pub returns-in-None : goal.returns-in-None
returns-in-None c port count is = c.in-None.ensures port count
    (count_said 65535 port _ _ 2 _ _ is.words_are c.port-item.is c.as_str-in-len4.ensures.value is.port_is)
    (count_said 1000000 count _ _ 3 _ _ is.words_are c.count-item.is c.as_str-in-len4-2.ensures.value is.count_is)
