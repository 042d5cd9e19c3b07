use Rattle.command_line.proofs.LineFacts.{count_said}
use Rattle.command_line.proofs.line.serve_both_line.Goals as goal

pub returns-in_default-2 : goal.returns-in_default-2
returns-in_default-2 c port count tunnels is = c.in_default-2.ensures' tunnels.port tunnels.count
    (count_said 65535 tunnels.port _ _ 4 _ _ is.words_are c.ws_port-item.is c.as_str-in-len6-3.ensures.value is.ws_port_is)
    (count_said 1000000 tunnels.count _ _ 5 _ _ is.words_are c.ws_count-item.is c.as_str-in-len6-4.ensures.value is.ws_count_is)

pub returns-in_default-2-2 : goal.returns-in_default-2-2
returns-in_default-2-2 c port count tunnels is = (rw c.in_default-2.is-0 at c.serve_numbers.ensures) port count
    (count_said 65535 port _ _ 2 _ _ is.words_are c.port-item.is c.as_str-in-len6.ensures.value is.port_is)
    (count_said 1000000 count _ _ 3 _ _ is.words_are c.count-item.is c.as_str-in-len6-2.ensures.value is.count_is)
