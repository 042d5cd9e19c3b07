use Rattle.std.proofs.Common.{sym, ◌∙◌}
use Rattle.front_http.proofs.MemoryText.{memory_head, memory_whole}
use Rattle.front_http.proofs.texts.memory_reply.Goals as goal

pub returns-then-head_only : goal.returns-then-head_only
returns-then-head_only c = rw c.if-head_only.true (c.as_bytes.ensures.value ∙ sym memory_head)

pub returns-else-head_only : goal.returns-else-head_only
returns-else-head_only c = rw c.if-head_only.false (c.as_bytes-else-head_only.ensures.value ∙ sym memory_whole)
