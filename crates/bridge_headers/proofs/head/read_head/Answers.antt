use Rattle.std.proofs.Common.{rules, ◌/◌, ◌≤◌, length}
use Rattle.bridge_headers.proofs.HeadLemmas.{no_head}
use Rattle.bridge_headers.proofs.head.read_head.Goals as goal

pub returns-in-Err : goal.returns-in-Err
returns-in-Err c =
    let fit : length c.args.head.now / 3 ≤ length c.deref_mut.result.now = search rules in
    no_head c.args.head.now _ c.parse_response.new.headers _ c.parse_response.ensures.found fit (rw c.in-Err.is tt)

pub returns-else-line-head : goal.returns-else-line-head
returns-else-line-head c =
    let fit : length c.args.head.now / 3 ≤ length c.deref_mut.result.now = search rules in
    no_head c.args.head.now _ c.parse_response.new.headers _ c.parse_response.ensures.found fit (rw c.in-Ok-Complete.is (rw c.in-Ok-Complete.field-0-is c.if-line-head.false))
