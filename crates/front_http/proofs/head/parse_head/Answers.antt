use Rattle.std.proofs.Common.{◌≤◌, ◌/◌, length, rules}
use Rattle.front_http.proofs.HeadSizes.{no_head}
use Rattle.front_http.proofs.head.parse_head.Goals as goal

pub returns-else-line-bytes : goal.returns-else-line-bytes
returns-else-line-bytes c =
    let fit : length c.args.bytes.now / 3 ≤ length c.deref_mut.result.now = search rules in
    no_head c.args.bytes.now _ c.parse_request.new.headers _ c.parse_request.ensures.found fit (rw (c.in-Ok-Complete.is, c.in-Ok-Complete.field-0-is) c.if-line-bytes.false)

pub returns-in-Err : goal.returns-in-Err
returns-in-Err c =
    let fit : length c.args.bytes.now / 3 ≤ length c.deref_mut.result.now = search rules in
    no_head c.args.bytes.now _ c.parse_request.new.headers _ c.parse_request.ensures.found fit (rw c.in-Err.is tt)
