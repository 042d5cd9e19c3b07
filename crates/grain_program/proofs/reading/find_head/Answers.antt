use Rattle.std.proofs.Common.{◌≡◌, nat_eq, drop, true, arith, sym}
use Rattle.std.specs.List.{starts_with}
use Rattle.front_http.specs.Stream.{head_end}
use Rattle.front_http.proofs.HeadEnds.{found_at, found_nowhere}
use Rattle.grain_program.proofs.reading.find_head.Goals as goal

pub returns-then-starts_with : goal.returns-then-starts_with
returns-then-starts_with c =
    let here : starts_with nat_eq (drop c.loop-at.at c.args.bytes.now) head_end ≡ true = cc (c.starts_with.ensures.value, c.split_at.ensures.back) in
    sym (found_at c.loop-at.at c.args.bytes.now c.loop-at.invariant here)

pub returns : goal.returns
returns c = sym (found_nowhere c.args.bytes.now (λ place far. c.loop-at.invariant place (omega arith)))
