use Rattle.std.proofs.Common.{◌≡◌, [], Some, None, take, ap, sym, ◌∙◌, subst}
use Rattle.std.proofs.lemmas.List.{length-take-le}
use Rattle.front_http.specs.Stream.{head_length}
use Rattle.front_http.specs.Pending.{HasNoEndBefore}
use Rattle.front_http.proofs.Fronts.{HeadStays, head_stays}
use Rattle.front_http.proofs.Looking.{run_searched, known_head, part_head}
use Rattle.front_http.proofs.look.look_on.Goals as goal

pub find_head-requires : goal.find_head-requires
find_head-requires c = subst (HasNoEndBefore c.args.from) (sym c.head_run.ensures) (run_searched c.args.from c.args.held.now c.requires)

pub slice_bounds-read_head-end : goal.slice_bounds-read_head-end
slice_bounds-read_head-end c =
    let ends : head_length (take 16384 c.args.held.now) ≡ Some c.in-Some.length = ap head_length (sym c.head_run.ensures) ∙ sym c.in-Some.ensures in
    let stays : HeadStays c.args.held.now [] c.in-Some.length = head_stays c.args.held.now [] c.in-Some.length ends in
    sym (length-take-le c.in-Some.length c.args.held.now stays.within)

pub look_behind-requires : goal.look_behind-requires
look_behind-requires c =
    let ends : head_length (take 16384 c.args.held.now) ≡ Some c.in-Some.length = ap head_length (sym c.head_run.ensures) ∙ sym c.in-Some.ensures in
    known_head c.args.held.now c.in-Some.length c.in-Ok.head ends c.in-Ok.ensures.head

pub returns-else-held-gt-HEAD_LIMIT : goal.returns-else-held-gt-HEAD_LIMIT
returns-else-held-gt-HEAD_LIMIT c =
    let ends : head_length (take 16384 c.args.held.now) ≡ None = ap head_length (sym c.head_run.ensures) ∙ sym c.in-None.ensures in
    rw c.saturating_sub.ensures (part_head c.args.held.now ends c.if-held-gt-HEAD_LIMIT.false)
