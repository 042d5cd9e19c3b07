use Rattle.std.proofs.Common.{◌++◌, codes}
use Rattle.admin_run.proofs.Told.{tells_more, tells_part}
use Rattle.admin_run.proofs.telling.tell_value.Goals as goal

pub returns-then-tell_two-ne0-clause-tells : goal.returns-then-tell_two-ne0-clause-tells
returns-then-tell_two-ne0-clause-tells g c =
    tells_part (g.O.Sink.outlet c.args.out.now) (g.O.Sink.outlet c.tell_two.new.out) (c.args.words.now ++ c.args.value.now) (codes "\n") c.args.done c.tell_two.result c.if-tell_two-ne0.true c.tell_two.ensures.tells

pub returns-clause-tells : goal.returns-clause-tells
returns-clause-tells g c =
    tells_more (g.O.Sink.outlet c.args.out.now) (g.O.Sink.outlet c.tell_two.new.out) (g.O.Sink.outlet c.tell.new.out) (c.args.words.now ++ c.args.value.now) (codes "\n") c.tell_two.result c.args.done c.tell.result
    c.if-tell_two-ne0.false c.tell_two.ensures.tells c.tell_two.ensures.counts c.tell.ensures.counts c.tell.ensures.tells
