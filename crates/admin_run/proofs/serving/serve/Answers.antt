use Rattle.std.proofs.Common.{inr, arith}
use Rattle.admin_run.proofs.Ends.{serves_from, stops_at_login}
use Rattle.admin_run.proofs.Told.{is_five, rose_more}
use Rattle.admin_run.proofs.serving.serve.Goals as goal

pub returns-then-told-ne0-clause-serves : goal.returns-then-told-ne0-clause-serves
returns-then-told-ne0-clause-serves g c = rw (← c.world.view_is, ← c.world-inside.view_is)
    (let five = is_five c.announce-told.result c.announce-told.ensures.either c.if-told-ne0.true in
    inr (stops_at_login _ _ _ c.announce-told.result _ _ _ _ _ _ c.in-Ok.ensures.begins _ c.in-Ok.ensures.outlive c.announce-told.ensures.tells five))

pub returns-then-told-ne0-clause-cause : goal.returns-then-told-ne0-clause-cause
returns-then-told-ne0-clause-cause g c = rw (← c.world.view_is, ← c.world-inside.view_is)
    (let five = is_five c.announce-told.result c.announce-told.ensures.either c.if-told-ne0.true in
    record {
      taken = λ is. absurd (omega (arith, five, is));
      written = λ is. c.announce-told.ensures.cause is;
      stored = λ is. absurd (omega (arith, five, is));
    })

pub serve_tables-requires-clause-order : goal.serve_tables-requires-clause-order
serve_tables-requires-clause-order g c κs within = rw (← c.world.view_is, ← c.world-inside.view_is) at c.requires.order

pub returns-clause-serves : goal.returns-clause-serves
returns-clause-serves g c = rw (← c.world.view_is, ← c.world-inside.view_is)
    (inr (serves_from _ _ _ c.serve_tables.result.status _ _ _ _ _ _ c.in-Ok.ensures.begins _ c.serve_tables.result.world.tells c.announce-told.result c.if-told-ne0.false c.announce-told.ensures.tells
    c.announce-told.ensures.counts c.serve_tables.ensures.counts c.serve_tables.ensures.serves c.serve_tables.ensures.others))

pub returns-clause-cause : goal.returns-clause-cause
returns-clause-cause g c = rw (← c.world.view_is, ← c.world-inside.view_is)
    (record {
      taken = λ four. inr (c.serve_tables.ensures.taken four);
      written = λ five. rose_more _ _ _ c.announce-told.ensures.counts c.serve_tables.ensures.counts (c.serve_tables.ensures.written five);
      stored = λ nine. absurd (c.serve_tables.ensures.kept nine);
    })
