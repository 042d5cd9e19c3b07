use Rattle.std.proofs.Common.{arith}
use Rattle.row_formats.proofs.Whole.{is_found, is_only, is_short, is_spare}
use Rattle.row_codec.proofs.bodies.read_body.Goals as goal

pub returns-clause-found : goal.returns-clause-found
returns-clause-found g c =
    let f = g.T.Stored.format c.args.num in
    is_found f (g.met.T.Stored.exact c.args.num) c.args.body.now c.read_whole.result (λ i. omega (arith, c.type_inv.body i)) c.read_whole.ensures

pub returns-clause-only : goal.returns-clause-only
returns-clause-only g c =
    let f = g.T.Stored.format c.args.num in
    is_only f (g.met.T.Stored.exact c.args.num) c.args.body.now c.read_whole.result c.read_whole.ensures

pub returns-clause-short : goal.returns-clause-short
returns-clause-short g c =
    let f = g.T.Stored.format c.args.num in
    is_short f (g.met.T.Stored.exact c.args.num) c.args.body.now c.read_whole.result c.read_whole.ensures

pub returns-clause-spare : goal.returns-clause-spare
returns-clause-spare g c =
    let f = g.T.Stored.format c.args.num in
    is_spare f (g.met.T.Stored.exact c.args.num) c.args.body.now c.read_whole.result c.read_whole.ensures
