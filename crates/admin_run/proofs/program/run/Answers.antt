use Rattle.admin_run.proofs.program.run.Goals as goal

pub perform-requires-clause-book : goal.perform-requires-clause-book
perform-requires-clause-book g c κs within = λ from. c.requires.book (c.in-Ok.line, c.in-Ok.ensures.line, from)

pub perform-requires-clause-registered : goal.perform-requires-clause-registered
perform-requires-clause-registered g c κs within = λ uses. c.requires.registered (c.in-Ok.line, c.in-Ok.ensures.line, uses)

pub perform-requires-clause-order : goal.perform-requires-clause-order
perform-requires-clause-order g c κs within = λ at. c.requires.order (c.in-Ok.line, c.in-Ok.ensures.line, at)

pub perform-requires-clause-outlive : goal.perform-requires-clause-outlive
perform-requires-clause-outlive g c κs within = λ from. c.requires.outlive (c.in-Ok.line, c.in-Ok.ensures.line, from)
