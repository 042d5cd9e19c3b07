use Rattle.std.proofs.Common.{take}
use Rattle.front_http.proofs.Pieces.{gives_more}
use Rattle.grain_program.proofs.reading.take_piece.Goals as goal

pub returns-in-Ok-extend_from_slice-clause-keeps : goal.returns-in-Ok-extend_from_slice-clause-keeps
returns-in-Ok-extend_from_slice-clause-keeps g c = (take c.in-Ok.count c.take.new.buf, c.in-Ok-extend_from_slice.ensures.items)

pub returns-in-Ok-extend_from_slice-clause-given : goal.returns-in-Ok-extend_from_slice-clause-given
returns-in-Ok-extend_from_slice-clause-given g c = λ left told.
    gives_more c.args.held.now.items left c.take.new.buf c.extend_from_slice.new.self.items c.in-Ok.count (g.I.Source.inlet c.take.new.self) (c.in-Ok.ensures.given left told) c.in-Ok-extend_from_slice.ensures.items
