use Rattle.std.proofs.Common.{ℕ, List, ◌∷◌, ◌++◌, sym, ap, ◌∙◌}
use Rattle.std.specs.Int.{w64}
use Rattle.row_formats.specs.Format.{number_bytes}
use Rattle.row_codec.specs.GrantRow.{without_expiry, grant}
use Rattle.row_codec.proofs.GrantWritten.{write_without, write_with}
use Rattle.row_codec.proofs.Joined.{on_ok, then_put}
use Rattle.row_codec.proofs.grants.GrantStored.write_row.Goals as goal

pub returns-in-None-clause-written : goal.returns-in-None-clause-written
returns-in-None-clause-written c =
    on_ok c.put_fields.result (λ put num. put num ∙ ap (λ (t : List ℕ). c.args.writer.now ++ t) (sym (write_without num c.args.self.now c.in-None.is))) c.put_fields.ensures.written

pub returns-in_ok-put_fields-in-Some-clause-written : goal.returns-in_ok-put_fields-in-Some-clause-written
returns-in_ok-put_fields-in-Some-clause-written c =
    let g = c.args.self.now in
    on_ok c.u64.result
    (λ last num. then_put c.args.writer.now (2 ∷ (without_expiry num).write g) (number_bytes w64 c.in-Some.end) c.put_fields-in-Some.new.writer c.u64.new.self ((grant num).write g) (c.in_ok-put_fields-in-Some.ensures.written num) last (write_with num g c.in-Some.end c.in-Some.is))
    c.u64.ensures.written
