use Rattle.std.proofs.Common.{ℕ, List, [], ◌∷◌, ◌++◌}
use Rattle.row_formats.specs.Format.{flag, list}
use Rattle.row_codec.specs.Ids.{grain_id}
use Rattle.row_codec.specs.GrantRow.{giver_format, target_format, assignment, need_format, token}
use Rattle.row_codec.proofs.Joined.{on_ok, behind}
use Rattle.row_codec.proofs.grants.put_fields.Goals as goal

pub returns-clause-written : goal.returns-clause-written
returns-clause-written c =
    let g = c.args.grant.now in
    let end : List ℕ = c.flag.new.self in
    let revoked : List ℕ = flag.write g.revoked in
    let tokens : List ℕ = token.write g.digest in
    let needs : List ℕ = (list 65535 need_format).write g.needs in
    let given : List ℕ = assignment.write g.assignment in
    let to : List ℕ = target_format.write g.target in
    let by : List ℕ = giver_format.write g.giver in
    on_ok c.flag.result
    (λ last num.
    behind c.args.writer.now (c.args.version ∷ []) (grain_id.write g.grain ++ (by ++ (to ++ (given ++ (needs ++ (tokens ++ revoked)))))) c.u8.new.self end c.in_ok-u8.ensures
    (behind c.u8.new.self (grain_id.write g.grain) (by ++ (to ++ (given ++ (needs ++ (tokens ++ revoked))))) c.u32.new.self end c.in_ok-u32.ensures.written
    (behind c.u32.new.self by (to ++ (given ++ (needs ++ (tokens ++ revoked)))) c.write_field.new.writer end c.in_ok-write_field.ensures.written
    (behind c.write_field.new.writer to (given ++ (needs ++ (tokens ++ revoked))) c.write_field-2.new.writer end c.in_ok-write_field-2.ensures.written
    (behind c.write_field-2.new.writer given (needs ++ (tokens ++ revoked)) c.write_field-3.new.writer end c.in_ok-write_field-3.ensures.written
    (behind c.write_field-3.new.writer needs (tokens ++ revoked) c.write_list.new.writer end (c.in_ok-write_list.ensures.written 65535)
    (behind c.write_list.new.writer tokens revoked c.write_field-4.new.writer end c.in_ok-write_field-4.ensures.written last)))))))
    c.flag.ensures.written
