use Rattle.std.proofs.Common.{ℕ, List, [], ◌∷◌, ◌++◌}
use Rattle.std.specs.Int.{w32}
use Rattle.row_formats.specs.Format.{number_bytes, text, list}
use Rattle.row_codec.specs.AppRow.{permission, role, descriptor}
use Rattle.row_codec.proofs.Joined.{on_ok, behind}
use Rattle.row_codec.proofs.apps.AppStored.write_row.Goals as goal

pub returns-clause-written : goal.returns-clause-written
returns-clause-written c =
    let m = c.args.self.now.manifest in
    let end : List ℕ = c.write_list-3.new.writer in
    let requests : List ℕ = (list 65535 descriptor).write m.match_requests in
    let roles : List ℕ = (list 65535 role).write m.roles in
    let permissions : List ℕ = (list 65535 permission).write m.permissions in
    let version : List ℕ = number_bytes w32 m.version in
    on_ok c.write_list-3.result
    (λ last num.
    behind c.args.writer.now (1 ∷ []) (text.write m.title ++ (version ++ (permissions ++ (roles ++ requests)))) c.u8.new.self end c.in_ok-u8.ensures
    (behind c.u8.new.self (text.write m.title) (version ++ (permissions ++ (roles ++ requests))) c.name.new.self end c.in_ok-name.ensures.written
    (behind c.name.new.self version (permissions ++ (roles ++ requests)) c.u32.new.self end c.in_ok-u32.ensures.written
    (behind c.u32.new.self permissions (roles ++ requests) c.write_list.new.writer end (c.in_ok-write_list.ensures.written 65535)
    (behind c.write_list.new.writer roles requests c.write_list-2.new.writer end (c.in_ok-write_list-2.ensures.written 65535) (last 65535))))))
    c.write_list-3.ensures.written
