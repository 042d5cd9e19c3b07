use Rattle.std.proofs.Common.{◌≡◌, inl, inr, refl, rules}
use Rattle.share_graph.specs.declared.facts.Node.TheVariants as node
use Rattle.desk_base.proofs.Stopped.{refused, starved}
use Rattle.desk_base.proofs.Words.{lacking}
use Rattle.share_graph.specs.declared.grants.Target.TheVariants as target
use Rattle.saved_refs.specs.Commands.{Save}
use Rattle.saved_refs.proofs.Named.{handle_grant, own_node}
use Rattle.saved_refs.proofs.saving.save.Goals as goal

pub has_entry-requires-clause-there : goal.has_entry-requires-clause-there
has_entry-requires-clause-there c =
    let run = c.in_ok-run.run'.now in
    let own = c.in-Some.own.now in
    let (grant, is, to) = handle_grant c.args.state.now c.requires.formed run own c.in_ok-run.ensures.one.listed c.in-Some.ensures.listed c.in-Some.ensures.is.0 in
    own_node c.args.state.now.tables own.grant grant (target.Grain run.grain) is to tt

pub returns-in_err-has_entry-clause-row : goal.returns-in_err-has_entry-clause-row
returns-in_err-has_entry-clause-row c =
    refused (Save c.args.state.now c.args.caller.now c.args.handle c.args.label.now) c.from_residual-in_err-has_entry.result c.in_err-has_entry.field-0.0 c.from_residual-in_err-has_entry.ensures.1
    (inr (_, c.in_ok-run.ensures.one, inr (c.in_ok-run.ensures.kept, inr (c.in_ok-run.ensures.live, inr (_, c.in-Some.ensures, inl (lacking c.args.state.now.tables (node.Grant c.in-Some.own.now.grant) c.in_err-has_entry.field-0.0 c.in_err-has_entry.ensures))))))

pub returns-in_err-has_room-clause-row : goal.returns-in_err-has_room-clause-row
returns-in_err-has_room-clause-row c =
    refused (Save c.args.state.now c.args.caller.now c.args.handle c.args.label.now) c.from_residual-in_err-has_room.result c.in_err-has_room.field-0.0 c.from_residual-in_err-has_room.ensures.1
    (inr (_, c.in_ok-run.ensures.one, inr (c.in_ok-run.ensures.kept, inr (c.in_ok-run.ensures.live, inr (_, c.in-Some.ensures, inr (c.in_ok-has_entry.ensures, inl (_, refl, rw c.as_slice-count.ensures at c.in_err-has_room.ensures)))))))

pub returns-in_err-clone-clause-row : goal.returns-in_err-clone-clause-row
returns-in_err-clone-clause-row c =
    starved (Save c.args.state.now c.args.caller.now c.args.handle c.args.label.now) c.from_residual-in_err-clone.result c.from_residual-in_err-clone.ensures.1
    (_, inr (_, c.in_ok-run.ensures.one, inr (c.in_ok-run.ensures.kept, inr (c.in_ok-run.ensures.live, inr (_, c.in-Some.ensures, inr (c.in_ok-has_entry.ensures, inr (refl, rw c.as_slice-count.ensures at c.in_ok-has_room.ensures)))))))

pub returns-clause-row : goal.returns-clause-row
returns-clause-row c =
    let same : c.in_ok-clone.field-0 ≡ c.args.label.now = search rules in
    rw (c.as_slice-count.ensures, same) (inr (_, c.in_ok-run.ensures.one, inr (c.in_ok-run.ensures.kept, inr (c.in_ok-run.ensures.live, inr (_, c.in-Some.ensures, inr (c.in_ok-has_entry.ensures, inr (refl, rw c.as_slice-count.ensures at c.in_ok-has_room.ensures)))))))
