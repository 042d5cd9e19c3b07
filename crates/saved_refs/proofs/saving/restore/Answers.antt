use Rattle.std.proofs.Common.{sym, ◌∙◌, inl, inr, refl}
use Rattle.std.proofs.lemmas.Bool.{false≢true}
use Rattle.desk_base.specs.Outcomes.{step_of}
use Rattle.desk_base.proofs.Stopped.{stopped}
use Rattle.desk_base.proofs.Words.{lacking}
use Rattle.share_graph.specs.declared.facts.Node.TheVariants as node
use Rattle.share_graph.specs.declared.grants.Target.TheVariants as target
use Rattle.saved_refs.specs.Commands.{Restore}
use Rattle.saved_refs.proofs.Named.{reference_grant, own_node}
use Rattle.saved_refs.proofs.saving.restore.Goals as goal

pub has_entry-requires-clause-there : goal.has_entry-requires-clause-there
has_entry-requires-clause-there c =
    let saved = c.in_ok-saved.saved.now in
    let (grant, is, to) = reference_grant c.args.state.now c.requires.formed saved c.in_ok-saved.ensures.one.listed in
    own_node c.args.state.now.tables saved.grant grant (target.Grain saved.holder) is to tt

pub returns-in_err-has_entry-clause-row : goal.returns-in_err-has_entry-clause-row
returns-in_err-has_entry-clause-row c =
    stopped (Restore c.args.state.now c.args.caller.now c.args.token.now) step_of c.from_residual-in_err-has_entry.result c.in_err-has_entry.field-0.0 c.from_residual-in_err-has_entry.ensures.1
    (inr (_, c.in_ok-run.ensures.one, inr (c.in_ok-run.ensures.kept, inr (c.in_ok-run.ensures.live, inr (_, c.in_ok-saved.ensures.one, inr (c.in_ok-saved.ensures.holder, inr (λ gone. false≢true (sym c.if-saved.false ∙ gone), inl (lacking c.args.state.now.tables (node.Grant c.in_ok-saved.saved.now.grant) c.in_err-has_entry.field-0.0 c.in_err-has_entry.ensures))))))))

pub returns-in-Some-clause-row : goal.returns-in-Some-clause-row
returns-in-Some-clause-row c = rw c.shown.ensures (inr (_, c.in_ok-run.ensures.one, inr (c.in_ok-run.ensures.kept, inr (c.in_ok-run.ensures.live, inr (_, c.in_ok-saved.ensures.one, inr (c.in_ok-saved.ensures.holder, inr (λ gone. false≢true (sym c.if-saved.false ∙ gone), inr (c.in_ok-has_entry.ensures, inl (_, refl, c.in-Some.ensures)))))))))

pub returns-in_err-handle-clause-row : goal.returns-in_err-handle-clause-row
returns-in_err-handle-clause-row c =
    stopped (Restore c.args.state.now c.args.caller.now c.args.token.now) step_of c.from_residual-in_err-handle.result c.in_err-handle.field-0.0 c.from_residual-in_err-handle.ensures.1
    (inr (_, c.in_ok-run.ensures.one, inr (c.in_ok-run.ensures.kept, inr (c.in_ok-run.ensures.live, inr (_, c.in_ok-saved.ensures.one, inr (c.in_ok-saved.ensures.holder, inr (λ gone. false≢true (sym c.if-saved.false ∙ gone), inr (c.in_ok-has_entry.ensures, inr (c.in_default.ensures, inl (_, refl, c.in_err-handle.ensures))))))))))

pub returns-clause-row : goal.returns-clause-row
returns-clause-row c = rw (c.shown-made.ensures, c.in_ok-handle.ensures.0) (inr (_, c.in_ok-run.ensures.one, inr (c.in_ok-run.ensures.kept, inr (c.in_ok-run.ensures.live, inr (_, c.in_ok-saved.ensures.one, inr (c.in_ok-saved.ensures.holder, inr (λ gone. false≢true (sym c.if-saved.false ∙ gone), inr (c.in_ok-has_entry.ensures, inr (c.in_default.ensures, inr (refl, c.in_ok-handle.ensures.1))))))))))
