use Rattle.std.proofs.Common.{◌≡◌, Option, Some, None, ap, inl, inr, refl}
use Rattle.std.proofs.lemmas.Bool.{false≢true}
use Rattle.desk_base.specs.Limits.{first_of}
use Rattle.desk_base.specs.Steps.{Refuses}
use Rattle.desk_base.specs.Terms.{Refusal}
use Rattle.desk_base.proofs.Stopped.{refused, starved}
use Rattle.desk_base.proofs.Words.{lacking}
use Rattle.share_graph.specs.declared.facts.Node.TheVariants as node
use Rattle.share_graph.specs.declared.grants.Target.TheVariants as target
use Rattle.saved_refs.specs.Commands.{Claim}
use Rattle.saved_refs.proofs.Named.{grant_row, own_node}
use Rattle.saved_refs.proofs.claiming.claim.Goals as goal

-- the first limit of two that is reached
first_over : (a b : Option Refusal) (r : Refusal) → a ≡ Some r → first_of a b ≡ Some r
first_over a b r over = rw over refl

second_over : (a b o : Option Refusal) → a ≡ None → b ≡ o → first_of a b ≡ o
second_over a b o free is = rw free is

pub returns-in_err-chosen-clause-row : goal.returns-in_err-chosen-clause-row
returns-in_err-chosen-clause-row c =
    refused (Claim c.args.state.now c.args.caller.now c.args.token.now c.args.set.now) c.from_residual-in_err-chosen.result c.in_err-chosen.field-0.0 c.from_residual-in_err-chosen.ensures.1
    (inr (
      _,
      c.in_ok-run.ensures.one,
      inr (
        c.in_ok-run.ensures.kept,
        inr (
          c.in_ok-run.ensures.live,
          elim c.in_err-chosen.ensures [
            | inl (same, never) ↦ inl (ap Refuses same, never)
            | inr (claim, same, is, another) ↦ inr (claim, is, inl (ap Refuses same, another))
          ],
        ),
      ),
    ))

pub returns-then-is_claimed-clause-row : goal.returns-then-is_claimed-clause-row
returns-then-is_claimed-clause-row c = inr (_, c.in_ok-run.ensures.one, inr (c.in_ok-run.ensures.kept, inr (c.in_ok-run.ensures.live, inr ((c.in_ok-chosen.chosen.now, c.in_ok-run.run'.now.grain), c.in_ok-chosen.ensures, inr (refl, inl (refl, c.if-is_claimed.ensures.0 refl))))))

pub has_entry-requires-clause-there : goal.has_entry-requires-clause-there
has_entry-requires-clause-there c =
    let chosen = c.in_ok-chosen.chosen.now in
    own_node c.args.state.now.tables chosen.num chosen (target.Claim c.in_ok-run.run'.now.grain) (grant_row c.args.state.now c.requires.formed chosen c.in_ok-chosen.ensures.0.listed) c.in_ok-chosen.ensures.1 tt

pub returns-in_err-has_entry-clause-row : goal.returns-in_err-has_entry-clause-row
returns-in_err-has_entry-clause-row c =
    refused (Claim c.args.state.now c.args.caller.now c.args.token.now c.args.set.now) c.from_residual-in_err-has_entry.result c.in_err-has_entry.field-0.0 c.from_residual-in_err-has_entry.ensures.1
    (inr (_, c.in_ok-run.ensures.one, inr (c.in_ok-run.ensures.kept, inr (c.in_ok-run.ensures.live, inr ((c.in_ok-chosen.chosen.now, c.in_ok-run.run'.now.grain), c.in_ok-chosen.ensures, inr (refl, inr (λ claimed. false≢true (c.if-is_claimed.ensures.1 claimed), inl (lacking c.args.state.now.tables (node.Grant c.in_ok-chosen.chosen.now.num) c.in_err-has_entry.field-0.0 c.in_err-has_entry.ensures))))))))

pub returns-then-not-set_fits-clause-row : goal.returns-then-not-set_fits-clause-row
returns-then-not-set_fits-clause-row c = inr (_, c.in_ok-run.ensures.one, inr (c.in_ok-run.ensures.kept, inr (c.in_ok-run.ensures.live, inr ((c.in_ok-chosen.chosen.now, c.in_ok-run.run'.now.grain), c.in_ok-chosen.ensures, inr (refl, inr (λ claimed. false≢true (c.if-is_claimed.ensures.1 claimed), inr (c.in_ok-has_entry.ensures, inl (refl, λ fits. false≢true (c.if-not-set_fits.ensures.1 fits)))))))))

pub root_maker-maker-requires-clause-there : goal.root_maker-maker-requires-clause-there
root_maker-maker-requires-clause-there c = (_, grant_row c.args.state.now c.requires.formed c.in_ok-chosen.chosen.now c.in_ok-chosen.ensures.0.listed)

pub returns-in_err-has_grant_room-clause-row : goal.returns-in_err-has_grant_room-clause-row
returns-in_err-has_grant_room-clause-row c =
    refused (Claim c.args.state.now c.args.caller.now c.args.token.now c.args.set.now) c.from_residual-in_err-has_grant_room.result c.in_err-has_grant_room.field-0.0 c.from_residual-in_err-has_grant_room.ensures.1
    (inr (_, c.in_ok-run.ensures.one, inr (c.in_ok-run.ensures.kept, inr (c.in_ok-run.ensures.live, inr ((c.in_ok-chosen.chosen.now, c.in_ok-run.run'.now.grain), c.in_ok-chosen.ensures, inr (refl, inr (λ claimed. false≢true (c.if-is_claimed.ensures.1 claimed), inr (c.in_ok-has_entry.ensures, inr (c.if-not-set_fits.ensures.0 refl, (_, c.root_maker-maker.ensures.maker, inl (_, refl, first_over _ _ _ c.in_err-has_grant_room.ensures)))))))))))

pub returns-in_err-handle-clause-row : goal.returns-in_err-handle-clause-row
returns-in_err-handle-clause-row c =
    refused (Claim c.args.state.now c.args.caller.now c.args.token.now c.args.set.now) c.from_residual-in_err-handle.result c.in_err-handle.field-0.0 c.from_residual-in_err-handle.ensures.1
    (inr (_, c.in_ok-run.ensures.one, inr (c.in_ok-run.ensures.kept, inr (c.in_ok-run.ensures.live, inr ((c.in_ok-chosen.chosen.now, c.in_ok-run.run'.now.grain), c.in_ok-chosen.ensures, inr (refl, inr (λ claimed. false≢true (c.if-is_claimed.ensures.1 claimed), inr (c.in_ok-has_entry.ensures, inr (c.if-not-set_fits.ensures.0 refl, (_, c.root_maker-maker.ensures.maker, inl (_, refl, second_over _ _ _ c.in_ok-has_grant_room.ensures c.in_err-handle.ensures)))))))))))

pub returns-in_err-push-clause-row : goal.returns-in_err-push-clause-row
returns-in_err-push-clause-row c =
    starved (Claim c.args.state.now c.args.caller.now c.args.token.now c.args.set.now) c.from_residual-in_err-push.result c.from_residual-in_err-push.ensures.1
    (_, inr (_, c.in_ok-run.ensures.one, inr (c.in_ok-run.ensures.kept, inr (c.in_ok-run.ensures.live, inr ((c.in_ok-chosen.chosen.now, c.in_ok-run.run'.now.grain), c.in_ok-chosen.ensures, inr (refl, inr (λ claimed. false≢true (c.if-is_claimed.ensures.1 claimed), inr (c.in_ok-has_entry.ensures, inr (c.if-not-set_fits.ensures.0 refl, (_, c.root_maker-maker.ensures.maker, inr (refl, second_over _ _ _ c.in_ok-has_grant_room.ensures c.in_ok-handle.ensures.1)))))))))))

pub returns-clause-row : goal.returns-clause-row
returns-clause-row c =
    rw (c.new_grant-grant.ensures, c.all_access.ensures, c.in_ok-push.ensures.ok, c.empty-needs.ensures, c.in_ok-handle.ensures.0, c.as_slice.ensures)
    (inr (_, c.in_ok-run.ensures.one, inr (c.in_ok-run.ensures.kept, inr (c.in_ok-run.ensures.live, inr ((c.in_ok-chosen.chosen.now, c.in_ok-run.run'.now.grain), c.in_ok-chosen.ensures, inr (refl, inr (λ claimed. false≢true (c.if-is_claimed.ensures.1 claimed), inr (c.in_ok-has_entry.ensures, inr (c.if-not-set_fits.ensures.0 refl, (_, c.root_maker-maker.ensures.maker, inr (refl, second_over _ _ _ c.in_ok-has_grant_room.ensures c.in_ok-handle.ensures.1)))))))))))
