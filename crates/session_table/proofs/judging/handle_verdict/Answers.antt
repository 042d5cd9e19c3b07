use Rattle.std.proofs.Common.{refl, sym, ◌∙◌, inl, inr}
use Rattle.std.proofs.lemmas.Bool.{false≢true}
use Rattle.host_base.specs.declared.key.Key.TheVariants as key
use Rattle.session_table.specs.Verdict.{Reaches, IsVerdict}
use Rattle.session_table.proofs.Follows.{if_ok_then}
use Rattle.session_table.proofs.Roots.{handle_is_node}
use Rattle.session_table.proofs.judging.handle_verdict.Goals as goal

pub returns-in_default : goal.returns-in_default
returns-in_default c = inl (refl, c.in_default.ensures)

pub returns-then-not-is_kept : goal.returns-then-not-is_kept
returns-then-not-is_kept c = inr (c.in-Some.run'.now, c.in-Some.ensures, inl (refl, λ kept. false≢true (c.if-not-is_kept.ensures.1 kept)))

pub returns-then-run : goal.returns-then-run
returns-then-run c = inr (c.in-Some.run'.now, c.in-Some.ensures, inr (c.if-not-is_kept.ensures.0 refl, inl (refl, c.if-run.true)))

pub returns-in_default-find_handle : goal.returns-in_default-find_handle
returns-in_default-find_handle c =
    inr (
      c.in-Some.run'.now,
      c.in-Some.ensures,
      inr (
        c.if-not-is_kept.ensures.0 refl,
        inr (
          λ stopped. false≢true (sym c.if-run.false ∙ stopped),
          inl (refl, c.in_default-find_handle.ensures),
        ),
      ),
    )

pub reaches-requires-clause-own : goal.reaches-requires-clause-own
reaches-requires-clause-own c = handle_is_node c.args.state.now c.requires.formed c.in-Some-find_handle.handle.now c.in-Some-find_handle.ensures.listed

pub returns : goal.returns
returns c =
    let found = c.in-Some-find_handle.handle.now in
    if_ok_then (Reaches c.args.state.now found.grant) (IsVerdict c.args.state.now (key.Handle c.args.digest.now c.args.num)) c.reaches.result
    (λ v reaches. inr (
      c.in-Some.run'.now,
      c.in-Some.ensures,
      inr (
        c.if-not-is_kept.ensures.0 refl,
        inr (
          λ stopped. false≢true (sym c.if-run.false ∙ stopped),
          inr (found, c.in-Some-find_handle.ensures, reaches),
        ),
      ),
    )) c.reaches.ensures
