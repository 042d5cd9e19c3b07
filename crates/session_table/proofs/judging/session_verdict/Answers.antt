use Rattle.std.proofs.Common.{refl, sym, ◌∙◌, inl, inr}
use Rattle.std.proofs.lemmas.Bool.{false≢true}
use Rattle.host_base.specs.declared.key.Key.TheVariants as key
use Rattle.session_table.specs.Standing.{behind_session}
use Rattle.session_table.specs.Verdict.{Stands, IsVerdict}
use Rattle.session_table.proofs.Follows.{if_ok_then}
use Rattle.session_table.proofs.Roots.{session_is_behind}
use Rattle.session_table.proofs.judging.session_verdict.Goals as goal

pub returns-in_default : goal.returns-in_default
returns-in_default c = inl (refl, c.in_default.ensures)

pub returns-then-session : goal.returns-then-session
returns-then-session c = inr (c.in-Some.session.now, c.in-Some.ensures, inl (refl, c.if-session.true))

pub stands-requires-clause-there : goal.stands-requires-clause-there
stands-requires-clause-there c = session_is_behind c.args.state.now c.requires.formed c.in-Some.session.now c.in-Some.ensures.listed

pub returns : goal.returns
returns c =
    let session = c.in-Some.session.now in
    if_ok_then (Stands c.args.state.now (behind_session session)) (IsVerdict c.args.state.now (key.Session c.args.digest.now)) c.stands.result
    (λ v stands. inr (session, c.in-Some.ensures, inr (λ closed. false≢true (sym c.if-session.false ∙ closed), stands))) c.stands.ensures
