-- The choices, preferred ones first, are the grains to choose from.
use Rattle.std.proofs.Common.{◌≡◌, ◌++◌, List, refl, ap, ◌∙◌, subst, sym}
use Rattle.std.specs.List.{filter_map}
use Rattle.least_access.specs.Entered.{AreEntered}
use Rattle.powerbox_match.specs.declared.choices.Choice.{Choice}
use Rattle.powerbox_match.specs.declared.value.Quality.TheVariants.{Acceptable, Preferred}
use Rattle.desk_base.specs.Terms.{answers}
use Rattle.desk_base.specs.Made.{nothing_made}
use Rattle.desk_base.specs.Steps.{Keeps}
use Rattle.desk_base.proofs.Words.{on_calls, on_refused}
use Rattle.saved_refs.specs.Choosing.{AreChoices}
use Rattle.saved_refs.specs.Scan.{choice_of, with_quality}
use Rattle.saved_refs.proofs.Chosen.{are_choices}
use Rattle.saved_refs.proofs.options.grain_options.Goals as goal

pub returns-clause-row : goal.returns-clause-row
returns-clause-row c =
    let account = c.in-Ok.account.now in
    let entered : AreEntered c.args.solved.now account.num c.in_ok-grains.grains.items = c.in_ok-grains.ensures in
    let all = are_choices c.args.state.now.tables account.num c.args.num c.args.query.now c.args.solved.now c.in_ok-grains.grains.items c.requires.formed.limits.grains c.requires.solution entered in
    let of = choice_of c.args.state.now.tables c.args.query.now c.args.num in
    let found : c.in_ok-found.found.items ≡ filter_map of c.in_ok-grains.grains.items = c.in_ok-found.ensures ∙ ap (filter_map of) c.as_slice.ensures.value in
    let list : c.new.result ≡ filter_map (with_quality Preferred) c.in_ok-found.found.items ++ filter_map (with_quality Acceptable) c.in_ok-found.found.items =
    c.new.ensures ∙ (c.in_ok-append_those-2.ensures ∙ rw (c.in_ok-append_those.ensures, c.as_slice-2.ensures.value, c.as_slice-3.ensures.value, c.new-choices.ensures.items) refl) in
    let listed : c.new.result ≡ filter_map (with_quality Preferred) (filter_map of c.in_ok-grains.grains.items) ++ filter_map (with_quality Acceptable) (filter_map of c.in_ok-grains.grains.items) =
    subst (λ (choices : List Choice). c.new.result ≡ filter_map (with_quality Preferred) choices ++ filter_map (with_quality Acceptable) choices) found list in (
      on_calls c.args.state.now c.args.caller.now c.args.num (λ any. answers (Keeps nothing_made)) account (Keeps nothing_made) c.in-Ok.ensures refl,
      (account, c.in-Ok.ensures.caller, subst (λ (choices : List Choice). AreChoices c.args.state.now.tables account.num c.args.num c.args.query.now choices) (sym listed) all),
    )

pub returns-in-Err-clause-row : goal.returns-in-Err-clause-row
returns-in-Err-clause-row c = on_refused c.args.state.now c.args.caller.now c.args.num (λ any. answers (Keeps nothing_made)) c.in-Err.refusal c.in-Err.ensures
