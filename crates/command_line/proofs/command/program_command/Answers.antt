use Rattle.std.proofs.Common.{◌≡◌, ◌∙◌, ap₂}
use Rattle.std.proofs.lemmas.Result.{IfOk-weaker}
use Rattle.clap.specs.Words.{App, app_of, shape_of, with_subcommand}
use Rattle.clap.specs.declared.builder.Command.{Command}
use Rattle.command_line.specs.Program as specs
use Rattle.command_line.proofs.command.program_command.Goals as goal

added : (new command line : Command) (before sub : App) → app_of command ≡ before → app_of line ≡ sub → app_of new ≡ with_subcommand (app_of command) (shape_of line) → app_of new ≡ with_subcommand before sub.top
added new command line before sub first second is = is ∙ ap₂ (λ (a b : App). with_subcommand a b.top) first second

pub returns : goal.returns
returns c =
    let one = added c.in_ok-command.command c.bare_command.result c.play_command.result specs.bare specs.play c.bare_command.ensures.app c.play_command.ensures.app c.in_ok-command.ensures.app in
    let two = added c.in_ok-command-2.command c.in_ok-command.command c.in_ok-serve_command.field-0 _ specs.serve one c.in_ok-serve_command.ensures.app c.in_ok-command-2.ensures.app in
    let three = added c.in_ok-command-3.command c.in_ok-command-2.command c.in_ok-gen_command.field-0 _ specs.gen two c.in_ok-gen_command.ensures.app c.in_ok-command-3.ensures.app in
    let four = added c.in_ok-command-4.command c.in_ok-command-3.command c.in_ok-check_command.field-0 _ specs.check three c.in_ok-check_command.ensures.app c.in_ok-command-4.ensures.app in
    let five = added c.in_ok-command-5.command c.in_ok-command-4.command c.in_ok-grain_command.field-0 _ specs.grain four c.in_ok-grain_command.ensures.app c.in_ok-command-5.ensures.app in
    let six = added c.in_ok-command-6.command c.in_ok-command-5.command c.in_ok-access_command.field-0 _ specs.access five c.in_ok-access_command.ensures.app c.in_ok-command-6.ensures.app in
    let seven = added c.in_ok-command-7.command c.in_ok-command-6.command c.in_ok-preview_command.field-0 _ specs.preview six c.in_ok-preview_command.ensures.app c.in_ok-command-7.ensures.app in
    IfOk-weaker c.with_line-8.result _ _ (λ new is. added new c.in_ok-command-7.command c.in_ok-collect_command.field-0 _ specs.collect seven c.in_ok-collect_command.ensures.app is) c.with_line-8.ensures.app
