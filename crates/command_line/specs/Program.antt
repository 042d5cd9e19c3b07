-- The lines as a command of `clap`: subcommands of words by position, and nothing else.
use Rattle.std.specs.Prelude.{[], ◌∷◌, codes, fold, true}
use Rattle.clap.specs.Words.{App, Rule, Shape, Text, new_app, new_rule, with_rule, with_subcommand}
use Rattle.clap.specs.Simple.{on_top}

-- a place that one word has to fill
abbrev pub place_rule : Text → Rule
place_rule id = record (new_rule id) { required = true }

-- a command with one more place
abbrev pub with_place : App → Text → App
with_place app id = with_rule app (place_rule id)

-- a command with one more place that needn't be filled
abbrev pub with_option : App → Text → App
with_option app id = with_rule app (new_rule id)

abbrev pub play : App
play = new_app (codes "play")

-- `serve` with the places that have to be filled
abbrev pub serve_alone : App
serve_alone = with_place (with_place (with_place (new_app (codes "serve")) (codes "file")) (codes "port")) (codes "count")

-- `serve`, with the places of its tunnels
abbrev pub serve : App
serve = with_option (with_option serve_alone (codes "wsport")) (codes "wscount")

abbrev pub gen : App
gen = with_place (with_place (new_app (codes "gen")) (codes "count")) (codes "seed")

abbrev pub check : App
check = with_place (new_app (codes "check")) (codes "file")

abbrev pub grain : App
grain = with_place (with_place (new_app (codes "grain")) (codes "socket")) (codes "count")

abbrev pub access : App
access = with_place (with_place (new_app (codes "access")) (codes "file")) (codes "grain")

abbrev pub preview : App
preview = with_place (with_place (new_app (codes "preview")) (codes "file")) (codes "grant")

abbrev pub collect : App
collect = with_place (with_place (with_place (new_app (codes "collect")) (codes "file")) (codes "grain")) (codes "grant")

-- The words begin after the program's name, there is no help, and a subcommand has to be there.
abbrev pub settled : Shape → Shape
settled shape = record shape { no_binary_name = true; disable_help_flag = true; disable_help_subcommand = true; subcommand_required = true }

abbrev pub bare : App
bare = on_top settled (new_app (codes "admin_cli"))

-- the command, with a subcommand for each line
abbrev pub program : App
program = fold (λ whole line. with_subcommand whole line.top) bare (play ∷ serve ∷ gen ∷ check ∷ grain ∷ access ∷ preview ∷ collect ∷ [])
