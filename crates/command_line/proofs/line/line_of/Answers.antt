use Rattle.std.proofs.Common.{string_bytes, rules, sym, true≢false}
use Rattle.std.proofs.lemmas.List.Elements.{All-map}
use Rattle.command_line.specs.Words.{IsPath}
use Rattle.command_line.proofs.LineFacts.{each_path, no_line_with_option, one_line}
use Rattle.command_line.proofs.Taking.{no_line_refused}
use Rattle.command_line.proofs.line.line_of.Goals as goal

pub returns-then-not-are_plain-clause-line : goal.returns-then-not-are_plain-clause-line
returns-then-not-are_plain-clause-line c = no_line_with_option c.args.words.now (λ paths. true≢false (sym (c.if-not-are_plain.ensures.1 (each_path c.args.words.now paths))))

pub returns-then-not-are_plain-clause-one : goal.returns-then-not-are_plain-clause-one
returns-then-not-are_plain-clause-one c = one_line c.args.words.now

pub returns-then-not-branch-clause-line : goal.returns-then-not-branch-clause-line
returns-then-not-branch-clause-line c = no_line_refused c.args.words.now (All-map IsPath string_bytes c.args.words.now (c.are_plain.ensures.0 (search rules))) (c.in_ok-is_taken.ensures.refused c.if-not-branch.true)

pub returns-then-not-branch-clause-one : goal.returns-then-not-branch-clause-one
returns-then-not-branch-clause-one c = one_line c.args.words.now
