use Rattle.std.proofs.Common.{take}
use Rattle.std.specs.List.{AllZip}
use Rattle.listings.specs.Lines.{IsAccountLine}
use Rattle.listings.proofs.of_accounts.lines_of.Given as goal

abbrev pub invariant-loop-account : goal.invariant-loop-account
invariant-loop-account l = AllZip IsAccountLine (take l.account-index l.accounts) l.lines.items
