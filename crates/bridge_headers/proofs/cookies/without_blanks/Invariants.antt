use Rattle.std.proofs.Common.{◌≡◌, ◌+◌, drop}
use Rattle.std.specs.List.{position_or_len}
use Rattle.bridge_headers.specs.Cookies.{is_visible}
use Rattle.bridge_headers.proofs.cookies.without_blanks.Given as goal

abbrev pub invariant-loop-at : goal.invariant-loop-at
invariant-loop-at l = position_or_len is_visible l.text ≡ l.at + position_or_len is_visible (drop l.at l.text)
