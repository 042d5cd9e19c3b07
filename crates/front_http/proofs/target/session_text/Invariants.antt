use Rattle.std.proofs.Common.{◌≡◌, ◌+◌, drop}
use Rattle.std.specs.List.{position_or_len}
use Rattle.front_http.specs.Routes.{is_key_end}
use Rattle.front_http.proofs.target.session_text.Given as goal

abbrev pub invariant-loop-at : goal.invariant-loop-at
invariant-loop-at l = position_or_len is_key_end l.text ≡ l.at + position_or_len is_key_end (drop l.at l.text)
