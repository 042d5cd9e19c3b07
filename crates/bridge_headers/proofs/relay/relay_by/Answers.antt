use Rattle.std.proofs.Common.{◌≡◌, ◌-◌, ℕ, length, take, drop, ap, sym, ◌∙◌}
use Rattle.std.proofs.lemmas.List.{length-take-le}
use Rattle.bridge_headers.specs.Spans.{head_of}
use Rattle.bridge_headers.proofs.HeadLemmas.{rest_of}
use Rattle.bridge_headers.proofs.Relayed.{relayed_to}
use Rattle.bridge_headers.proofs.relay.relay_by.Goals as goal

pub returns-in-Ok-relay_text-clause-ok : goal.returns-in-Ok-relay_text-clause-ok
returns-in-Ok-relay_text-clause-ok c =
    let bytes = c.args.bytes.now in
    let size = c.args.size in
    let long : length (take size bytes) ≡ size = length-take-le size bytes c.requires.front in
    let body : take (length bytes - size) (drop size bytes) ≡ drop (length (take size bytes)) bytes = rest_of bytes size ∙ ap (λ (n : ℕ). drop n bytes) (sym long) in
    relayed_to (head_of (take size bytes) c.args.spans.now) bytes _ _ c.args.head_only c.in-Ok.end c.end_of.result c.end_of.ensures c.in-Ok.is c.if-length-end.false body c.in-Ok-relay_text.ensures
