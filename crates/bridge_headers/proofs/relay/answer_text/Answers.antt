use Rattle.std.proofs.Common.{rules, ◌≡◌, Ok, Err, Some, take, sym, ◌∙◌}
use Rattle.bridge_headers.specs.Relay.{run_length}
use Rattle.bridge_headers.specs.Spans.{AreSpansOf}
use Rattle.bridge_headers.proofs.Relayed.{relays_some, if_ok_weaker, if_err_weaker}
use Rattle.bridge_headers.proofs.relay.answer_text.Goals as goal

pub returns-in-Some-found-clause-relayed : goal.returns-in-Some-found-clause-relayed
returns-in-Some-found-clause-relayed c =
    let bytes = c.as_slice-bytes.result.now in
    let are : AreSpansOf (take c.in-Some.size bytes) c.in-Some-found.spans = search rules in
    let run : run_length bytes ≡ Some c.in-Some.size = sym c.run_end.ensures.run ∙ c.in-Some.is in
    if_ok_weaker c.relay_by.result (λ text is. relays_some c.args.answer.now bytes c.in-Some.size c.in-Some-found.spans c.args.head_only (Ok text.items) c.as_slice-bytes.ensures.value c.in-Some.ensures.within run are is) c.relay_by.ensures.ok

pub returns-in-Some-found-clause-refused : goal.returns-in-Some-found-clause-refused
returns-in-Some-found-clause-refused c =
    let bytes = c.as_slice-bytes.result.now in
    let are : AreSpansOf (take c.in-Some.size bytes) c.in-Some-found.spans = search rules in
    let run : run_length bytes ≡ Some c.in-Some.size = sym c.run_end.ensures.run ∙ c.in-Some.is in
    if_err_weaker c.relay_by.result (λ fault is. λ other. relays_some c.args.answer.now bytes c.in-Some.size c.in-Some-found.spans c.args.head_only (Err fault) c.as_slice-bytes.ensures.value c.in-Some.ensures.within run are (is other)) c.relay_by.ensures.err
