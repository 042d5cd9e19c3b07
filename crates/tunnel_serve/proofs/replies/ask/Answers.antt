use Rattle.std.proofs.Common.{◌≡◌, ◌∷◌, [], Some, None, Err, ◌∙◌, rules, arith}
use Rattle.grain_supervise.specs.declared.link.AskFault.TheVariants as fault
use Rattle.cloud_serve.specs.Turns.{ask_of}
use Rattle.bridge_headers.specs.Text.{grain_text}
use Rattle.tunnel_serve.specs.Exchanges.{request_of}
use Rattle.tunnel_serve.proofs.Exchanging.{asks_by, told_as}
use Rattle.tunnel_serve.proofs.replies.ask.Goals as goal

pub returns-in-Ok-ask-clause-asks : goal.returns-in-Ok-ask-clause-asks
returns-in-Ok-ask-clause-asks g c =
    let request = request_of c.args.message.now in
    let text : c.as_slice.result.now ≡ grain_text c.args.permit.now request = c.as_slice.ensures.value ∙ c.in-Ok.ensures in
    record {
      asked = ask_of c.args.permit.now request (Some c.in-Ok-ask.back) ∷ [];
      asked_of = record {
        told = told_as c.args.permit.now request c.as_slice.result.now (Some c.in-Ok-ask.back) _ _ text c.in-Ok-ask.ensures.answered;
        counts = c.ask.ensures.counts;
        counted = λ lt. omega (arith, c.ask.ensures.counts);
      };
      counts_is = omega arith;
      answered = asks_by (ask_of c.args.permit.now request) (Some c.in-Ok-ask.back) c.relayed.result c.relayed.ensures;
    }

pub returns-in-Err-LinkFailed-clause-asks : goal.returns-in-Err-LinkFailed-clause-asks
returns-in-Err-LinkFailed-clause-asks g c =
    let request = request_of c.args.message.now in
    let text : c.as_slice.result.now ≡ grain_text c.args.permit.now request = c.as_slice.ensures.value ∙ c.in-Ok.ensures in
    let failed : c.ask.result ≡ Err fault.LinkFailed = search rules in
    record {
      asked = ask_of c.args.permit.now request None ∷ [];
      asked_of = record {
        told = told_as c.args.permit.now request c.as_slice.result.now None _ _ text (λ list is. c.ask.ensures.failed list is failed);
        counts = c.ask.ensures.counts;
        counted = λ lt. omega (arith, c.ask.ensures.cause failed);
      };
      counts_is = omega arith;
      answered = asks_by (ask_of c.args.permit.now request) None c.notice.result c.notice.ensures;
    }
