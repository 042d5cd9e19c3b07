use Rattle.std.proofs.Common.{◌≡◌, ◌∷◌, [], Some, None, Err, rules, arith}
use Rattle.grain_supervise.specs.declared.link.AskFault.TheVariants as fault
use Rattle.cloud_serve.proofs.Taking.{asks_by}
use Rattle.cloud_serve.proofs.turn.ask.Goals as goal

pub returns-in-Ok-clause-asks : goal.returns-in-Ok-clause-asks
returns-in-Ok-clause-asks g c = record {
  asked = record { run = c.args.run; grain = c.args.grain; text = c.args.text.now; back = Some c.in-Ok.back } ∷ [];
  asked_of = record { told = c.in-Ok.ensures.answered; counts = c.ask.ensures.counts; counted = λ lt. omega (arith, c.ask.ensures.counts) };
  counts_is = omega arith;
  answered = asks_by (λ back. record { run = c.args.run; grain = c.args.grain; text = c.args.text.now; back = back }) c.args.head_only (Some c.in-Ok.back) c.relay.result c.relay.ensures;
}

pub returns-in-Err-LinkFailed-clause-asks : goal.returns-in-Err-LinkFailed-clause-asks
returns-in-Err-LinkFailed-clause-asks g c =
    let failed : c.ask.result ≡ Err fault.LinkFailed = search rules in
    record {
      asked = record { run = c.args.run; grain = c.args.grain; text = c.args.text.now; back = None } ∷ [];
      asked_of = record { told = λ list is. c.ask.ensures.failed list is failed; counts = c.ask.ensures.counts; counted = λ lt. omega (arith, c.ask.ensures.cause failed) };
      counts_is = omega arith;
      answered = asks_by (λ back. record { run = c.args.run; grain = c.args.grain; text = c.args.text.now; back = back }) c.args.head_only None c.own_reply.result c.own_reply.ensures;
    }
