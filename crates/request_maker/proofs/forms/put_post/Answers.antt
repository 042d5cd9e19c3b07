use Rattle.std.proofs.Common.{◌≡◌, ◌++◌}
use Rattle.std.proofs.lemmas.Result.{on_ok_weaker}
use Rattle.request_maker.proofs.Pieces.{post_pieces}
use Rattle.request_maker.proofs.forms.put_post.Goals as goal

pub returns : goal.returns
returns c =
    on_ok_weaker c.put-8.result (λ (last : c.put-8.new.self ≡ c.put-7.new.self ++ c.args.body.now). cc (
      last,
      post_pieces c.args.text.now c.args.path.now c.args.token.now c.args.body.now,
      c.in_ok-put.ensures.ok,
      c.in_ok-put-2.ensures.ok,
      c.in_ok-put-3.ensures.ok,
      c.in_ok-put-4.ensures.ok,
      c.in_ok-put-5.ensures.ok,
      c.in_ok-put-6.ensures.ok,
      c.in_ok-put-7.ensures.ok,
    ))
    c.put-8.ensures.ok
