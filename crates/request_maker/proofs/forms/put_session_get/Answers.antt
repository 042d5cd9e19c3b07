use Rattle.std.proofs.Common.{◌≡◌, ◌++◌, codes}
use Rattle.std.proofs.lemmas.Result.{on_ok_weaker}
use Rattle.request_maker.proofs.Pieces.{session_pieces}
use Rattle.request_maker.proofs.forms.put_session_get.Goals as goal

pub returns : goal.returns
returns c =
    on_ok_weaker c.put-3.result (λ (last : c.put-3.new.self ≡ c.put-2.new.self ++ codes ".example.org\r\n\r\n"). cc (last, session_pieces c.args.text.now c.args.key.now, c.in_ok-put.ensures.ok, c.in_ok-put-2.ensures.ok))
    c.put-3.ensures.ok
