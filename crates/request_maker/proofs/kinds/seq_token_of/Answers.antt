use Rattle.std.proofs.Common.{◌≡◌, ◌∙◌, ◌+◌, ◌%◌, ℕ, List, subst, arith}
use Rattle.std.specs.Prelude.{IfOk}
use Rattle.std.proofs.Math.Nat.{mod-eq_of_lt}
use Rattle.host_base.specs.Drawing.{seq_secret}
use Rattle.share_tokens.specs.Texts.{token_text_of}
use Rattle.request_maker.specs.Requests.{seq_token_of}
use Rattle.request_maker.proofs.Drawn.{drawn_is}
use Rattle.request_maker.proofs.kinds.seq_token_of.Goals as goal

pub returns : goal.returns
unfolding seq_token_of
returns c =
    let next : (c.behind.result + 1) % 4294967296 ≡ c.args.number =
    mod-eq_of_lt (omega (arith, c.behind.ensures, c.ranges.number.fits, c.requires)) ∙ omega (arith, c.behind.ensures, c.requires) in
    let is : c.unwrap-secret.result ≡ seq_secret c.args.number = drawn_is _ _ _ _ _ c.unwrap-secret.ensures c.draw.ensures.drawn next in
    subst (λ (s : List ℕ). IfOk c.token_text.result (λ token. token ≡ token_text_of (record { 0 = s }))) is c.token_text.ensures.text
