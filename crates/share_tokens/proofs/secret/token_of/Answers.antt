use Rattle.std.proofs.Common.{arith, rules, ◌≡◌, ◌∙◌, ◌+◌, ◌*◌, ◌/◌, ◌++◌, [], ap, sym, length, ℕ, List, length-append}
use Rattle.base64.specs.Engines.{url_safe_no_pad}
use Rattle.base64.specs.GeneralPurpose.{encode_of}
use Rattle.base64.specs.Rfc4648.{unpadded_len, encode_symbols}
use Rattle.base64.proofs.RoundTrip.{length-encode_symbols}
use Rattle.share_tokens.proofs.secret.token_of.Goals as goal

symbols : (table m : List ℕ) → length m ≡ 32 → length (encode_symbols table m ++ []) ≡ 43
symbols table m size = length-append (encode_symbols table m) [] ∙ ap (λ n. n + 0) (length-encode_symbols table m ∙ ap unpadded_len size)

pub returns-clause-length : goal.returns-clause-length
returns-clause-length c =
    let text : c.new.result ≡ encode_of url_safe_no_pad c.args.bytes.now = Prim.grind (rules, c.new.ensures, c.into_bytes.ensures.value, c.in_ok-text.ensures.text) in
    ap length text ∙ symbols _ c.args.bytes.now c.requires
