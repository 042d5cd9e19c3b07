use Rattle.std.proofs.Common.{arith, ◌≡◌, ◌∙◌, ap, sym, take, length, ◌*◌, rules, ℕ, List}
use Rattle.std.proofs.lemmas.List.{length-take-le}
use Rattle.hex.specs.Hex.{lower_digits, encode_lower}
use Rattle.hex.proofs.HexLemmas.{length-encode_with}
use Rattle.share_tokens.proofs.secret.key_of.Goals as goal

pub returns-clause-length : goal.returns-clause-length
returns-clause-length c =
    let size : length (take 16 c.args.bytes.now) ≡ 16 = length-take-le 16 c.args.bytes.now (omega (arith, c.requires)) in
    let text : length c.new.result ≡ 2 * length (take 16 c.args.bytes.now) = (let same : c.new.result ≡ encode_lower (take 16 c.args.bytes.now) = Prim.grind (rules, c.new.ensures, c.into_bytes.ensures.value, c.in_ok-text.ensures) in ap length same ∙ length-encode_with lower_digits _) in
    text ∙ ap (λ n. 2 * n) size
