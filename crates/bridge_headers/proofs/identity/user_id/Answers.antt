use Rattle.std.proofs.Common.{◌≡◌, ◌++◌, [], List, ℕ, ap, ◌∙◌, take, decimal, codes}
use Rattle.hex.specs.Hex.{encode_lower}
use Rattle.sha2.specs.Sha256.{sha256}
use Rattle.bridge_headers.specs.Text.{user_id_text}
use Rattle.bridge_headers.proofs.identity.user_id.Goals as goal

pub returns : goal.returns
unfolding user_id_text
returns c =
    let fed = c.update-2.ensures c.as_slice.result.now (c.update.ensures [] c.new-hasher.ensures) in
    let text : c.as_slice.result.now ++ c.as_bytes.result.now ≡ codes "account:" ++ decimal c.args.account.0 = cc (c.as_slice.ensures, c.as_bytes.ensures.value, c.format.ensures.text) in
    let digest : c.finalize-digest.result ≡ sha256 (codes "account:" ++ decimal c.args.account.0) = c.finalize-digest.ensures (c.as_slice.result.now ++ c.as_bytes.result.now) fed ∙ ap sha256 text in
    c.in-Ok.ensures.written ∙ ap (λ (d : List ℕ). encode_lower (take 16 d)) digest
