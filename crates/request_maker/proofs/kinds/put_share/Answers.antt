use Rattle.std.proofs.Common.{◌≡◌, ◌++◌, ◌∙◌, ℕ, List, OnOk, codes, decimal, subst, append_assoc}
use Rattle.request_maker.specs.Requests.{post, share, token_of}
use Rattle.request_maker.proofs.kinds.put_share.Goals as goal

body_pieces : (base account : List ℕ) → codes "{\"assignment\":{\"base\":" ++ (base ++ (codes "},\"to\":" ++ (account ++ codes "}"))) ≡ codes "{\"assignment\":{\"base\":" ++ base ++ codes "},\"to\":" ++ account ++ codes "}"
body_pieces base account = simp append_assoc

pub returns : goal.returns
unfolding share
returns c =
    let body : c.as_bytes.result.now ≡ codes "{\"assignment\":{\"base\":" ++ c.args.base.now ++ codes "},\"to\":" ++ decimal c.args.account ++ codes "}"
    = c.as_bytes.ensures.value ∙ c.in_ok-body.ensures.ok ∙ body_pieces c.args.base.now (decimal c.args.account) in
    let token : c.as_slice.result.now ≡ token_of c.args.login = c.as_slice.ensures.value ∙ c.in_ok-token.ensures in
    let P : List ℕ → List ℕ → Type 0 = λ t b. OnOk c.put_post.result (c.put_post.new.text ≡ c.args.text.now ++ post (codes "/grains/1/share") t b) in
    let said : P c.as_slice.result.now c.as_bytes.result.now = c.put_post.ensures in
    subst (λ (t : List ℕ). P t (codes "{\"assignment\":{\"base\":" ++ c.args.base.now ++ codes "},\"to\":" ++ decimal c.args.account ++ codes "}")) token
    (subst (λ (b : List ℕ). P c.as_slice.result.now b) body said)
