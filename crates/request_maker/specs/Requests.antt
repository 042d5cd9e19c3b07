-- The requests that are made, by kind.
use Rattle.std.specs.Prelude.{ℕ, ◌+◌, ◌*◌, ◌/◌, ◌%◌, ◌++◌, List, [], ◌∷◌, length, replicate, codes, decimal, slice_index_or}
use Rattle.std.specs.List.{flat_map}
use Rattle.hex.specs.Hex.{encode_lower}
use Rattle.host_base.specs.Drawing.{seq_secret}
use Rattle.share_tokens.specs.Texts.{token_text_of}

-- a head: its lines, and an empty one, each ended by CR LF
abbrev pub head_of : List (List ℕ) → List ℕ
head_of lines = flat_map (λ line. line ++ codes "\r\n") lines ++ codes "\r\n"

-- the key whose 16 bytes are all of one value
unfoldable pub key_of : ℕ → List ℕ
key_of value = encode_lower (replicate 16 value)

-- the token of the secret whose 32 bytes are all of one value
unfoldable pub token_of : ℕ → List ℕ
token_of value = token_text_of (record { 0 = replicate 32 value })

-- the token of the secret of a number
unfoldable pub seq_token_of : ℕ → List ℕ
seq_token_of number = token_text_of (record { 0 = seq_secret number })

-- a GET of a session, by its key
unfoldable pub session_get : List ℕ → List ℕ
session_get key = head_of (codes "GET /p HTTP/1.1" ∷ (codes "Host: ui-" ++ key ++ codes ".example.org") ∷ [])

-- a GET by a bearer's token
unfoldable pub api_get : List ℕ → List ℕ
api_get token = head_of (codes "GET /p HTTP/1.1" ∷ codes "Host: api.example.org" ∷ (codes "Authorization: Bearer " ++ token) ∷ [])

-- a POST to the desk
unfoldable pub post : List ℕ → List ℕ → List ℕ → List ℕ
post path token body = head_of ((codes "POST " ++ path ++ codes " HTTP/1.1")
    ∷ codes "Host: desk.example.org"
    ∷ (codes "Authorization: Bearer " ++ token)
    ∷ (codes "Content-Length: " ++ decimal (length body)) ∷ []) ++ body

-- a login shares grain 1, on a base, with an account
unfoldable pub share : ℕ → List ℕ → ℕ → List ℕ
share login base account = post (codes "/grains/1/share") (token_of login)
    (codes "{\"assignment\":{\"base\":" ++ base ++ codes "},\"to\":" ++ decimal account ++ codes "}")

-- a login revokes a grant
unfoldable pub revoke : ℕ → ℕ → List ℕ
revoke login grant = post (codes "/grants/" ++ decimal grant ++ codes "/revoke") (token_of login) (codes "{}")

-- a login redeems a token
unfoldable pub redeem : ℕ → List ℕ → List ℕ
redeem login token = post (codes "/redeem") (token_of login) (codes "{\"token\":\"" ++ token ++ codes "\"}")

-- The eight kinds of request. Each is that of a place among the requests, counted from 1, with what was drawn for it. The logins
-- of Ada, Zoe, Ben and Dan are the tokens of the values 1 to 4.
unfoldable pub kinds : ℕ → ℕ → List (List ℕ)
kinds place drawn =
    session_get (key_of (17 * (1 + drawn % 4)))
    ∷ share 1 (decimal (drawn % 2)) (2 + (drawn / 2) % 3)
    ∷ share 2 (codes "\"all\"") (3 + drawn % 2)
    ∷ revoke 1 (1 + drawn % (place + 2))
    ∷ post (codes "/grains/1/link") (token_of 1) (codes "{}")
    ∷ api_get (seq_token_of (1 + drawn % 8))
    ∷ redeem 4 (seq_token_of (1 + drawn % 8))
    ∷ post (codes "/grains/1/open") (token_of 3) (codes "{}")
    ∷ []

-- the request of one of the kinds, counted from 0
unfoldable pub request : ℕ → ℕ → ℕ → List ℕ
request place kind drawn = slice_index_or (kinds place drawn) kind []
