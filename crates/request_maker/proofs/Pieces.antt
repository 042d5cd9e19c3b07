-- The forms of a request, joined piece by piece behind a text.
use Rattle.std.proofs.Common.{◌≡◌, ◌++◌, ℕ, List, [], length, codes, decimal, append_assoc}
use Rattle.request_maker.specs.Requests.{api_get, post, session_get}

pub session_pieces : (text key : List ℕ) → text ++ codes "GET /p HTTP/1.1\r\nHost: ui-" ++ key ++ codes ".example.org\r\n\r\n" ≡ text ++ session_get key
unfolding session_get
session_pieces text key = simp append_assoc

pub api_pieces : (text token : List ℕ) → text ++ codes "GET /p HTTP/1.1\r\nHost: api.example.org\r\nAuthorization: Bearer " ++ token ++ codes "\r\n\r\n" ≡ text ++ api_get token
unfolding api_get
api_pieces text token = simp append_assoc

lines_pieces : (text verb path version end host scheme token name digits body : List ℕ)
    → text ++ verb ++ path ++ (version ++ (end ++ (host ++ (end ++ scheme)))) ++ token ++ (end ++ name) ++ digits ++ (end ++ end) ++ body
    ≡ text ++ ((((verb ++ path ++ version) ++ end) ++ ((host ++ end) ++ (((scheme ++ token) ++ end) ++ (((name ++ digits) ++ end) ++ [])))) ++ end ++ body)
lines_pieces text verb path version end host scheme token name digits body = simp append_assoc

pub post_pieces : (text path token body : List ℕ) → text ++ codes "POST " ++ path ++ codes " HTTP/1.1\r\nHost: desk.example.org\r\nAuthorization: Bearer " ++ token
    ++ codes "\r\nContent-Length: " ++ decimal (length body) ++ codes "\r\n\r\n" ++ body ≡ text ++ post path token body
unfolding post
post_pieces text path token body =
    lines_pieces text (codes "POST ") path (codes " HTTP/1.1") (codes "\r\n") (codes "Host: desk.example.org") (codes "Authorization: Bearer ") token
    (codes "Content-Length: ") (decimal (length body)) body
