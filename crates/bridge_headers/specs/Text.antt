-- The text that a grain gets for a request.
use Rattle.std.specs.Prelude.{◌≡◌, ℕ, ◌++◌, ◌==◌, ◌||◌, ◌&&◌, ◌⊎◌, Bool, List, [], ◌∷◌, Option, Some, None, All, Contains, length, take, map, nat_le, codes, decimal, if◌then◌else◌, bytes_eq}
use Rattle.std.specs.List.{flat_map, list_any, join_with_byte}
use Rattle.std.specs.Int.{to_be_bytes, w64}
use Rattle.hex.specs.Hex.{encode_lower}
use Rattle.percent_encoding.specs.Percent.{percent_encode_byte}
use Rattle.sha2.specs.Sha256.{sha256}
use Rattle.host_base.specs.declared.ids.AccountId.{AccountId}
use Rattle.host_base.specs.declared.permit.Permit.{Permit}
use Rattle.host_base.specs.declared.permit.Shown.{Shown}
use Rattle.host_base.specs.declared.permit.Shown.TheVariants.{Anonymous, Account}
use Rattle.host_base.specs.declared.permit.TabMark.{TabMark}
use Rattle.host_base.specs.declared.request.Field.{Field}
use Rattle.host_base.specs.declared.request.Request.{Request}
use Rattle.bridge_headers.specs.Lines.{HeaderLine, lines_text, lower_line, states_length, passed}

-- a letter, a digit, `-`, `_`, `.` or `~`
abbrev pub is_unreserved : ℕ → Bool
is_unreserved b = (nat_le 65 b && nat_le b 90) || (nat_le 97 b && nat_le b 122) || (nat_le 48 b && nat_le b 57) || b == 45 || b == 95 || b == 46 || b == 126

-- a byte of a user's name: itself, or `%` and its two hexadecimal digits
abbrev pub name_byte : ℕ → List ℕ
name_byte b = if is_unreserved b then b ∷ [] else percent_encode_byte b

abbrev pub name_text : List ℕ → List ℕ
name_text name = flat_map name_byte name

-- a number as 16 hexadecimal digits
unfoldable pub number_text : ℕ → List ℕ
number_text n = encode_lower (to_be_bytes w64 n)

-- how a grain knows an account
unfoldable pub user_id_text : AccountId → List ℕ
user_id_text a = encode_lower (take 16 (sha256 (codes "account:" ++ decimal a.0)))

-- a grain is asked by GET where the client wants the head alone
abbrev pub asked_method : List ℕ → List ℕ
asked_method method = if bytes_eq method (codes "HEAD") then codes "GET" else method

abbrev pub request_line : Request → List ℕ
request_line request = asked_method request.method ++ codes " " ++ request.target ++ codes " HTTP/1.1\r\n"

-- the tab and the session, for requests of a session
abbrev pub tab_lines : Option TabMark → List HeaderLine
tab_lines None = []
tab_lines (Some mark) = (codes "X-Sandstorm-Tab-Id", number_text mark.tab) ∷ (codes "X-Sandstorm-Session-Id", number_text mark.session.0) ∷ []

-- who asks
abbrev pub shown_lines : Shown → List HeaderLine
shown_lines Anonymous = (codes "X-Sandstorm-Username", codes "Anonymous%20User") ∷ []
shown_lines (Account num handle name) =
    (codes "X-Sandstorm-Username", name_text name) ∷ (codes "X-Sandstorm-User-Id", user_id_text num) ∷ (codes "X-Sandstorm-Preferred-Handle", handle) ∷ []

-- the names of the permissions held
abbrev pub permission_line : Permit → HeaderLine
permission_line permit = (codes "X-Sandstorm-Permissions", join_with_byte 44 permit.names)

-- the lines that the server writes of a permit
abbrev pub server_lines : Permit → List HeaderLine
server_lines permit = (codes "Host", codes "sandbox") ∷ (codes "Connection", codes "close") ∷ tab_lines permit.tab ++ shown_lines permit.shown ++ permission_line permit ∷ []

-- the names of the client's lines that are passed on
abbrev pub request_names : List (List ℕ)
request_names = codes "accept" ∷ codes "accept-language" ∷ codes "content-type" ∷ codes "cookie" ∷ codes "range" ∷ codes "user-agent" ∷ []

-- the lines that the client sent
abbrev pub client_lines : List Field → List HeaderLine
client_lines fields = map (λ field. (field.name, field.value)) fields

abbrev pub length_line : Request → HeaderLine
length_line request = (codes "Content-Length", decimal (length request.body))

-- the length of the body, where the client sent one
abbrev pub length_lines : Request → List HeaderLine
length_lines request = if list_any states_length (client_lines request.fields) then length_line request ∷ [] else []

-- all lines that a grain gets
abbrev pub lines_of : Permit → Request → List HeaderLine
lines_of permit request = server_lines permit ++ passed request_names (client_lines request.fields) ++ length_lines request

-- a text of these lines for a request
abbrev pub text_of_lines : Request → List HeaderLine → List ℕ
text_of_lines request lines = request_line request ++ lines_text lines ++ codes "\r\n" ++ request.body

-- the text that a grain gets for a request
abbrev pub grain_text : Permit → Request → List ℕ
grain_text permit request = text_of_lines request (lines_of permit request)

-- A line that the client sent, under its name in lower case, which is listed or begins with `x-sandstorm-app-`.
pub record IsClientLine (request : Request) (line : HeaderLine) : Type 0 where
  pub sent : HeaderLine
  pub was_sent : Contains (client_lines request.fields) sent
  pub lowered : line ≡ lower_line sent
  pub listed : Contains request_names line.0 ⊎ (take 16 line.0 ≡ codes "x-sandstorm-app-")

-- A line that a grain may get: one of the server's own, one of the client's that is listed, or the length.
abbrev pub IsPassedLine : Permit → Request → HeaderLine → Type 0
IsPassedLine permit request line = Contains (server_lines permit) line ⊎ (IsClientLine request line ⊎ (line ≡ length_line request))

-- A text of such lines alone.
pub record HasOnlyListed (permit : Permit) (request : Request) (text : List ℕ) : Type 0 where
  pub lines : List HeaderLine
  pub text_is : text ≡ text_of_lines request lines
  pub listed : All (IsPassedLine permit request) lines
