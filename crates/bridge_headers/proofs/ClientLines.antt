-- The client's lines, one after another.
use Rattle.std.proofs.Common.{◌≡◌, ℕ, ◌+◌, ◌<◌, ◌++◌, Bool, true, cond, List, [], ◌∷◌, length, get_or, take, ap, sym, ◌∙◌, codes}
use Rattle.std.specs.List.{list_any}
use Rattle.std.proofs.lemmas.List.{map-append, take_more}
use Rattle.host_base.specs.declared.request.Field.{Field}
use Rattle.host_base.specs.declared.request.Request.{Request}
use Rattle.bridge_headers.specs.Lines.{lines_text, passed}
use Rattle.bridge_headers.specs.Text.{client_lines, length_line, length_lines, request_line, request_names, server_lines, grain_text}
use Rattle.bridge_headers.specs.Lines.{states_length}
use Rattle.host_base.specs.declared.permit.Permit.{Permit}
use Rattle.bridge_headers.proofs.LineLemmas.{passed_next, more_lines}

-- the length line, where a length was sent
pub length_sent : (request : Request) → list_any states_length (client_lines request.fields) ≡ true → length_lines request ≡ length_line request ∷ []
length_sent request sent = ap (λ (b : Bool). cond b (length_line request ∷ []) []) sent

-- one line more
pub client_more : (new mid old : List ℕ) (fields : List Field) (i : ℕ) (field : Field) → i < length fields → field ≡ get_or fields i field
    → mid ≡ old ++ lines_text (passed request_names (client_lines (take i fields))) → new ≡ mid ++ lines_text (passed request_names ((field.name, field.value) ∷ []))
    → new ≡ old ++ lines_text (passed request_names (client_lines (take (i + 1) fields)))
client_more new mid old fields i field within is first second =
    let more : take (i + 1) fields ≡ take i fields ++ field ∷ [] = take_more fields i field within ∙ ap (λ (f : Field). take i fields ++ f ∷ []) (sym is) in
    let lines : client_lines (take (i + 1) fields) ≡ client_lines (take i fields) ++ (field.name, field.value) ∷ [] =
    ap client_lines more ∙ map-append (λ (f : Field). (f.name, f.value)) (take i fields) (field ∷ []) in
    passed_next request_names new mid old (client_lines (take i fields)) (client_lines (take (i + 1) fields)) (field.name, field.value) lines first second

-- the parts of a text, one after another
pub parts : (permit : Permit) (request : Request) (line own client length end body : List ℕ) → line ≡ request_line request → own ≡ line ++ lines_text (server_lines permit)
    → client ≡ own ++ lines_text (passed request_names (client_lines request.fields)) → length ≡ client ++ lines_text (length_lines request)
    → end ≡ length ++ codes "\r\n" → body ≡ end ++ request.body → body ≡ grain_text permit request
parts permit request line own client length end body l o c n e b =
    let first : own ≡ request_line request ++ lines_text (server_lines permit) = o ∙ ap (λ (xs : List ℕ). xs ++ lines_text (server_lines permit)) l in
    let second = more_lines client own (request_line request) (server_lines permit) (passed request_names (client_lines request.fields)) first c in
    let third = more_lines length client (request_line request) (server_lines permit ++ passed request_names (client_lines request.fields)) (length_lines request) second n in
    b ∙ ap (λ (xs : List ℕ). xs ++ request.body) (e ∙ ap (λ (xs : List ℕ). xs ++ codes "\r\n") third)
