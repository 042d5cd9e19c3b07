-- No line of a client's is in a grain's text but those that are listed.
use Rattle.std.proofs.Common.{◌≡◌, ℕ, ◌++◌, ◌⊎◌, inl, inr, Bool, true, false, cond, List, [], ◌∷◌, All, Contains, take, map, filter, codes, refl, sym, ◌∙◌}
use Rattle.std.specs.List.{list_any, AllByRecursion}
use Rattle.std.specs.Char.{to_ascii_lowercase}
use Rattle.std.specs.Str.{bytes_eq}
use Rattle.std.proofs.lemmas.List.{take-map}
use Rattle.std.proofs.lemmas.List.Elements.{All-nil, All-cons, All-append, All-head, All-tail, All-weaker}
use Rattle.std.proofs.lemmas.Slice.Eq.{bytes_eq-Decides}
use Rattle.host_base.specs.declared.permit.Permit.{Permit}
use Rattle.host_base.specs.declared.request.Request.{Request}
use Rattle.bridge_headers.specs.Lines.{HeaderLine, lower, lower_line, is_passed, passed, same_name}
use Rattle.bridge_headers.specs.Text.{IsClientLine, IsPassedLine, HasOnlyListed, client_lines, grain_text, length_line, length_lines, lines_of, request_names, server_lines}
use Rattle.bridge_headers.specs.Lines.{states_length}
use Rattle.bridge_headers.proofs.LineLemmas.{all_contained, is_listed, true_or}

all_low : AllByRecursion (λ listed. lower listed ≡ listed) request_names
all_low = (refl, (refl, (refl, (refl, (refl, (refl, tt))))))

-- a name that passes is listed, or begins as those of applications do
passes_listed : (name : List ℕ) → is_passed request_names name ≡ true → Contains request_names (lower name) ⊎ (take 16 (lower name) ≡ codes "x-sandstorm-app-")
unfolding is_passed same_name
passes_listed name passes =
    elim (true_or (list_any (same_name name) request_names) (bytes_eq (lower (take 16 name)) (lower (codes "x-sandstorm-app-"))) passes) [
      | inl among ↦ inl (is_listed name request_names all_low among)
      | inr app ↦ inr (take-map to_ascii_lowercase 16 name ∙ (bytes_eq-Decides (lower (take 16 name)) (codes "x-sandstorm-app-")).0 app)
    ]

by_test : (request : Request) (line : HeaderLine) (lines : List HeaderLine) → Contains (client_lines request.fields) line → (test : Bool) → test ≡ is_passed request_names line.0
    → All (IsClientLine request) (map lower_line lines) → All (IsClientLine request) (map lower_line (cond test (line ∷ lines) lines))
by_test request line lines sent true is rest =
    All-cons (IsClientLine request) (lower_line line) (map lower_line lines) (record { sent = line; was_sent = sent; lowered = refl; listed = passes_listed line.0 (sym is) }) rest
by_test request line lines sent false is rest = rest

all_client : (request : Request) (lines : List HeaderLine) → All (Contains (client_lines request.fields)) lines → All (IsClientLine request) (passed request_names lines)
all_client request [] sent = All-nil (IsClientLine request)
all_client request (line ∷ lines) sent =
    by_test request line (filter (λ kept. is_passed request_names kept.0) lines) (All-head (Contains (client_lines request.fields)) line lines sent) (is_passed request_names line.0) refl (all_client request lines (All-tail (Contains (client_lines request.fields)) line lines sent))

all_length : (request : Request) (test : Bool) → All (λ line. line ≡ length_line request) (cond test (length_line request ∷ []) [])
all_length request true = All-cons (λ line. line ≡ length_line request) (length_line request) [] refl (All-nil (λ line. line ≡ length_line request))
all_length request false = All-nil (λ line. line ≡ length_line request)

all_listed : (permit : Permit) (request : Request) → All (IsPassedLine permit request) (lines_of permit request)
all_listed permit request =
    All-append (IsPassedLine permit request) (server_lines permit ++ passed request_names (client_lines request.fields)) (length_lines request)
    (All-append (IsPassedLine permit request) (server_lines permit) (passed request_names (client_lines request.fields))
    (All-weaker (Contains (server_lines permit)) (IsPassedLine permit request) (λ line own. inl own) (server_lines permit) (all_contained (server_lines permit)))
    (All-weaker (IsClientLine request) (IsPassedLine permit request) (λ line client. inr (inl client)) (passed request_names (client_lines request.fields)) (all_client request (client_lines request.fields) (all_contained (client_lines request.fields)))))
    (All-weaker (λ line. line ≡ length_line request) (IsPassedLine permit request) (λ line is. inr (inr is)) (length_lines request) (all_length request (list_any states_length (client_lines request.fields))))

pub only_listed : (permit : Permit) (request : Request) (text : List ℕ) → text ≡ grain_text permit request → HasOnlyListed permit request text
only_listed permit request text is = record { lines = lines_of permit request; text_is = is; listed = all_listed permit request }
