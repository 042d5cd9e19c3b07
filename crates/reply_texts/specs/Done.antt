-- THE ANSWER TO A COMMAND THAT IS DONE: a JSON object of what was made, and of the text of a secret where one is handed out. Its keys
-- stand in the order of their bytes.
use Rattle.std.specs.Prelude.{ℕ, Bool, false, List, [], ◌∷◌, ◌++◌, codes, decimal, Option, Some, None, option_map}
use Rattle.std.specs.List.{filter_map, join_with_byte}
use Rattle.share_graph.specs.declared.desk.Made.{Made}
use Rattle.front_http.specs.Texts.{reply_text}
use Rattle.reply_texts.specs.declared.done.Handed.{Handed}
use Rattle.reply_texts.specs.declared.done.Handed.TheVariants.{Token, Key}

-- the text of a secret that is handed out as a token, and as a session's key
abbrev pub token_of : Handed → Option (List ℕ)
token_of (Token text) = Some text
token_of _ = None

abbrev pub key_of : Handed → Option (List ℕ)
key_of (Key text) = Some text
key_of _ = None

-- a member of an object: its key, and a number or a text
abbrev pub member : List ℕ → List ℕ → List ℕ
member key value = codes "\"" ++ key ++ codes "\":" ++ value

abbrev pub number_member : List ℕ → ℕ → List ℕ
number_member key number = member key (decimal number)

-- The text stands as it is: base64 in the URL alphabet and hexadecimal digits need no escape.
abbrev pub text_member : List ℕ → List ℕ → List ℕ
text_member key text = member key (codes "\"" ++ text ++ codes "\"")

-- what an answer may show, in the order of the keys' bytes
unfoldable pub members : Made → Handed → List (Option (List ℕ))
members made handed =
    option_map (number_member (codes "account")) made.account
    ∷ option_map (number_member (codes "app")) made.app
    ∷ option_map (number_member (codes "grain")) made.grain
    ∷ option_map (number_member (codes "grant")) made.grant
    ∷ option_map (number_member (codes "handle")) made.handle
    ∷ option_map (text_member (codes "key")) (key_of handed)
    ∷ option_map (number_member (codes "saved")) made.saved
    ∷ option_map (number_member (codes "session")) made.session
    ∷ option_map (text_member (codes "token")) (token_of handed)
    ∷ []

-- the object with those of them that are there
abbrev pub done_body : Made → Handed → List ℕ
done_body made handed = codes "{" ++ join_with_byte 44 (filter_map (λ found. found) (members made handed)) ++ codes "}"

-- the answer to a command that is done
abbrev pub done_text : Made → Handed → Bool → List ℕ
done_text made handed head_only = reply_text 200 false (done_body made handed) head_only
