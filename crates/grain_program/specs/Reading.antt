-- An aid for the contracts of the private functions that read a text.
use Rattle.std.specs.Prelude.{◌≡◌, ℕ, ◌<◌, ◌≤◌, ◌++◌, Bool, true, false, List, Option, Some, None, length}
use Rattle.front_http.specs.Stream.{head_length}
use Rattle.grain_program.specs.Stated.{text_of}

-- what is held and what is left are all the bytes
pub record IsHeldOf (bytes held : List ℕ) (told : Option (List ℕ)) : Type 0 where
  pub rest : List ℕ
  pub told_is : told ≡ Some rest
  pub same : held ++ rest ≡ bytes

-- what is held has a head, or the bytes state no text
abbrev pub GotHead : List ℕ → Option ℕ → List ℕ → Option (List ℕ) → Type 0
GotHead bytes (Some n) held told = (head_length held ≡ Some n) × IsHeldOf bytes held told
GotHead bytes None held told = text_of bytes ≡ None

-- so many bytes are held, or there were fewer
abbrev pub HasBytes : ℕ → List ℕ → Bool → List ℕ → Option (List ℕ) → Type 0
HasBytes n bytes true held told = (n ≤ length held) × IsHeldOf bytes held told
HasBytes n bytes false held told = length bytes < n
