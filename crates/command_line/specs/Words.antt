-- The lines that the program's words may be.
use Rattle.std.specs.Prelude.{◌≡◌, ◌≤◌, ℕ, List, [], ◌∷◌, Option, None, Some, length, map, slice_get, codes, String, string_bytes}
use Rattle.std.specs.Str.Parse.{IsNumeral, digits_value}
use Rattle.std.specs.declared.alloc.Global.{Global}
use Rattle.command_line.specs.declared.line.Line.{Line}
use Rattle.command_line.specs.declared.line.Line.TheVariants as line
use Rattle.command_line.specs.declared.line.Tunnels.{Tunnels}

-- 1 to 10 decimal digits, leading zeros among them, and their number
pub record IsDecimalOf (digits : List ℕ) (number : ℕ) : Type 0 where
  pub numeral : IsNumeral 10 digits
  pub few : length digits ≤ 10
  pub value : number ≡ digits_value 10 digits

-- such digits of a number from 1 to a limit
pub record IsCount (limit : ℕ) (digits : List ℕ) (count : ℕ) : Type 0 where
  pub number : IsDecimalOf digits count
  pub some : 1 ≤ count
  pub within : count ≤ limit

-- such digits of a number of 32 bits, 0 among them
pub record IsNumber (digits : List ℕ) (n : ℕ) : Type 0 where
  pub number : IsDecimalOf digits n
  pub within : n ≤ 4294967295

-- a path: a word that doesn't begin with `-`
abbrev pub IsPath : List ℕ → Type 0
IsPath word = slice_get word 0 ≡ Some 45 → ⊥

-- the one word `play`
abbrev pub IsPlay : List (String Global) → Type 0
IsPlay words = map string_bytes words ≡ codes "play" ∷ []

-- The words `serve FILE PORT COUNT`.
pub record IsServe (words : List (String Global)) (port count : ℕ) : Type 0 where
  pub file : List ℕ
  pub port_digits : List ℕ
  pub count_digits : List ℕ
  pub words_are : map string_bytes words ≡ codes "serve" ∷ file ∷ port_digits ∷ count_digits ∷ []
  pub path : IsPath file
  pub port_is : IsCount 65535 port_digits port
  pub count_is : IsCount 1000000 count_digits count

-- The words `serve FILE PORT COUNT WSPORT WSCOUNT`.
pub record IsServeBoth (words : List (String Global)) (port count : ℕ) (tunnels : Tunnels) : Type 0 where
  pub file : List ℕ
  pub port_digits : List ℕ
  pub count_digits : List ℕ
  pub ws_port_digits : List ℕ
  pub ws_count_digits : List ℕ
  pub words_are : map string_bytes words
      ≡ codes "serve" ∷ file ∷ port_digits ∷ count_digits ∷ ws_port_digits ∷ ws_count_digits ∷ []
  pub path : IsPath file
  pub port_is : IsCount 65535 port_digits port
  pub count_is : IsCount 1000000 count_digits count
  pub ws_port_is : IsCount 65535 ws_port_digits tunnels.port
  pub ws_count_is : IsCount 1000000 ws_count_digits tunnels.count

-- how many tunnels a line has served
abbrev pub tunnels_in : Option Tunnels → ℕ
tunnels_in None = 0
tunnels_in (Some tunnels) = tunnels.count

-- The words `gen COUNT SEED`.
pub record IsGen (words : List (String Global)) (count seed : ℕ) : Type 0 where
  pub count_digits : List ℕ
  pub seed_digits : List ℕ
  pub words_are : map string_bytes words ≡ codes "gen" ∷ count_digits ∷ seed_digits ∷ []
  pub count_is : IsCount 100000 count_digits count
  pub seed_is : IsDecimalOf seed_digits seed

-- The words `check FILE`.
pub record IsCheck (words : List (String Global)) : Type 0 where
  pub file : List ℕ
  pub words_are : map string_bytes words ≡ codes "check" ∷ file ∷ []
  pub path : IsPath file

-- The words `grain SOCKET COUNT`.
pub record IsGrainLine (words : List (String Global)) (count : ℕ) : Type 0 where
  pub socket : List ℕ
  pub count_digits : List ℕ
  pub words_are : map string_bytes words ≡ codes "grain" ∷ socket ∷ count_digits ∷ []
  pub path : IsPath socket
  pub count_is : IsCount 1000000000 count_digits count

-- The words `access FILE GRAIN`.
pub record IsAccess (words : List (String Global)) (grain : ℕ) : Type 0 where
  pub file : List ℕ
  pub grain_digits : List ℕ
  pub words_are : map string_bytes words ≡ codes "access" ∷ file ∷ grain_digits ∷ []
  pub path : IsPath file
  pub grain_is : IsNumber grain_digits grain

-- The words `preview FILE GRANT`.
pub record IsPreview (words : List (String Global)) (grant : ℕ) : Type 0 where
  pub file : List ℕ
  pub grant_digits : List ℕ
  pub words_are : map string_bytes words ≡ codes "preview" ∷ file ∷ grant_digits ∷ []
  pub path : IsPath file
  pub grant_is : IsNumber grant_digits grant

-- The words `collect FILE GRAIN GRANT`.
pub record IsCollect (words : List (String Global)) (grain grant : ℕ) : Type 0 where
  pub file : List ℕ
  pub grain_digits : List ℕ
  pub grant_digits : List ℕ
  pub words_are : map string_bytes words ≡ codes "collect" ∷ file ∷ grain_digits ∷ grant_digits ∷ []
  pub path : IsPath file
  pub grain_is : IsNumber grain_digits grain
  pub grant_is : IsNumber grant_digits grant

-- The words are none of the lines.
pub record IsNoLine (words : List (String Global)) : Type 0 where
  pub play : IsPlay words → ⊥
  pub serve : (port count : ℕ) → IsServe words port count → ⊥
  pub serve_both : (port count : ℕ) (tunnels : Tunnels) → IsServeBoth words port count tunnels → ⊥
  pub gen : (count seed : ℕ) → IsGen words count seed → ⊥
  pub check : IsCheck words → ⊥
  pub grain : (count : ℕ) → IsGrainLine words count → ⊥
  pub access : (grain : ℕ) → IsAccess words grain → ⊥
  pub preview : (grant : ℕ) → IsPreview words grant → ⊥
  pub collect : (grain grant : ℕ) → IsCollect words grain grant → ⊥

-- the line that words are
abbrev pub IsLine : List (String Global) → Line → Type 0
IsLine words line.Play = IsPlay words
IsLine words (line.Serve port count None) = IsServe words port count
IsLine words (line.Serve port count (Some tunnels)) = IsServeBoth words port count tunnels
IsLine words (line.Gen count seed) = IsGen words count seed
IsLine words line.Check = IsCheck words
IsLine words (line.Grain count) = IsGrainLine words count
IsLine words (line.Access grain) = IsAccess words grain
IsLine words (line.Preview grant) = IsPreview words grant
IsLine words (line.Collect grain grant) = IsCollect words grain grant
IsLine words line.Unknown = IsNoLine words

-- words are one line at most
abbrev pub IsOneOfLines : List (String Global) → Type 0
IsOneOfLines words = (one other : Line) → IsLine words one → IsLine words other → one ≡ other
