-- The grammar of rows: a few formats for fields, and the words that put formats together.
use Rattle.std.specs.Prelude.{◌≡◌, ℕ, ℤ, suc, zero, ◌^◌, ◌<◌, nat_le, ◌==◌, ◌&&◌, Bool, true, false, List, [], ◌∷◌, ◌++◌, length, Option, Some, None, Ok, Err, MatchBool, if◌then◌else◌}
use Rattle.std.specs.Int.{Width, w8, w16, w128, byte_len, to_be_bytes, from_be_bytes, cast_signed, cast_unsigned}
use Rattle.std.specs.Str.{is_utf8}
use Rattle.std.specs.Cmp.Lexicographic.{slice_cmp}
use Rattle.std.specs.Ordering.{nat_cmp, is_lt}
use Rattle.host_base.specs.declared.digest.Digest.{Digest}
use Rattle.plain_data.specs.Name.{IsName, is_plain}
use Rattle.row_formats.specs.declared.fault.RowFault.{RowFault}
use Rattle.row_formats.specs.declared.fault.RowFault.TheVariants.{BadVersion, BadField}
use Rattle.row_formats.specs.Place.{Place, Read, ◌>>=◌, bytes_at, judged}

-- a format: which values are written in it, how one is written, and what is read at a place
pub record Format (A : Type 0) : Type 1 where
  pub fits : A → Type 0
  pub write : A → List ℕ
  pub read : Place → Read A

-- ---- fields

-- a number that is read, its highest byte first
unfoldable pub number_at : Width → Place → Read ℕ
number_at w p = do
  bytes ← bytes_at (byte_len w) p
  Ok (from_be_bytes w bytes.0, bytes.1)

-- a number that is written, its highest byte first
unfoldable pub number_bytes : Width → ℕ → List ℕ
number_bytes w n = to_be_bytes w n

-- a number of so many bytes, its highest byte first
abbrev pub number : Width → Format ℕ
number w = record { fits = λ n. n < 256 ^ byte_len w; write = number_bytes w; read = number_at w }

-- so many bytes
abbrev pub bytes : ℕ → Format (List ℕ)
bytes n = record { fits = λ bs. length bs ≡ n; write = λ bs. bs; read = bytes_at n }

-- the name that bytes are, if they are one
unfoldable pub name_of : List ℕ → Option (List ℕ)
name_of bytes = if is_utf8 bytes && is_plain bytes then Some bytes else None

-- a text that is read: its length in two bytes, and that many bytes, which are a name
unfoldable pub text_at : Place → Read (List ℕ)
text_at p = do
  size ← number_at w16 p
  bytes ← bytes_at size.0 size.1
  judged p.at (name_of bytes.0) bytes.1

-- a text: its length in two bytes, and a name
abbrev pub text : Format (List ℕ)
text = record { fits = IsName; write = λ t. number_bytes w16 (length t) ++ t; read = text_at }

-- ---- the words that put formats together

-- no bytes, for the one value
abbrev pub always : {A : Type 0} → A → Format A
always x = record { fits = λ y. y ≡ x; write = λ y. []; read = λ p. Ok (x, p) }

-- one format behind the other
infixr 6 ◌⊗◌
abbrev pub ◌⊗◌ : {A B : Type 0} → Format A → Format B → Format (A × B)
f ⊗ g = record {
  fits = λ x. f.fits x.0 × g.fits x.1;
  write = λ x. f.write x.0 ++ g.write x.1;
  read = λ p. f.read p >>= λ x. g.read x.1 >>= λ y. Ok ((x.0, y.0), y.1);
}

-- the values that are made of parts
abbrev pub made : {A B : Type 0} → (B → A) → (A → B) → Format B → Format A
made make parts f = record {
  fits = λ x. f.fits (parts x) × (make (parts x) ≡ x);
  write = λ x. f.write (parts x);
  read = λ p. f.read p >>= λ y. Ok (make y.0, y.1);
}

-- the values that pass a test, judged at the place where they began
abbrev pub only : {A : Type 0} → (A → Bool) → Format A → Format A
only test f = record {
  fits = λ x. f.fits x × (test x ≡ true);
  write = f.write;
  read = λ p. f.read p >>= λ x. judged p.at (if test x.0 then Some x.0 else None) x.1;
}

-- of formats that are numbered from k on, the value fits the one of number n
abbrev pub fits_one : {A : Type 0} → ℕ → List (Format A) → ℕ → A → Type 0
fits_one k [] n x = ⊥
fits_one k (f ∷ fs) n x = MatchBool (n == k) (f.fits x) (fits_one (suc k) fs n x)

-- of formats that are numbered from k on, the value is written in the one of number n
abbrev pub write_one : {A : Type 0} → ℕ → List (Format A) → ℕ → A → List ℕ
write_one k [] n x = []
write_one k (f ∷ fs) n x = if n == k then f.write x else write_one (suc k) fs n x

-- of formats that are numbered from k on, the one of number n is read, and a number that none has is the fault
abbrev pub read_one : {A : Type 0} → RowFault → ℕ → List (Format A) → ℕ → Place → Read A
read_one fault k [] n p = Err fault
read_one fault k (f ∷ fs) n p = if n == k then f.read p else read_one fault (suc k) fs n p

-- a byte that says which of the formats follows, numbered from first on
abbrev pub numbered : {A : Type 0} → (ℕ → ℕ → RowFault) → ℕ → (A → ℕ) → List (Format A) → Format A
numbered fault first number_of formats = record {
  fits = λ x. fits_one first formats (number_of x) x;
  write = λ x. number_of x ∷ write_one first formats (number_of x) x;
  read = λ p. number_at w8 p >>= λ n. read_one (fault p.at n.0) first formats n.0 n.1;
}

-- a choice: another number is a fault at its byte
abbrev pub choice : {A : Type 0} → ℕ → (A → ℕ) → List (Format A) → Format A
choice = numbered (λ at n. BadField at)

-- a row's body: its version, from 1 on, and the fields of that version
abbrev pub versions : {A : Type 0} → (A → ℕ) → List (Format A) → Format A
versions = numbered (λ at n. BadVersion n) 1

-- a row's body whose one version is 1: that byte, and the fields
abbrev pub first_version : {A : Type 0} → Format A → Format A
first_version f = versions (λ x. 1) (f ∷ [])

-- 1 for yes, 0 for no
abbrev pub flag_number : Bool → ℕ
flag_number b = if b then 1 else 0

-- yes or no: a byte that is 0 or 1
abbrev pub flag : Format Bool
flag = choice 0 flag_number (always false ∷ always true ∷ [])

-- items fit, each a format that may depend on the item before it
abbrev pub AllFit : {A : Type 0} → (Option A → A → Type 0) → Option A → List A → Type 0
AllFit fits last [] = Unit {0}
AllFit fits last (x ∷ xs) = fits last x × AllFit fits (Some x) xs

-- items that are written one behind the other
abbrev pub write_items : {A : Type 0} → (Option A → A → List ℕ) → Option A → List A → List ℕ
write_items write last [] = []
write_items write last (x ∷ xs) = write last x ++ write_items write (Some x) xs

-- so many items that are read one behind the other
unfoldable pub items_at : {A : Type 0} → (Option A → Place → Read A) → Option A → ℕ → Place → Read (List A)
items_at read last zero p = Ok ([], p)
items_at read last (suc n) p = do
  x ← read last p
  xs ← items_at read (Some x.0) n x.1
  Ok (x.0 ∷ xs.0, xs.1)

-- the last item of a list, if it has one
abbrev pub last_of : {A : Type 0} → List A → Option A
last_of [] = None
last_of (x ∷ []) = Some x
last_of (x ∷ y ∷ ys) = last_of (y ∷ ys)

-- a count in two bytes, of at most a limit
abbrev pub count : ℕ → Format ℕ
count limit = only (λ n. nat_le n limit) (number w16)

-- a list that is read: a count, which is judged before the items, and so many items
abbrev pub list_at : {A : Type 0} → ℕ → (Option A → Place → Read A) → Place → Read (List A)
list_at limit read p = (count limit).read p >>= λ n. items_at read None n.0 n.1

-- a list of at most so many items, each in a format that may depend on the item before it
abbrev pub chain : {A : Type 0} → ℕ → (Option A → Format A) → Format (List A)
chain limit f = record {
  fits = λ xs. (count limit).fits (length xs) × AllFit (λ last. (f last).fits) None xs;
  write = λ xs. number_bytes w16 (length xs) ++ write_items (λ last. (f last).write) None xs;
  read = list_at limit (λ last. (f last).read);
}

-- a list of at most so many items in one format
abbrev pub list : {A : Type 0} → ℕ → Format A → Format (List A)
list limit f = chain limit (λ last. f)

-- ---- fields that are put together

-- a whole number of either sign: sixteen bytes, two's complement
abbrev pub integer : Format ℤ
integer = made (cast_signed w128) (cast_unsigned w128) (number w128)

-- a digest: its 32 bytes
abbrev pub digest : Format Digest
digest = made (λ bs. record { 0 = bs }) (λ d. d.0) (bytes 32)

-- whether a name is above the one before it, by their bytes
abbrev pub is_above : Option (List ℕ) → List ℕ → Bool
is_above None name = true
is_above (Some last) name = is_lt (slice_cmp nat_cmp last name)

-- a text above the one before it
abbrev pub text_above : Option (List ℕ) → Format (List ℕ)
text_above last = only (is_above last) text
