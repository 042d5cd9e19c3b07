-- What the lines' words are like.
use Rattle.std.proofs.Common.{◌≡◌, ◌≢◌, ◌<◌, ◌∙◌, ◌⊎◌, inl, inr, ℕ, true, true≢false, bytes_eq, List, length, [], ◌∷◌, Option, None, Some, map, codes, get_or, String, string_bytes, sym, ap, ap₂, subst, refl, arith}
use Rattle.std.proofs.Math.ListN.{get_or-map, length-map}
use Rattle.std.specs.List.{All}
use Rattle.std.specs.Str.Parse.{IsNumeral}
use Rattle.std.specs.declared.alloc.Global.{Global}
use Rattle.std.proofs.lemmas.List.Elements.{All-cons, All-nil}
use Rattle.std.proofs.lemmas.Slice.Eq.{bytes_eq-Decides}
use Rattle.std.proofs.lemmas.Str.Parse.{digit_from_value}
use Rattle.command_line.specs.declared.line.Line.{Line}
use Rattle.command_line.specs.declared.line.Line.TheVariants as line
use Rattle.command_line.specs.declared.line.Tunnels.{Tunnels}
use Rattle.command_line.specs.Words.{IsAccess, IsCheck, IsCollect, IsCount, IsGen, IsGrainLine, IsLine, IsNoLine, IsNumber, IsOneOfLines, IsPath, IsPlay, IsPreview, IsServe, IsServeBoth}

-- a word's text says the number that the words' texts have at its place
pub count_said : (limit count : ℕ) (words : List (String Global)) (texts : List (List ℕ)) (place : ℕ) (word : String Global) (text : List ℕ)
    → map string_bytes words ≡ texts → word ≡ get_or words place word → text ≡ string_bytes word
    → IsCount limit (get_or texts place (string_bytes word)) count → IsCount limit text count
count_said limit count words texts place word text are is reads counts =
    let P : List ℕ → Type 0 = λ digits. IsCount limit digits count in
    let there = ap (λ (xs : List (List ℕ)). get_or xs place (string_bytes word)) are in
    subst P (sym (reads ∙ ap string_bytes is ∙ sym (get_or-map string_bytes words place word) ∙ there)) counts

-- the same of the number of a row
pub row_said : (number : ℕ) (words : List (String Global)) (texts : List (List ℕ)) (place : ℕ) (word : String Global) (text : List ℕ)
    → map string_bytes words ≡ texts → word ≡ get_or words place word → text ≡ string_bytes word
    → IsNumber (get_or texts place (string_bytes word)) number → IsNumber text number
row_said number words texts place word text are is reads says =
    let P : List ℕ → Type 0 = λ digits. IsNumber digits number in
    let there = ap (λ (xs : List (List ℕ)). get_or xs place (string_bytes word)) are in
    subst P (sym (reads ∙ ap string_bytes is ∙ sym (get_or-map string_bytes words place word) ∙ there)) says

begins : (x : ℕ) (xs : List ℕ) → x ≢ 45 → IsPath (x ∷ xs)
begins x xs other e = other cc

play_path : IsPath (codes "play")
play_path = begins 112 (codes "lay") (λ e. omega arith)

serve_path : IsPath (codes "serve")
serve_path = begins 115 (codes "erve") (λ e. omega arith)

gen_path : IsPath (codes "gen")
gen_path = begins 103 (codes "en") (λ e. omega arith)

check_path : IsPath (codes "check")
check_path = begins 99 (codes "heck") (λ e. omega arith)

grain_path : IsPath (codes "grain")
grain_path = begins 103 (codes "rain") (λ e. omega arith)

access_path : IsPath (codes "access")
access_path = begins 97 (codes "ccess") (λ e. omega arith)

preview_path : IsPath (codes "preview")
preview_path = begins 112 (codes "review") (λ e. omega arith)

collect_path : IsPath (codes "collect")
collect_path = begins 99 (codes "ollect") (λ e. omega arith)

-- digits begin with no `-`
digits_path : (digits : List ℕ) → IsNumeral 10 digits → IsPath digits
digits_path [] is e = cc
digits_path (x ∷ xs) is e =
    let minus : x ≡ 45 = cc in
    let range = digit_from_value x is.1.0 in
    omega (arith, range.0, range.1)

count_path : (limit : ℕ) (digits : List ℕ) (count : ℕ) → IsCount limit digits count → IsPath digits
count_path limit digits count is = digits_path digits is.number.numeral

-- what holds of the texts of words holds of the words
pub each_path : (words : List (String Global)) → All IsPath (map string_bytes words) → All (λ word. IsPath (string_bytes word)) words
each_path words paths k d within =
    let inside : k < length (map string_bytes words) = rw length-map within in
    subst IsPath (get_or-map string_bytes words k d) (paths k (string_bytes d) inside)

two_paths : (a b : List ℕ) → IsPath a → IsPath b → All IsPath (a ∷ b ∷ [])
two_paths a b p q = All-cons IsPath a (b ∷ []) p (All-cons IsPath b [] q (All-nil IsPath))

three_paths : (a b c : List ℕ) → IsPath a → IsPath b → IsPath c → All IsPath (a ∷ b ∷ c ∷ [])
three_paths a b c p q r = All-cons IsPath a (b ∷ c ∷ []) p (two_paths b c q r)

module _ (words : List (String Global)) where
  abbrev AllPaths : List (List ℕ) → Type 0
  AllPaths = All IsPath

  play_plain : IsPlay words → AllPaths (map string_bytes words)
  play_plain is = subst AllPaths (sym is) (All-cons IsPath (codes "play") [] play_path (All-nil IsPath))

  serve_plain : (port count : ℕ) → IsServe words port count → AllPaths (map string_bytes words)
  serve_plain port count is = subst AllPaths (sym is.words_are)
      (All-cons IsPath (codes "serve") (is.file ∷ is.port_digits ∷ is.count_digits ∷ []) serve_path
      (three_paths is.file is.port_digits is.count_digits is.path (count_path 65535 is.port_digits port is.port_is)
      (count_path 1000000 is.count_digits count is.count_is)))

  serve_both_plain : (port count : ℕ) (tunnels : Tunnels) → IsServeBoth words port count tunnels → AllPaths (map string_bytes words)
  serve_both_plain port count tunnels is = subst AllPaths (sym is.words_are)
      (All-cons IsPath (codes "serve") (is.file ∷ is.port_digits ∷ is.count_digits ∷ is.ws_port_digits ∷ is.ws_count_digits ∷ []) serve_path
      (All-cons IsPath is.file (is.port_digits ∷ is.count_digits ∷ is.ws_port_digits ∷ is.ws_count_digits ∷ []) is.path
      (All-cons IsPath is.port_digits (is.count_digits ∷ is.ws_port_digits ∷ is.ws_count_digits ∷ [])
      (count_path 65535 is.port_digits port is.port_is)
      (three_paths is.count_digits is.ws_port_digits is.ws_count_digits (count_path 1000000 is.count_digits count is.count_is)
      (count_path 65535 is.ws_port_digits tunnels.port is.ws_port_is) (count_path 1000000 is.ws_count_digits tunnels.count is.ws_count_is)))))

  gen_plain : (count seed : ℕ) → IsGen words count seed → AllPaths (map string_bytes words)
  gen_plain count seed is = subst AllPaths (sym is.words_are)
      (three_paths (codes "gen") is.count_digits is.seed_digits gen_path (digits_path is.count_digits is.count_is.number.numeral)
      (digits_path is.seed_digits is.seed_is.numeral))

  check_plain : IsCheck words → AllPaths (map string_bytes words)
  check_plain is = subst AllPaths (sym is.words_are) (two_paths (codes "check") is.file check_path is.path)

  grain_plain : (count : ℕ) → IsGrainLine words count → AllPaths (map string_bytes words)
  grain_plain count is = subst AllPaths (sym is.words_are)
      (three_paths (codes "grain") is.socket is.count_digits grain_path is.path (digits_path is.count_digits is.count_is.number.numeral))

  access_plain : (grain : ℕ) → IsAccess words grain → AllPaths (map string_bytes words)
  access_plain grain is = subst AllPaths (sym is.words_are)
      (three_paths (codes "access") is.file is.grain_digits access_path is.path (digits_path is.grain_digits is.grain_is.number.numeral))

  preview_plain : (grant : ℕ) → IsPreview words grant → AllPaths (map string_bytes words)
  preview_plain grant is = subst AllPaths (sym is.words_are)
      (three_paths (codes "preview") is.file is.grant_digits preview_path is.path (digits_path is.grant_digits is.grant_is.number.numeral))

  collect_plain : (grain grant : ℕ) → IsCollect words grain grant → AllPaths (map string_bytes words)
  collect_plain grain grant is = subst AllPaths (sym is.words_are)
      (All-cons IsPath (codes "collect") (is.file ∷ is.grain_digits ∷ is.grant_digits ∷ []) collect_path
      (three_paths is.file is.grain_digits is.grant_digits is.path (digits_path is.grain_digits is.grain_is.number.numeral)
      (digits_path is.grant_digits is.grant_is.number.numeral)))

  -- words of which one begins with `-` are no line
  pub no_line_with_option : (All IsPath (map string_bytes words) → ⊥) → IsNoLine words
  no_line_with_option bad = record {
    play = λ is. bad (play_plain is);
    serve = λ port count is. bad (serve_plain port count is);
    serve_both = λ port count tunnels is. bad (serve_both_plain port count tunnels is);
    gen = λ count seed is. bad (gen_plain count seed is);
    check = λ is. bad (check_plain is);
    grain = λ count is. bad (grain_plain count is);
    access = λ grain is. bad (access_plain grain is);
    preview = λ grant is. bad (preview_plain grant is);
    collect = λ grain grant is. bad (collect_plain grain grant is);
  }

-- words of a line are not no line
none_known : (words : List (String Global)) (one : Line) → IsLine words one → IsNoLine words → one ≡ line.Unknown
none_known words line.Play is none = absurd (none.play is)
none_known words (line.Serve port count None) is none = absurd (none.serve port count is)
none_known words (line.Serve port count (Some tunnels)) is none = absurd (none.serve_both port count tunnels is)
none_known words (line.Gen count seed) is none = absurd (none.gen count seed is)
none_known words line.Check is none = absurd (none.check is)
none_known words (line.Grain count) is none = absurd (none.grain count is)
none_known words (line.Access grain) is none = absurd (none.access grain is)
none_known words (line.Preview grant) is none = absurd (none.preview grant is)
none_known words (line.Collect grain grant) is none = absurd (none.collect grain grant is)
none_known words line.Unknown is none = refl

-- the word that a line begins with
abbrev first_word : Line → List ℕ
first_word line.Play = codes "play"
first_word (line.Serve port count tunnels) = codes "serve"
first_word (line.Gen count seed) = codes "gen"
first_word line.Check = codes "check"
first_word (line.Grain count) = codes "grain"
first_word (line.Access grain) = codes "access"
first_word (line.Preview grant) = codes "preview"
first_word (line.Collect grain grant) = codes "collect"
first_word line.Unknown = []

-- the words of a line begin with its word, but for the line that is none
begun : (words : List (String Global)) (one : Line) → IsLine words one
    → (one ≡ line.Unknown) ⊎ ((rest : List (List ℕ)) × (map string_bytes words ≡ first_word one ∷ rest))
begun words line.Play is = inr ([], is)
begun words (line.Serve port count None) is = inr (_, is.words_are)
begun words (line.Serve port count (Some tunnels)) is = inr (_, is.words_are)
begun words (line.Gen count seed) is = inr (_, is.words_are)
begun words line.Check is = inr (_, is.words_are)
begun words (line.Grain count) is = inr (_, is.words_are)
begun words (line.Access grain) is = inr (_, is.words_are)
begun words (line.Preview grant) is = inr (_, is.words_are)
begun words (line.Collect grain grant) is = inr (_, is.words_are)
begun words line.Unknown is = inl refl

-- words are one `serve` at most
one_serve : (words : List (String Global)) (p n q m : ℕ) (some other : Option Tunnels)
    → IsLine words (line.Serve p n some) → IsLine words (line.Serve q m other) → ◌≡◌ {A = Line} (line.Serve p n some) (line.Serve q m other)
one_serve words p n q m None None a b =
    cc (a.words_are, b.words_are, a.port_is.number.value, b.port_is.number.value, a.count_is.number.value, b.count_is.number.value)
one_serve words p n q m None (Some u) a b = cc (a.words_are, b.words_are)
one_serve words p n q m (Some t) None a b = cc (a.words_are, b.words_are)
one_serve words p n q m (Some t) (Some u) a b =
    let ports : t.port ≡ u.port = cc (a.words_are, b.words_are, a.ws_port_is.number.value, b.ws_port_is.number.value) in
    let counts : t.count ≡ u.count = cc (a.words_are, b.words_are, a.ws_count_is.number.value, b.ws_count_is.number.value) in
    let same : t ≡ u = ap₂ (λ (port count : ℕ). let tunnels : Tunnels = record { port = port; count = count } in tunnels) ports counts in
    cc (a.words_are, b.words_are, a.port_is.number.value, b.port_is.number.value, a.count_is.number.value, b.count_is.number.value)

-- lines of the same words that begin alike are one
one_kind : (words : List (String Global)) (one other : Line) → bytes_eq (first_word one) (first_word other) ≡ true
    → IsLine words one → IsLine words other → one ≡ other
one_kind words line.Play line.Play same a b = refl
one_kind words (line.Serve p n x) (line.Serve q m y) same a b = one_serve words p n q m x y a b
one_kind words (line.Gen n s) (line.Gen m t) same a b =
    cc (a.words_are, b.words_are, a.count_is.number.value, b.count_is.number.value, a.seed_is.value, b.seed_is.value)
one_kind words line.Check line.Check same a b = refl
one_kind words (line.Grain n) (line.Grain m) same a b = cc (a.words_are, b.words_are, a.count_is.number.value, b.count_is.number.value)
one_kind words (line.Access n) (line.Access m) same a b = cc (a.words_are, b.words_are, a.grain_is.number.value, b.grain_is.number.value)
one_kind words (line.Preview n) (line.Preview m) same a b = cc (a.words_are, b.words_are, a.grant_is.number.value, b.grant_is.number.value)
one_kind words (line.Collect n g) (line.Collect m h) same a b =
    cc (a.words_are, b.words_are, a.grain_is.number.value, b.grain_is.number.value, a.grant_is.number.value, b.grant_is.number.value)
one_kind words line.Unknown line.Unknown same a b = refl
one_kind words _ _ same a b = absurd (true≢false (sym same))

same_words : (words : List (List ℕ)) (v w : List ℕ) (rest more : List (List ℕ)) → words ≡ v ∷ rest → words ≡ w ∷ more → bytes_eq v w ≡ true
same_words words v w rest more a b = (bytes_eq-Decides v w).1 (cc (a, b))

-- words are one line at most
pub one_line : (words : List (String Global)) → IsOneOfLines words
one_line words one other a b = elim (begun words one a) [
  | inl none ↦ none ∙ sym (none_known words other b (subst (IsLine words) none a))
  | inr first ↦ elim (begun words other b) [
    | inl none ↦ none_known words one a (subst (IsLine words) none b) ∙ sym none
    | inr second ↦ one_kind words one other (same_words (map string_bytes words) (first_word one) (first_word other) first.0 second.0 first.1 second.1) a b
  ]
]
