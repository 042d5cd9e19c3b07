-- The command takes the words of each line.
use Rattle.std.proofs.Common.{◌≡◌, ◌≢◌, ◌∙◌, ℕ, Bool, true, false, List, [], ◌∷◌, None, Result, Ok, Err, inl, inr, map, codes, String, string_bytes, sym, ap, fold, subst, refl, eqb, length, lit<, ◌<◌}
use Rattle.std.specs.List.{All, slice_index_or}
use Rattle.std.specs.Str.{bytes_eq}
use Rattle.std.specs.declared.alloc.Global.{Global}
use Rattle.std.proofs.lemmas.Bool.{eqb-true}
use Rattle.clap.specs.Faults.{defaults_fault, check_fault, fault_of, is_simple_and_free, level_fault, settle_fault, step_fault, turn_fault, walk_fault, word_fault}
use Rattle.clap.specs.Kinds.{FailsBy, IsAmong, Kinds, or_else}
use Rattle.clap.specs.Values.{kind_of}
use Rattle.clap.specs.declared.error.Error.{Error}
use Rattle.clap.specs.declared.error.kind.ErrorKind.{ErrorKind}
use Rattle.clap.specs.declared.error.kind.ErrorKind.TheVariants as kind
use Rattle.clap.specs.Lexer.{strip_byte}
use Rattle.clap.specs.Simple.{App, Shape, built_leaf, inherited, marked_built, with_leaf_noted}
use Rattle.clap.specs.Walk.{Held, Rule, Text, Walk, arg_by_index, finished, idle, nothing_held, settled, to_positional, value, walk, walk_from, walked, word_met}
use Rattle.clap.proofs.OnLiterals.{clap_on_literals}
use Rattle.command_line.specs.Program.{access, check, collect, gen, grain, preview, program, serve}
use Rattle.command_line.specs.declared.line.Tunnels.{Tunnels}
use Rattle.command_line.specs.Words.{IsNoLine, IsPath, IsServeBoth}

-- how a command fails that is the program's
pub fails_by : {T : Type 0} (app : App) (texts : List Text) (result : Result T Error) → app ≡ program → (is_simple_and_free app ≡ true → FailsBy (fault_of app texts) result) → FailsBy (fault_of program texts) result
fails_by app texts result is fails = subst (λ (a : App). FailsBy (fault_of a texts) result) is (fails (ap is_simple_and_free is))

-- an `Ok` comes only where no kind does, and another `Err` than for want of memory only where one does
pub none_fails : {T : Type 0} (kinds : Kinds) (result : Result T Error) (taken : T) → result ≡ Ok taken → FailsBy kinds result → kinds ≡ []
none_fails kinds result taken is fails = subst (FailsBy kinds) is fails

some_kind : (k : ErrorKind) (kinds : Kinds) → IsAmong k kinds → kinds ≢ []
some_kind k [] among none = among
some_kind k (x ∷ xs) among none = cc

pub some_fails : {T : Type 0} (kinds : Kinds) (result : Result T Error) (e : Error) → result ≡ Err e → (kind_of e ≡ kind.OutOfMemory → ⊥) → FailsBy kinds result → kinds ≢ []
some_fails kinds result e is not fails = elim (subst (FailsBy kinds) is fails) [ inl memory ↦ absurd (not memory) | inr among ↦ some_kind (kind_of e) kinds among ]

-- the word is no option
pub record IsPlain (word : Text) : Type 0 where
  pub first : strip_byte 45 word ≡ None
  pub whole : bytes_eq word (45 ∷ 45 ∷ []) ≡ false

no_test : (b : Bool) → (b ≡ true → ⊥) → b ≡ false
no_test true h = absurd (h refl)
no_test false h = refl

pub plain : (word : Text) → IsPath word → IsPlain word
plain [] path = record { first = refl; whole = refl }
plain (x ∷ xs) path =
    let other : eqb x 45 ≡ false = no_test (eqb x 45) (λ e. let same : x ≡ 45 = eqb-true x 45 e in path cc) in
    record { first = rw other refl; whole = rw other refl }

-- the walk between two words
abbrev at_place : Held → ℕ → Walk
at_place held place = record { held = held; waiting = idle; position = place; is_trailing = false; stopped = None }

word_plain : (rules : List Rule) (place : ℕ) (word : Text) (held : Held) → IsPlain word → word_met rules [] false idle place word held ≡ (held, value)
word_plain rules place word held is = rw (is.whole, is.first, is.first) refl

word_walked : (rules : List Rule) (place : ℕ) (word : Text) (held : Held) → IsPlain word
    → walked rules [] (at_place held place) word ≡ to_positional rules (arg_by_index rules place) word (at_place held place) held
unfolding walked
word_walked rules place word held is = rw (word_plain rules place word held is) refl

-- the walk over a word and those behind it
walk_past : (rules : List Rule) (place : ℕ) (word : Text) (held : Held) (words : List Text) → IsPlain word
    → fold (walked rules []) (at_place held place) (word ∷ words)
    ≡ fold (walked rules []) (to_positional rules (arg_by_index rules place) word (at_place held place) held) words
walk_past rules place word held words is = ap (λ (w : Walk). fold (walked rules []) w words) (word_walked rules place word held is)

word_turn : (shape : Shape) (place : ℕ) (word : Text) (held : Held) → IsPlain word → turn_fault shape [] (at_place held place) word ≡ step_fault shape place held value
word_turn shape place word held is =
    let none : word_fault shape [] false idle word held ≡ [] = rw (is.whole, is.first, is.first) refl in
    (λ i. or_else (none i) (step_fault shape place (word_plain shape.rules place word held is i).0 (word_plain shape.rules place word held is i).1))

-- a word on the way: its own fault, and then those of the words behind it
walk_on : (shape : Shape) (place : ℕ) (word : Text) (held : Held) (words : List Text) → IsPlain word
    → walk_fault shape [] (at_place held place) (word ∷ words)
    ≡ or_else (step_fault shape place held value) (walk_fault shape [] (to_positional shape.rules (arg_by_index shape.rules place) word (at_place held place) held) words)
unfolding walk_fault
walk_on shape place word held words is =
    (λ i. or_else (word_turn shape place word held is i) (walk_fault shape [] (word_walked shape.rules place word held is i) words))

-- what is left to fail behind a walk
abbrev rest_fault : Shape → Walk → Kinds
rest_fault shape end = or_else (settle_fault shape.rules shape.args_override_self end.held)
    (or_else (defaults_fault (settled shape.rules end.held).rows shape.rules) (check_fault shape (finished shape.rules end.held) false))

-- a subcommand as the command builds it
abbrev leaf : App → Shape
leaf line = built_leaf (inherited (with_leaf_noted (marked_built program.top)) line.top)

-- what is held behind the first words of a line
abbrev behind : Shape → ℕ → Text → Held → Held
behind shape place word held = (to_positional shape.rules (arg_by_index shape.rules place) word (at_place held place) held).held

module _ (u : Text) (first : IsPlain u) where
  check_walk : walk (leaf check).rules [] nothing_held (u ∷ []) ≡ at_place (behind (leaf check) 1 u nothing_held) 2
  unfolding clap_on_literals
  check_walk = word_walked (leaf check).rules 1 u nothing_held first

  check_faults : walk_fault (leaf check) [] (walk_from nothing_held) (u ∷ []) ≡ []
  unfolding clap_on_literals
  check_faults = walk_on (leaf check) 1 u nothing_held [] first

  check_leaf : level_fault (leaf check) [] nothing_held (u ∷ []) false [] ≡ []
  unfolding clap_on_literals
  check_leaf = (λ i. or_else (check_faults i) (rest_fault (leaf check) (check_walk i)))

  pub takes_check : fault_of program (codes "check" ∷ u ∷ []) ≡ []
  unfolding clap_on_literals
  takes_check = (λ i. or_else (check_leaf i) [])

module _ (u v : Text) (first : IsPlain u) (second : IsPlain v) where
  abbrev gen_one : Held
  gen_one = behind (leaf gen) 1 u nothing_held

  gen_walk : walk (leaf gen).rules [] nothing_held (u ∷ v ∷ []) ≡ at_place (behind (leaf gen) 2 v gen_one) 3
  unfolding clap_on_literals
  gen_walk = walk_past (leaf gen).rules 1 u nothing_held (v ∷ []) first ∙ word_walked (leaf gen).rules 2 v gen_one second

  gen_faults : walk_fault (leaf gen) [] (walk_from nothing_held) (u ∷ v ∷ []) ≡ []
  unfolding clap_on_literals
  gen_faults = walk_on (leaf gen) 1 u nothing_held (v ∷ []) first ∙ walk_on (leaf gen) 2 v gen_one [] second

  gen_leaf : level_fault (leaf gen) [] nothing_held (u ∷ v ∷ []) false [] ≡ []
  unfolding clap_on_literals
  gen_leaf = (λ i. or_else (gen_faults i) (rest_fault (leaf gen) (gen_walk i)))

  pub takes_gen : fault_of program (codes "gen" ∷ u ∷ v ∷ []) ≡ []
  unfolding clap_on_literals
  takes_gen = (λ i. or_else (gen_leaf i) [])

module _ (u v : Text) (first : IsPlain u) (second : IsPlain v) where
  abbrev grain_one : Held
  grain_one = behind (leaf grain) 1 u nothing_held

  grain_walk : walk (leaf grain).rules [] nothing_held (u ∷ v ∷ []) ≡ at_place (behind (leaf grain) 2 v grain_one) 3
  unfolding clap_on_literals
  grain_walk = walk_past (leaf grain).rules 1 u nothing_held (v ∷ []) first ∙ word_walked (leaf grain).rules 2 v grain_one second

  grain_faults : walk_fault (leaf grain) [] (walk_from nothing_held) (u ∷ v ∷ []) ≡ []
  unfolding clap_on_literals
  grain_faults = walk_on (leaf grain) 1 u nothing_held (v ∷ []) first ∙ walk_on (leaf grain) 2 v grain_one [] second

  grain_leaf : level_fault (leaf grain) [] nothing_held (u ∷ v ∷ []) false [] ≡ []
  unfolding clap_on_literals
  grain_leaf = (λ i. or_else (grain_faults i) (rest_fault (leaf grain) (grain_walk i)))

  pub takes_grain : fault_of program (codes "grain" ∷ u ∷ v ∷ []) ≡ []
  unfolding clap_on_literals
  takes_grain = (λ i. or_else (grain_leaf i) [])

module _ (u v : Text) (first : IsPlain u) (second : IsPlain v) where
  abbrev access_one : Held
  access_one = behind (leaf access) 1 u nothing_held

  access_walk : walk (leaf access).rules [] nothing_held (u ∷ v ∷ []) ≡ at_place (behind (leaf access) 2 v access_one) 3
  unfolding clap_on_literals
  access_walk = walk_past (leaf access).rules 1 u nothing_held (v ∷ []) first ∙ word_walked (leaf access).rules 2 v access_one second

  access_faults : walk_fault (leaf access) [] (walk_from nothing_held) (u ∷ v ∷ []) ≡ []
  unfolding clap_on_literals
  access_faults = walk_on (leaf access) 1 u nothing_held (v ∷ []) first ∙ walk_on (leaf access) 2 v access_one [] second

  access_leaf : level_fault (leaf access) [] nothing_held (u ∷ v ∷ []) false [] ≡ []
  unfolding clap_on_literals
  access_leaf = (λ i. or_else (access_faults i) (rest_fault (leaf access) (access_walk i)))

  pub takes_access : fault_of program (codes "access" ∷ u ∷ v ∷ []) ≡ []
  unfolding clap_on_literals
  takes_access = (λ i. or_else (access_leaf i) [])

module _ (u v : Text) (first : IsPlain u) (second : IsPlain v) where
  abbrev preview_one : Held
  preview_one = behind (leaf preview) 1 u nothing_held

  preview_walk : walk (leaf preview).rules [] nothing_held (u ∷ v ∷ []) ≡ at_place (behind (leaf preview) 2 v preview_one) 3
  unfolding clap_on_literals
  preview_walk = walk_past (leaf preview).rules 1 u nothing_held (v ∷ []) first ∙ word_walked (leaf preview).rules 2 v preview_one second

  preview_faults : walk_fault (leaf preview) [] (walk_from nothing_held) (u ∷ v ∷ []) ≡ []
  unfolding clap_on_literals
  preview_faults = walk_on (leaf preview) 1 u nothing_held (v ∷ []) first ∙ walk_on (leaf preview) 2 v preview_one [] second

  preview_leaf : level_fault (leaf preview) [] nothing_held (u ∷ v ∷ []) false [] ≡ []
  unfolding clap_on_literals
  preview_leaf = (λ i. or_else (preview_faults i) (rest_fault (leaf preview) (preview_walk i)))

  pub takes_preview : fault_of program (codes "preview" ∷ u ∷ v ∷ []) ≡ []
  unfolding clap_on_literals
  takes_preview = (λ i. or_else (preview_leaf i) [])

module _ (u v w : Text) (first : IsPlain u) (second : IsPlain v) (third : IsPlain w) where
  abbrev serve_one : Held
  serve_one = behind (leaf serve) 1 u nothing_held

  abbrev serve_two : Held
  serve_two = behind (leaf serve) 2 v serve_one

  abbrev serve_three : Held
  serve_three = behind (leaf serve) 3 w serve_two

  -- the walk over the places that have to be filled, and what words there may be behind them
  serve_walk : (rest : List Text) → walk (leaf serve).rules [] nothing_held (u ∷ v ∷ w ∷ rest) ≡ fold (walked (leaf serve).rules []) (at_place serve_three 4) rest
  unfolding clap_on_literals
  serve_walk rest = walk_past (leaf serve).rules 1 u nothing_held (v ∷ w ∷ rest) first
      ∙ walk_past (leaf serve).rules 2 v serve_one (w ∷ rest) second ∙ walk_past (leaf serve).rules 3 w serve_two rest third

  serve_faults : (rest : List Text) → walk_fault (leaf serve) [] (walk_from nothing_held) (u ∷ v ∷ w ∷ rest) ≡ walk_fault (leaf serve) [] (at_place serve_three 4) rest
  unfolding clap_on_literals
  serve_faults rest = walk_on (leaf serve) 1 u nothing_held (v ∷ w ∷ rest) first ∙ walk_on (leaf serve) 2 v serve_one (w ∷ rest) second
      ∙ walk_on (leaf serve) 3 w serve_two rest third

  serve_leaf : level_fault (leaf serve) [] nothing_held (u ∷ v ∷ w ∷ []) false [] ≡ []
  unfolding clap_on_literals
  serve_leaf = (λ i. or_else (serve_faults [] i) (rest_fault (leaf serve) (serve_walk [] i)))

  pub takes_serve : fault_of program (codes "serve" ∷ u ∷ v ∷ w ∷ []) ≡ []
  unfolding clap_on_literals
  takes_serve = (λ i. or_else (serve_leaf i) [])

  module _ (x y : Text) (fourth : IsPlain x) (fifth : IsPlain y) where
    abbrev serve_four : Held
    serve_four = behind (leaf serve) 4 x serve_three

    both_walk : walk (leaf serve).rules [] nothing_held (u ∷ v ∷ w ∷ x ∷ y ∷ []) ≡ at_place (behind (leaf serve) 5 y serve_four) 6
    unfolding clap_on_literals
    both_walk = serve_walk (x ∷ y ∷ []) ∙ walk_past (leaf serve).rules 4 x serve_three (y ∷ []) fourth ∙ word_walked (leaf serve).rules 5 y serve_four fifth

    both_faults : walk_fault (leaf serve) [] (walk_from nothing_held) (u ∷ v ∷ w ∷ x ∷ y ∷ []) ≡ []
    unfolding clap_on_literals
    both_faults = serve_faults (x ∷ y ∷ []) ∙ walk_on (leaf serve) 4 x serve_three (y ∷ []) fourth ∙ walk_on (leaf serve) 5 y serve_four [] fifth

    both_leaf : level_fault (leaf serve) [] nothing_held (u ∷ v ∷ w ∷ x ∷ y ∷ []) false [] ≡ []
    unfolding clap_on_literals
    both_leaf = (λ i. or_else (both_faults i) (rest_fault (leaf serve) (both_walk i)))

    pub takes_serve_both : fault_of program (codes "serve" ∷ u ∷ v ∷ w ∷ x ∷ y ∷ []) ≡ []
    unfolding clap_on_literals
    takes_serve_both = (λ i. or_else (both_leaf i) [])

module _ (u v w : Text) (first : IsPlain u) (second : IsPlain v) (third : IsPlain w) where
  abbrev collect_one : Held
  collect_one = behind (leaf collect) 1 u nothing_held

  abbrev collect_two : Held
  collect_two = behind (leaf collect) 2 v collect_one

  collect_walk : walk (leaf collect).rules [] nothing_held (u ∷ v ∷ w ∷ []) ≡ at_place (behind (leaf collect) 3 w collect_two) 4
  unfolding clap_on_literals
  collect_walk = walk_past (leaf collect).rules 1 u nothing_held (v ∷ w ∷ []) first
      ∙ walk_past (leaf collect).rules 2 v collect_one (w ∷ []) second ∙ word_walked (leaf collect).rules 3 w collect_two third

  collect_faults : walk_fault (leaf collect) [] (walk_from nothing_held) (u ∷ v ∷ w ∷ []) ≡ []
  unfolding clap_on_literals
  collect_faults = walk_on (leaf collect) 1 u nothing_held (v ∷ w ∷ []) first ∙ walk_on (leaf collect) 2 v collect_one (w ∷ []) second
      ∙ walk_on (leaf collect) 3 w collect_two [] third

  collect_leaf : level_fault (leaf collect) [] nothing_held (u ∷ v ∷ w ∷ []) false [] ≡ []
  unfolding clap_on_literals
  collect_leaf = (λ i. or_else (collect_faults i) (rest_fault (leaf collect) (collect_walk i)))

  pub takes_collect : fault_of program (codes "collect" ∷ u ∷ v ∷ w ∷ []) ≡ []
  unfolding clap_on_literals
  takes_collect = (λ i. or_else (collect_leaf i) [])

pub takes_play : fault_of program (codes "play" ∷ []) ≡ []
unfolding clap_on_literals
takes_play = refl

-- words without an option that the command doesn't take are no line
module _ (words : List (String Global)) (paths : All IsPath (map string_bytes words)) (fault : fault_of program (map string_bytes words) ≢ []) where
  abbrev Taken : List Text → Type 0
  Taken texts = fault_of program texts ≡ []

  word_at : (texts : List Text) (place : ℕ) → map string_bytes words ≡ texts → place < length texts → IsPlain (slice_index_or texts place [])
  word_at texts place are within = plain (slice_index_or texts place []) (subst (All IsPath) are paths place [] within)

  abbrev both_texts : (port count : ℕ) (tunnels : Tunnels) → IsServeBoth words port count tunnels → List Text
  both_texts port count tunnels is = codes "serve" ∷ is.file ∷ is.port_digits ∷ is.count_digits ∷ is.ws_port_digits ∷ is.ws_count_digits ∷ []

  pub no_line_refused : IsNoLine words
  no_line_refused = record {
    play = λ is. fault (subst Taken (sym is) takes_play);
    serve = λ port count is. fault (subst Taken (sym is.words_are) (takes_serve is.file is.port_digits is.count_digits
        (word_at (codes "serve" ∷ is.file ∷ is.port_digits ∷ is.count_digits ∷ []) 1 is.words_are (lit< tt))
        (word_at (codes "serve" ∷ is.file ∷ is.port_digits ∷ is.count_digits ∷ []) 2 is.words_are (lit< tt))
        (word_at (codes "serve" ∷ is.file ∷ is.port_digits ∷ is.count_digits ∷ []) 3 is.words_are (lit< tt))));
    serve_both = λ port count tunnels is. let texts : List Text = both_texts port count tunnels is in
        fault (subst Taken (sym is.words_are) (takes_serve_both is.file is.port_digits is.count_digits
        (word_at texts 1 is.words_are (lit< tt)) (word_at texts 2 is.words_are (lit< tt)) (word_at texts 3 is.words_are (lit< tt))
        is.ws_port_digits is.ws_count_digits
        (word_at texts 4 is.words_are (lit< tt)) (word_at texts 5 is.words_are (lit< tt))));
    gen = λ count seed is. fault (subst Taken (sym is.words_are) (takes_gen is.count_digits is.seed_digits
        (word_at (codes "gen" ∷ is.count_digits ∷ is.seed_digits ∷ []) 1 is.words_are (lit< tt))
        (word_at (codes "gen" ∷ is.count_digits ∷ is.seed_digits ∷ []) 2 is.words_are (lit< tt))));
    check = λ is. fault (subst Taken (sym is.words_are) (takes_check is.file
        (word_at (codes "check" ∷ is.file ∷ []) 1 is.words_are (lit< tt))));
    grain = λ count is. fault (subst Taken (sym is.words_are) (takes_grain is.socket is.count_digits
        (word_at (codes "grain" ∷ is.socket ∷ is.count_digits ∷ []) 1 is.words_are (lit< tt))
        (word_at (codes "grain" ∷ is.socket ∷ is.count_digits ∷ []) 2 is.words_are (lit< tt))));
    access = λ grain is. fault (subst Taken (sym is.words_are) (takes_access is.file is.grain_digits
        (word_at (codes "access" ∷ is.file ∷ is.grain_digits ∷ []) 1 is.words_are (lit< tt))
        (word_at (codes "access" ∷ is.file ∷ is.grain_digits ∷ []) 2 is.words_are (lit< tt))));
    preview = λ grant is. fault (subst Taken (sym is.words_are) (takes_preview is.file is.grant_digits
        (word_at (codes "preview" ∷ is.file ∷ is.grant_digits ∷ []) 1 is.words_are (lit< tt))
        (word_at (codes "preview" ∷ is.file ∷ is.grant_digits ∷ []) 2 is.words_are (lit< tt))));
    collect = λ grain grant is. fault (subst Taken (sym is.words_are) (takes_collect is.file is.grain_digits is.grant_digits
        (word_at (codes "collect" ∷ is.file ∷ is.grain_digits ∷ is.grant_digits ∷ []) 1 is.words_are (lit< tt))
        (word_at (codes "collect" ∷ is.file ∷ is.grain_digits ∷ is.grant_digits ∷ []) 2 is.words_are (lit< tt))
        (word_at (codes "collect" ∷ is.file ∷ is.grain_digits ∷ is.grant_digits ∷ []) 3 is.words_are (lit< tt))));
  }
