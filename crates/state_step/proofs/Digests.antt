-- Which digests a state knows once it has a row more, or rows changed that keep theirs: each is one row's again.
use Rattle.std.proofs.Common.{arith, ◌≡◌, ◌⊎◌, ℕ, List, [], ◌∷◌, ◌++◌, Contains, map, Option, Some, None, sym, ◌∙◌, ap, subst, inl, inr}
use Rattle.std.specs.List.{filter_map, cons_option}
use Rattle.std.proofs.lemmas.List.{map-append}
use Rattle.std.proofs.lemmas.List.Elements.{Contains-append_left, Contains-append_right, Contains-append_cases, Contains-push_cases, filter_map-append}
use Rattle.host_base.specs.declared.digest.Digest.{Digest}
use Rattle.share_graph.specs.declared.fault.Kind.{Kind}
use Rattle.share_graph.specs.declared.state.State.{State}
use Rattle.share_graph.specs.Kinds.{KnownDigest, digests_of, HasDigest, IsUnused, AreApart}
use Rattle.share_graph.proofs.Apart.{logins, tokens, references, keys, run_tokens}

-- each of the new list is one of the old list, or the one that was added
abbrev pub Adds : {X : Type 0} → Option X → List X → List X → Type 0
Adds {X} added old new = (x : X) → Contains new x → Contains old x ⊎ (added ≡ Some x)

-- nothing more, by the same list
pub adds_none : {X : Type 0} (added : Option X) (old new : List X) → new ≡ old → Adds added old new
adds_none {X} added old new same x listed = inl (subst (λ (xs : List X). Contains xs x) same listed)

-- what a row more has
pub adds_pushed : {X Y : Type 0} (f : X → Y) (rows : List X) (row : X) → Adds (Some (f row)) (map f rows) (map f (rows ++ row ∷ []))
adds_pushed {X} {Y} f rows row y listed =
    elim (Contains-push_cases (map f rows) (f row) y (subst (λ (ys : List Y). Contains ys y) (map-append f rows (row ∷ [])) listed)) [
      | inl old ↦ inl old
      | inr new ↦ inr (ap Some new)
    ]

adds_option : {Y : Type 0} (ys : List Y) (added : Option Y) → Adds added ys (ys ++ cons_option added [])
adds_option ys None y listed = elim (Contains-append_cases ys [] y listed) [
  | inl old ↦ inl old
  | inr (k, less, is) ↦ absurd (omega arith)
]
adds_option ys (Some v) y listed = elim (Contains-push_cases ys v y listed) [
  | inl old ↦ inl old
  | inr new ↦ inr (ap Some new)
]

-- what a row more has, where it has one
pub adds_filtered : {X Y : Type 0} (f : X → Option Y) (rows : List X) (row : X) → Adds (f row) (filter_map f rows) (filter_map f (rows ++ row ∷ []))
adds_filtered {X} {Y} f rows row y listed = adds_option (filter_map f rows) (f row) y (subst (λ (ys : List Y). Contains ys y) (filter_map-append f rows (row ∷ [])) listed)

adds_append : {X : Type 0} (added : Option X) (a b c d : List X) → Adds added a b → Adds added c d → Adds added (a ++ c) (b ++ d)
adds_append added a b c d first second x listed = elim (Contains-append_cases b d x listed) [
  | inl left ↦ elim (first x left) [
    | inl old ↦ inl (Contains-append_left a c x old)
    | inr new ↦ inr new
  ]
  | inr right ↦ elim (second x right) [
    | inl old ↦ inl (Contains-append_right a c x old)
    | inr new ↦ inr new
  ]
]

-- the digests that one state has more than another, by the kinds
pub record AddsDigest (added : Option KnownDigest) (s u : State) : Type 0 where
  pub accounts : Adds added (logins s) (logins u)
  pub grants : Adds added (tokens s) (tokens u)
  pub saved : Adds added (references s) (references u)
  pub sessions : Adds added (keys s) (keys u)
  pub runs : Adds added (run_tokens s) (run_tokens u)

all_kinds : (added : Option KnownDigest) (s u : State) → AddsDigest added s u → Adds added (digests_of s) (digests_of u)
all_kinds added s u adds =
    adds_append added (logins s ++ tokens s ++ references s ++ keys s) (logins u ++ tokens u ++ references u ++ keys u) (run_tokens s) (run_tokens u)
    (adds_append added (logins s ++ tokens s ++ references s) (logins u ++ tokens u ++ references u) (keys s) (keys u)
    (adds_append added (logins s ++ tokens s) (logins u ++ tokens u) (references s) (references u)
    (adds_append added (logins s) (logins u) (tokens s) (tokens u) adds.accounts adds.grants) adds.saved) adds.sessions) adds.runs

-- each digest is one row's again, where the one that is added was no row's
pub apart_after : (added : Option KnownDigest) (s u : State) → AreApart s → ((e : KnownDigest) → added ≡ Some e → IsUnused s e.digest) → AddsDigest added s u → AreApart u
apart_after added s u apart unused adds = record { one = one }
  where
    one : (d : Digest) (k m : Kind) (i j : ℕ) → HasDigest u d k i → HasDigest u d m j → (k ≡ m) × (i ≡ j)
    one d k m i j a b =
        let x : KnownDigest = record { kind = k; num = i; digest = d } in
        let y : KnownDigest = record { kind = m; num = j; digest = d } in
        elim (all_kinds added s u adds x a) [
          | inl old ↦ elim (all_kinds added s u adds y b) [
            | inl also ↦ apart.one d k m i j old also
            | inr new ↦ absurd (unused y new k i old)
          ]
          | inr new ↦ elim (all_kinds added s u adds y b) [
            | inl old ↦ absurd (unused x new m j old)
            | inr also ↦ (let both : Some x ≡ Some y = sym new ∙ also in let same : x ≡ y = cc in
                (ap (λ (e : KnownDigest). e.kind) same, ap (λ (e : KnownDigest). e.num) same))
          ]
        ]

-- the digest that is added is unused, where it is this one, and where there is none
pub one_unused : (s : State) (new : KnownDigest) → IsUnused s new.digest → (e : KnownDigest) → Some new ≡ Some e → IsUnused s e.digest
one_unused s new unused e is = let same : new ≡ e = cc in subst (λ (k : KnownDigest). IsUnused s k.digest) same unused

pub none_unused : (s : State) (e : KnownDigest) → None ≡ Some e → IsUnused s e.digest
none_unused s e never = cc never
