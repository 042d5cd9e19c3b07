-- The digests of the small book differ in their first bytes.
use Rattle.std.proofs.Common.{◌≡◌, ◌≢◌, ℕ, zero, suc, List, [], ◌∷◌, Contains, map, Some, option_map, Bool, true, slice_get, slice_index, ◌==◌, not, ◌&&◌, refl, sym, ◌∙◌, ap, subst, arith}
use Rattle.std.specs.List.{list_all}
use Rattle.std.proofs.lemmas.Bool.Decides.{nat_tests}
use Rattle.std.proofs.lemmas.Option.{slice_get-map}
use Rattle.sha2.specs.Sha256.{sha256, digest_bytes, hash_after, compress, rounds, schedule, first_words}
use Rattle.host_base.specs.declared.digest.Digest.{Digest}
use Rattle.share_graph.specs.Kinds.{KnownDigest, digests_of, AreApart}
use Rattle.share_graph.proofs.Contained.{place_of, contains_at}
use Rattle.small_book.specs.SmallBook.{small_book}

-- the first byte of a digest
abbrev first_byte : KnownDigest → ℕ
first_byte known = slice_index known.digest.0 0

-- whether no number stands twice
abbrev are_apart : List ℕ → Bool
are_apart [] = true
are_apart (n ∷ ns) = list_all (λ m. not (m == n)) ns && are_apart ns

-- those of the small book
first_bytes : map first_byte (digests_of small_book) ≡ 86 ∷ 108 ∷ 131 ∷ 79 ∷ 138 ∷ 13 ∷ 222 ∷ 202 ∷ 181 ∷ 82 ∷ []
unfolding sha256 digest_bytes hash_after compress rounds schedule first_words
first_bytes = refl

none_is : (n m : ℕ) (ns : List ℕ) (j : ℕ) → list_all (λ m. not (m == n)) ns ≡ true → slice_get ns j ≡ Some m → m ≡ n → ⊥
none_is n m [] j others is same = cc is
none_is n m (k ∷ ns) zero others is same = let here : k ≡ m = cc in grind (arith, nat_tests)
none_is n m (k ∷ ns) (suc j) others is same = none_is n m ns j (grind arith) is same

one_place : (ns : List ℕ) (i j n : ℕ) → are_apart ns ≡ true → slice_get ns i ≡ Some n → slice_get ns j ≡ Some n → i ≡ j
one_place [] i j n apart is again = cc is
one_place (m ∷ ns) zero zero n apart is again = refl
one_place (m ∷ ns) zero (suc j) n apart is again = absurd (none_is m n ns j (grind arith) again (cc))
one_place (m ∷ ns) (suc i) zero n apart is again = absurd (none_is m n ns i (grind arith) is (cc))
one_place (m ∷ ns) (suc i) (suc j) n apart is again = ap suc (one_place ns i j n (grind arith) is again)

known_byte : (rows : List KnownDigest) (k : ℕ) (known : KnownDigest) → slice_get rows k ≡ Some known → slice_get (map first_byte rows) k ≡ Some (first_byte known)
known_byte rows k known is = slice_get-map first_byte rows k ∙ ap (λ o. option_map first_byte o) is

same_known : (a b : KnownDigest) → Some a ≡ Some b → (a.kind ≡ b.kind) × (a.num ≡ b.num)
same_known a b e = let same : a ≡ b = cc in (ap (λ known. known.kind) same, ap (λ known. known.num) same)

-- each digest is one row's
pub apart : AreApart small_book
apart = record {
  one = λ d k m i j is again.
      let rows = digests_of small_book in
      let (p, first) = place_of rows (record { kind = k; num = i; digest = d }) is in
      let (q, second) = place_of rows (record { kind = m; num = j; digest = d }) again in
      let byte_at : slice_get (map first_byte rows) p ≡ Some (slice_index d.0 0) = known_byte rows p _ first in
      let same : p ≡ q = one_place (map first_byte rows) p q (slice_index d.0 0) (ap are_apart first_bytes) byte_at (known_byte rows q _ second) in
      same_known (record { kind = k; num = i; digest = d }) (record { kind = m; num = j; digest = d }) (sym first ∙ ap (slice_get rows) same ∙ second);
}

-- two rows of different numbers have different digests
pub differ : (i j : ℕ) (known other : KnownDigest) → slice_get (digests_of small_book) i ≡ Some known → slice_get (digests_of small_book) j ≡ Some other → known.num ≢ other.num → known.digest ≢ other.digest
differ i j known other is again unlike same =
    let rows = digests_of small_book in
    let there = contains_at rows j other again in
    let moved = subst (λ (d : Digest). Contains rows (record { kind = other.kind; num = other.num; digest = d })) (sym same) there in
    unlike (apart.one known.digest known.kind other.kind known.num other.num (contains_at rows i known is) moved).1
