-- What a stream begins with, when more bytes follow.
use Rattle.std.proofs.Common.{◌≡◌, ℕ, zero, suc, ◌+◌, ◌<◌, ◌≤◌, ◌++◌, Bool, true, false, nat_le, List, [], ◌∷◌, Option, Some, None, Result, Ok, Err, length, take, drop, if◌then◌else◌, refl, sym, ◌∙◌, ap, subst, arith, length-append}
use Rattle.std.proofs.lemmas.List.{take-append-le, drop-append-le, length-take, length-drop}
use Rattle.std.proofs.lemmas.Bool.Decides.{nat_tests}
use Rattle.httparse.specs.Grammar.{RequestHead}
use Rattle.httparse.proofs.GrammarLemmas.{request_unique}
use Rattle.host_base.specs.declared.request.Request.{Request}
use Rattle.front_http.specs.declared.refusal.Refusal.{Refusal}
use Rattle.front_http.specs.declared.refusal.Refusal.TheVariants.{LongHead}
use Rattle.front_http.specs.Heads.{body_length, fields_of, request_of}
use Rattle.front_http.specs.Stream.{head_length, Front, Nothing, Part, Refused, Whole, headless, bodied, headed, IsHead, IsFrontBy, IsFront}
use Rattle.front_http.proofs.HeadEnds.{EndsAt, ends_at}

take-both : (n : ℕ) (xs ys : List ℕ) → (zs : List ℕ) × (take n (xs ++ ys) ≡ take n xs ++ zs)
take-both zero xs ys = ([], refl)
take-both (suc n) [] ys = (take (suc n) ys, refl)
take-both (suc n) (x ∷ xs) ys = let rest = take-both n xs ys in (rest.0, ap (λ (zs : List ℕ). x ∷ zs) rest.1)

-- a head that is there stays there, whatever follows
pub record HeadStays (held left : List ℕ) (n : ℕ) : Type 0 where
  pub four : 4 ≤ n
  pub short : n ≤ 16384
  pub within : n ≤ length held
  pub stays : head_length (take 16384 (held ++ left)) ≡ Some n
  pub run : take n (held ++ left) ≡ take n held
  pub rest : drop n (held ++ left) ≡ drop n held ++ left

pub head_stays : (held left : List ℕ) (n : ℕ) → head_length (take 16384 held) ≡ Some n → HeadStays held left n
head_stays held left n is =
    let both = take-both 16384 held left in
    let ends : EndsAt (take 16384 held) both.0 n = ends_at (take 16384 held) both.0 n is in
    let taken = length-take 16384 held in
    let short : n ≤ 16384 = omega arith in
    let within : n ≤ length held = omega arith in
    record {
      four = ends.four;
      short = short;
      within = within;
      stays = ap head_length both.1 ∙ ends.stays;
      run = take-append-le n held left within;
      rest = drop-append-le n held left within;
    }

-- a front that more bytes don't change
abbrev pub IsSettled : Front → Type 0
IsSettled Nothing = ⊥
IsSettled Part = ⊥
IsSettled (Refused refusal) = Unit {0}
IsSettled (Whole request n) = Unit {0}

headless-append : (held left : List ℕ) → IsSettled (headless held) → (headless (held ++ left) ≡ headless held) × (16384 < length held)
headless-append [] left settled = absurd settled
headless-append (b ∷ bs) left settled = by_test (nat_le (length (b ∷ bs)) 16384) refl settled
  where
    by_test : (t : Bool) → nat_le (length (b ∷ bs)) 16384 ≡ t → IsSettled (if t then Part else Refused LongHead) → (headless (b ∷ (bs ++ left)) ≡ headless (b ∷ bs)) × (16384 < length (b ∷ bs))
    by_test true is settled = absurd settled
    by_test false is settled =
        let long : 16384 < length (b ∷ bs) = grind (arith, nat_tests, is) in
        let longer : nat_le (length (b ∷ (bs ++ left))) 16384 ≡ false = grind (arith, nat_tests, length-append bs left) in
        (rw (is, longer) refl, long)

bodied-append : (head : RequestHead) (n : ℕ) (rest left : List ℕ) (r : Result ℕ Refusal) → IsSettled (bodied head n rest r) → bodied head n (rest ++ left) r ≡ bodied head n rest r
bodied-append head n rest left (Err refusal) settled = refl
bodied-append head n rest left (Ok m) settled = by_test (nat_le m (length rest)) refl settled
  where
    by_test : (t : Bool) → nat_le m (length rest) ≡ t → IsSettled (if t then Whole (request_of head (take m rest)) (n + m) else Part) → bodied head n (rest ++ left) (Ok m) ≡ bodied head n rest (Ok m)
    by_test false is settled = absurd settled
    by_test true is settled =
        let fits : m ≤ length rest = grind (arith, nat_tests, is) in
        let longer : nat_le m (length (rest ++ left)) ≡ true = grind (arith, nat_tests, length-append rest left) in
        rw (is, longer, take-append-le m rest left fits) refl

headed-append : (head : Option RequestHead) (n : ℕ) (rest left : List ℕ) → IsSettled (headed head n rest) → headed head n (rest ++ left) ≡ headed head n rest
headed-append None n rest left settled = refl
headed-append (Some head) n rest left settled = bodied-append head n rest left (body_length (fields_of head)) settled

front_by-append : (o : Option ℕ) (held left : List ℕ) (front : Front) → head_length (take 16384 held) ≡ o → IsFrontBy o held front → IsSettled front → IsFront (held ++ left) front
front_by-append None held left front is by settled =
    let same = headless-append held left (subst IsSettled by settled) in
    let none : head_length (take 16384 (held ++ left)) ≡ None = ap head_length (take-append-le 16384 held left (omega (arith, same.1))) ∙ is in
    rw none (by ∙ sym same.0)
front_by-append (Some n) held left front is by settled =
    let stays : HeadStays held left n = head_stays held left n is in
    let same = headed-append by.0 n (drop n held) left (subst IsSettled by.2 settled) in
    rw (stays.stays, stays.run, stays.rest) (by.0, by.1, by.2 ∙ sym same)

-- what is refused or whole stays so, whatever follows
pub front-append : (held left : List ℕ) (front : Front) → IsSettled front → IsFront held front → IsFront (held ++ left) front
front-append held left front settled is = front_by-append (head_length (take 16384 held)) held left front refl is settled

head_one : (bytes : List ℕ) (head other : Option RequestHead) → IsHead bytes head → IsHead bytes other → head ≡ other
head_one bytes None None is also = refl
head_one bytes None (Some other) is also = absurd (is other also)
head_one bytes (Some head) None is also = absurd (also head is)
head_one bytes (Some head) (Some other) is also = ap Some (request_unique bytes head other [] [] is also).0

front_by_one : (o : Option ℕ) (bytes : List ℕ) (front other : Front) → IsFrontBy o bytes front → IsFrontBy o bytes other → front ≡ other
front_by_one None bytes front other is also = is ∙ sym also
front_by_one (Some n) bytes front other is also = is.2 ∙ ap (λ head. headed head n (drop n bytes)) (head_one (take n bytes) is.0 also.0 is.1 also.1) ∙ sym also.2

-- a stream begins with one thing alone
pub front_one : (bytes : List ℕ) (front other : Front) → IsFront bytes front → IsFront bytes other → front ≡ other
front_one bytes front other is also = front_by_one (head_length (take 16384 bytes)) bytes front other is also

-- the number of bytes that a front says
abbrev pub front_bytes : Front → ℕ
front_bytes Nothing = 1
front_bytes Part = 1
front_bytes (Refused refusal) = 1
front_bytes (Whole request n) = n

abbrev IsWithin : Front → List ℕ → Type 0
IsWithin Nothing bytes = Unit {0}
IsWithin Part bytes = Unit {0}
IsWithin (Refused refusal) bytes = Unit {0}
IsWithin (Whole request n) bytes = (0 < n) × (n ≤ length bytes)

bodied_within : (head : RequestHead) (n : ℕ) (bytes : List ℕ) (r : Result ℕ Refusal) → 0 < n → n ≤ length bytes → IsWithin (bodied head n (drop n bytes) r) bytes
bodied_within head n bytes (Err refusal) some fits = tt
bodied_within head n bytes (Ok m) some fits = by_test (nat_le m (length (drop n bytes))) refl
  where
    by_test : (t : Bool) → nat_le m (length (drop n bytes)) ≡ t → IsWithin (if t then Whole (request_of head (take m (drop n bytes))) (n + m) else Part) bytes
    by_test false is = tt
    by_test true is =
        let room : m ≤ length (drop n bytes) = grind (arith, nat_tests, is) in
        (omega arith, omega (arith, length-drop n bytes))

headed_within : (head : Option RequestHead) (n : ℕ) (bytes : List ℕ) → 0 < n → n ≤ length bytes → IsWithin (headed head n (drop n bytes)) bytes
headed_within None n bytes some fits = tt
headed_within (Some head) n bytes some fits = bodied_within head n bytes (body_length (fields_of head)) some fits

headless_within : (bytes : List ℕ) → IsWithin (headless bytes) bytes
headless_within [] = tt
headless_within (b ∷ bs) = by_test (nat_le (length (b ∷ bs)) 16384)
  where
    by_test : (t : Bool) → IsWithin (if t then Part else Refused LongHead) (b ∷ bs)
    by_test true = tt
    by_test false = tt

front_by_within : (o : Option ℕ) (bytes : List ℕ) (front : Front) → head_length (take 16384 bytes) ≡ o → IsFrontBy o bytes front → IsWithin front bytes
front_by_within None bytes front is by = subst (λ f. IsWithin f bytes) (sym by) (headless_within bytes)
front_by_within (Some n) bytes front is by =
    let stays : HeadStays bytes [] n = head_stays bytes [] n is in
    subst (λ f. IsWithin f bytes) (sym by.2) (headed_within by.0 n bytes (omega arith) stays.within)

-- a whole request has some bytes, and no more than there are
pub whole_within : (bytes : List ℕ) (request : Request) (n : ℕ) → IsFront bytes (Whole request n) → (0 < n) × (n ≤ length bytes)
whole_within bytes request n is = front_by_within (head_length (take 16384 bytes)) bytes (Whole request n) refl is
