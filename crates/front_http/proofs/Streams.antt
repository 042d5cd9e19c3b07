-- The laws of the meaning of a stream.
use Rattle.std.proofs.Common.{◌≡◌, ℕ, zero, suc, ◌+◌, ◌<◌, Bool, true, false, List, Option, Some, None, length, take, drop, refl, sym, ◌∙◌, ap, subst, arith}
use Rattle.std.proofs.lemmas.List.{length-drop}
use Rattle.host_base.specs.declared.request.Request.{Request}
use Rattle.front_http.specs.Stream.{head_length, Front, Nothing, Part, Refused, Whole, headless, headed, IsFrontBy, IsFront, Done, Last, Cut, Bad, Requests, none_but, first_of, IsStream, done, cut, bad, last, more, IsRest, HasOneMeaning, HasMeaning}
use Rattle.front_http.proofs.Fronts.{front_one, whole_within}

-- what a stream is, by what it begins with
abbrev pub IsStreamBy : Front → ℕ → List ℕ → Requests → Type 0
IsStreamBy Nothing at bytes all = all ≡ none_but Done
IsStreamBy Part at bytes all = all ≡ none_but (Cut (at + length bytes))
IsStreamBy (Refused refusal) at bytes all = all ≡ none_but (Bad refusal at)
IsStreamBy (Whole request n) at bytes all = (others : Requests) × IsRest request.last (at + n) (drop n bytes) others × (all ≡ first_of request others)

pub stream_by : (front : Front) (at : ℕ) (bytes : List ℕ) (all : Requests) → IsFront bytes front → IsStream at bytes all → IsStreamBy front at bytes all
stream_by front _ _ _ is (done at bytes begins) = subst (λ f. IsStreamBy f at bytes (none_but Done)) (front_one bytes Nothing front begins is) refl
stream_by front _ _ _ is (cut at bytes begins) = subst (λ f. IsStreamBy f at bytes (none_but (Cut (at + length bytes)))) (front_one bytes Part front begins is) refl
stream_by front _ _ _ is (bad at bytes refusal begins) = subst (λ f. IsStreamBy f at bytes (none_but (Bad refusal at))) (front_one bytes (Refused refusal) front begins is) refl
stream_by front _ _ _ is (last at bytes request n begins closes) =
    let rest : IsRest request.last (at + n) (drop n bytes) (none_but Last) = rw closes refl in
    subst (λ f. IsStreamBy f at bytes (first_of request (none_but Last))) (front_one bytes (Whole request n) front begins is) (none_but Last, rest, refl)
stream_by front _ _ _ is (more at bytes request n others begins open_still stream) =
    let rest : IsRest request.last (at + n) (drop n bytes) others = rw open_still stream in
    subst (λ f. IsStreamBy f at bytes (first_of request others)) (front_one bytes (Whole request n) front begins is) (others, rest, refl)

whole_stream : (at : ℕ) (bytes : List ℕ) (request : Request) (n : ℕ) (others : Requests) (closing : Bool) → request.last ≡ closing → IsFront bytes (Whole request n) → IsRest closing (at + n) (drop n bytes) others → IsStream at bytes (first_of request others)
whole_stream at bytes request n others true closes is rest = subst (λ m. IsStream at bytes (first_of request m)) (sym rest) (last at bytes request n is closes)
whole_stream at bytes request n others false closes is rest = more at bytes request n others is closes rest

pub stream_of : (front : Front) (at : ℕ) (bytes : List ℕ) (all : Requests) → IsFront bytes front → IsStreamBy front at bytes all → IsStream at bytes all
stream_of Nothing at bytes all is by = subst (IsStream at bytes) (sym by) (done at bytes is)
stream_of Part at bytes all is by = subst (IsStream at bytes) (sym by) (cut at bytes is)
stream_of (Refused refusal) at bytes all is by = subst (IsStream at bytes) (sym by) (bad at bytes refusal is)
stream_of (Whole request n) at bytes all is by = subst (IsStream at bytes) (sym by.2) (whole_stream at bytes request n by.0 request.last refl is by.1)

-- a stream has at most one meaning
pub stream_one : HasOneMeaning
stream_one _ _ _ other (done at bytes begins) also = sym (stream_by Nothing at bytes other begins also)
stream_one _ _ _ other (cut at bytes begins) also = sym (stream_by Part at bytes other begins also)
stream_one _ _ _ other (bad at bytes refusal begins) also = sym (stream_by (Refused refusal) at bytes other begins also)
stream_one _ _ _ other (last at bytes request n begins closes) also =
    let by = stream_by (Whole request n) at bytes other begins also in
    let rest : IsRest true (at + n) (drop n bytes) by.0 = subst (λ t. IsRest t (at + n) (drop n bytes) by.0) closes by.1 in
    ap (first_of request) (sym rest) ∙ sym by.2
stream_one _ _ _ other (more at bytes request n others begins open_still stream) also =
    let by = stream_by (Whole request n) at bytes other begins also in
    let rest : IsRest false (at + n) (drop n bytes) by.0 = subst (λ t. IsRest t (at + n) (drop n bytes) by.0) open_still by.1 in
    ap (first_of request) (stream_one (at + n) (drop n bytes) others by.0 stream rest) ∙ sym by.2

front_by_some : (o : Option ℕ) (bytes : List ℕ) → ((front : Front) → IsFrontBy o bytes front → ⊥) → ⊥
front_by_some None bytes none = none (headless bytes) refl
front_by_some (Some n) bytes none =
    none (headed None n (drop n bytes)) (None, (λ head reads. none (headed (Some head) n (drop n bytes)) (Some head, reads, refl)), refl)

by_front : (at : ℕ) (bytes : List ℕ) (front : Front) → IsFront bytes front → ((all : Requests) → IsStream at bytes all → ⊥)
    → ((request : Request) (n : ℕ) → front ≡ Whole request n → ((others : Requests) → IsStream (at + n) (drop n bytes) others → ⊥) → ⊥) → ⊥
by_front at bytes Nothing is none rest = none (none_but Done) (done at bytes is)
by_front at bytes Part is none rest = none (none_but (Cut (at + length bytes))) (cut at bytes is)
by_front at bytes (Refused refusal) is none rest = none (none_but (Bad refusal at)) (bad at bytes refusal is)
by_front at bytes (Whole request n) is none rest = by_last request.last refl
  where
    by_last : (closing : Bool) → request.last ≡ closing → ⊥
    by_last true closes = none (first_of request (none_but Last)) (last at bytes request n is closes)
    by_last false closes = rest request n refl (λ others stream. none (first_of request others) (more at bytes request n others is closes stream))

meaning_by : (fuel at : ℕ) (bytes : List ℕ) → length bytes < fuel → ((all : Requests) → IsStream at bytes all → ⊥) → ⊥
meaning_by zero at bytes short none = absurd (omega arith)
meaning_by (suc fuel) at bytes short none =
    front_by_some (head_length (take 16384 bytes)) bytes (λ front is. by_front at bytes front is none (λ request n whole rest.
    let within = whole_within bytes request n (subst (IsFront bytes) whole is) in
    meaning_by fuel (at + n) (drop n bytes) (omega (arith, length-drop n bytes)) rest))

-- and by classical logic it has one
pub stream_some : HasMeaning
stream_some at bytes none = meaning_by (suc (length bytes)) at bytes (omega arith) none
