-- What is known of a request that isn't whole yet, and what it says of the front of the bytes.
use Rattle.std.proofs.Common.{◌≡◌, ℕ, zero, suc, ◌+◌, ◌-◌, ◌<◌, ◌≤◌, ◌++◌, ◌&&◌, ◌==◌, not, option_map, Bool, true, false, nat_le, nat_lt, nat_eq, List, [], ◌∷◌, Option, Some, None, Ok, Err, length, take, drop, if◌then◌else◌, codes, refl, sym, ◌∙◌, ap, subst, arith}
use Rattle.std.specs.List.{starts_with}
use Rattle.std.specs.Cmp.Lexicographic.{pointwise}
use Rattle.std.proofs.lemmas.List.{drop-append-le, take-append-drop, length-take-le, length-drop, take_all, drop_all}
use Rattle.std.proofs.lemmas.Bool.{false_from_ne_true}
use Rattle.std.proofs.lemmas.Bool.Decides.{nat_tests}
use Rattle.httparse.specs.Grammar.{RequestHead}
use Rattle.host_base.specs.declared.request.Request.{Request}
use Rattle.host_base.specs.declared.request.Field.{Field}
use Rattle.front_http.specs.declared.refusal.Refusal.{Refusal}
use Rattle.front_http.specs.declared.refusal.Refusal.TheVariants.{BadHead, LongHead, NeedLength, LongBody}
use Rattle.front_http.specs.declared.head.Head.{Head}
use Rattle.front_http.specs.declared.look.Pending.TheVariants.{Search, Known}
use Rattle.front_http.specs.Heads.{values_of, are_lengths, announced, body_length, fields_of, request_of}
use Rattle.front_http.specs.Stream.{head_end, head_length, Front, Part, Refused, Whole, headless, bodied, IsFront}
use Rattle.front_http.specs.Spans.{IsHeadOf, RefusesHead}
use Rattle.front_http.specs.Pending.{HasNoEndBefore, IsSearched, IsKnown, partial, IsPart}
use Rattle.front_http.proofs.HeadEnds.{starts_bound, starts_append}
use Rattle.front_http.proofs.Fronts.{HeadStays, head_stays}

by_tests : (fits : Bool) (coded long : Bool) (m n : ℕ) → (if not fits then Err BadHead else (if coded then Err NeedLength else (if long then Err LongBody else Ok m))) ≡ Ok n → (long ≡ false) × (m ≡ n)
by_tests false coded long m n e = cc
by_tests true true long m n e = cc
by_tests true false true m n e = cc
by_tests true false false m n e = (refl, cc)

-- a body that isn't refused has at most 1,048,576 bytes
pub body_short : (fields : List Field) (n : ℕ) → body_length fields ≡ Ok n → n ≤ 1048576
unfolding body_length
body_short fields n is =
    let lengths = values_of (codes "Content-Length") fields in
    let tests = by_tests (length (values_of (codes "Host") fields) == 1 && are_lengths lengths) (nat_lt 0 (length (values_of (codes "Transfer-Encoding") fields))) (nat_lt 1048576 (announced lengths)) (announced lengths) n is in
    let small : announced lengths ≤ 1048576 = grind (arith, nat_tests, tests.0) in
    omega (arith, tests.1)

partial_some : (bytes : List ℕ) → 0 < length bytes → partial bytes ≡ Part
partial_some [] some = absurd (omega arith)
partial_some (b ∷ bs) some = refl

front_of_known : (bytes : List ℕ) (head : Head) → IsKnown bytes head → (front : Front) → ((h : RequestHead) → head.request ≡ request_of h [] → front ≡ bodied h head.length (drop head.length bytes) (Ok head.body)) → IsFront bytes front
front_of_known bytes head known front is =
    rw known.ends (Some known.is.head, known.is.reads, is known.is.head known.is.request ∙ ap (bodied known.is.head head.length (drop head.length bytes)) (sym known.is.body))

-- the body that follows a head isn't whole
pub known_part : (bytes : List ℕ) (head : Head) → IsKnown bytes head → length (drop head.length bytes) < head.body → IsPart bytes (Known head)
known_part bytes head known less =
    let stays : HeadStays bytes [] head.length = head_stays bytes [] head.length known.ends in
    let small : head.body ≤ 1048576 = body_short (fields_of known.is.head) head.body known.is.body in
    let short : nat_le head.body (length (drop head.length bytes)) ≡ false = grind (arith, nat_tests, less) in
    record {
      pending_is = known;
      front = subst (IsFront bytes) (sym (partial_some bytes (omega (arith, stays.four, stays.within)))) (front_of_known bytes head known Part (λ h is. rw short refl));
      short = omega (arith, length-drop head.length bytes, stays.short, stays.within);
    }

-- the request is whole
pub known_whole : (bytes : List ℕ) (head : Head) (body : List ℕ) → IsKnown bytes head → head.body ≤ length (drop head.length bytes) → body ≡ take head.body (drop head.length bytes)
    → IsFront bytes (Whole (record head.request { body = body }) (head.length + head.body))
known_whole bytes head body known fits body_is =
    let enough : nat_le head.body (length (drop head.length bytes)) ≡ true = grind (arith, nat_tests, fits) in
    front_of_known bytes head known (Whole (record head.request { body = body }) (head.length + head.body)) (λ h is.
    rw enough (ap (λ (request : Request). Whole (record request { body = body }) (head.length + head.body)) is ∙ ap (λ (b : List ℕ). Whole (request_of h b) (head.length + head.body)) body_is))

-- a head that was just read
pub known_head : (bytes : List ℕ) (n : ℕ) (head : Head) → head_length (take 16384 bytes) ≡ Some n → IsHeadOf (take n bytes) head → IsKnown bytes head
known_head bytes n head ends is =
    let stays : HeadStays bytes [] n = head_stays bytes [] n ends in
    let same : n ≡ head.length = sym (is.length_is ∙ length-take-le n bytes stays.within) in
    record { ends = ends ∙ ap Some same; is = subst (λ m. IsHeadOf (take m bytes) head) same is }

-- a head that is refused
pub refused_head : (bytes : List ℕ) (n : ℕ) (refusal : Refusal) → head_length (take 16384 bytes) ≡ Some n → RefusesHead (take n bytes) refusal → IsFront bytes (Refused refusal)
refused_head bytes n refusal ends is = rw ends (is.head, is.is, sym (is.refused n (drop n bytes)))

headless_long : (bytes : List ℕ) → 16384 < length bytes → headless bytes ≡ Refused LongHead
headless_long [] long = absurd (omega arith)
headless_long (b ∷ bs) long = let far : nat_le (length (b ∷ bs)) 16384 ≡ false = grind (arith, nat_tests, long) in rw far refl

headless_short : (bytes : List ℕ) → length bytes ≤ 16384 → headless bytes ≡ partial bytes
headless_short [] short = refl
headless_short (b ∷ bs) short = let near : nat_le (length (b ∷ bs)) 16384 ≡ true = grind (arith, nat_tests, short) in rw near refl

-- a head that is too long
pub long_head : (bytes : List ℕ) → head_length (take 16384 bytes) ≡ None → 16384 < length bytes → IsFront bytes (Refused LongHead)
long_head bytes ends long = rw ends (sym (headless_long bytes long))

absent_by : (t : Bool) (o : Option ℕ) → (if t then Some 4 else option_map suc o) ≡ None → (t ≡ false) × (o ≡ None)
absent_by true o e = cc
absent_by false None e = (refl, refl)
absent_by false (Some m) e = cc

-- where no head ends CR LF CR LF stands nowhere
absent : (bytes : List ℕ) → head_length bytes ≡ None → (place : ℕ) → starts_with nat_eq (drop place bytes) head_end ≡ false
unfolding head_length
absent [] is zero = refl
absent [] is (suc place) = refl
absent (b ∷ bs) is zero = (absent_by (starts_with nat_eq (b ∷ bs) head_end) (head_length bs) is).0
absent (b ∷ bs) is (suc place) = absent bs (absent_by (starts_with nat_eq (b ∷ bs) head_end) (head_length bs) is).1 place

-- a part of a head
pub part_head : (bytes : List ℕ) → head_length (take 16384 bytes) ≡ None → length bytes ≤ 16384 → IsPart bytes (Search (length bytes - 3))
part_head bytes ends short =
    let all : take 16384 bytes ≡ bytes = take_all 16384 bytes short in
    record {
      pending_is = record { none = λ place near. absent bytes (ap head_length (sym all) ∙ ends) place; far = λ place near. omega arith };
      front = rw ends (sym (headless_short bytes short));
      short = omega arith;
    }

front_starts : (xs ys : List ℕ) → starts_with nat_eq (xs ++ ys) head_end ≡ false → starts_with nat_eq xs head_end ≡ false
front_starts xs ys isnt = false_from_ne_true _ (λ is. let long : 4 ≤ length xs = starts_bound xs head_end is in contradiction (sym (starts_append xs ys head_end long) ∙ isnt) is)
  where
    contradiction : {t : Bool} → t ≡ false → t ≡ true → ⊥
    contradiction isnt is = cc

taken_searched : (n from : ℕ) (bytes : List ℕ) → IsSearched from bytes → HasNoEndBefore from (take n bytes)
taken_searched n from bytes searched place near = by_place (nat_le place (length (take n bytes))) refl
  where
    by_place : (t : Bool) → nat_le place (length (take n bytes)) ≡ t → starts_with nat_eq (drop place (take n bytes)) head_end ≡ false
    by_place false is =
        let past : length (take n bytes) ≤ place = grind (arith, nat_tests, is) in
        ap (λ (xs : List ℕ). pointwise nat_eq head_end (take 4 xs)) (drop_all place (take n bytes) past)
    by_place true is =
        let within : place ≤ length (take n bytes) = grind (arith, nat_tests, is) in
        let split : drop place bytes ≡ drop place (take n bytes) ++ drop n bytes =
        ap (drop place) (sym (take-append-drop n bytes)) ∙ drop-append-le place (take n bytes) (drop n bytes) within in
        front_starts (drop place (take n bytes)) (drop n bytes) (ap (λ (xs : List ℕ). pointwise nat_eq head_end (take 4 xs)) (sym split) ∙ searched.none place near)

-- what was searched of all bytes was searched of the first of them
pub run_searched : (from : ℕ) (bytes : List ℕ) → IsSearched from bytes → HasNoEndBefore from (take 16384 bytes)
run_searched from bytes searched = taken_searched 16384 from bytes searched
