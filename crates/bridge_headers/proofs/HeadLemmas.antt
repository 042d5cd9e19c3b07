-- Where a head ends, and that a head is found.
use Rattle.std.proofs.Common.{◌≡◌, ◌≢◌, ℕ, ◌+◌, ◌-◌, ◌*◌, ◌/◌, ◌<◌, ◌≤◌, Bool, false, cond, List, [], ◌∷◌, Option, Some, None, Result, Ok, Err, All, length, get_or, take, drop, refl, ap, sym, ◌∙◌, arith, codes, nat_eq, append-nil, length-append, length-drop, add-one}
use Rattle.std.specs.List.{flat_map, starts_with}
use Rattle.std.specs.Option.{option_map}
use Rattle.std.proofs.Math.Seq.{drop-cons, take-length}
use Rattle.std.proofs.lemmas.List.Elements.{All-head, All-tail}
use Rattle.httparse.specs.Grammar.{LineEnd, crlf, lf, print_end, Field, IsField, print_field, ResponseHead, IsResponseHead, print_response, ReadsResponse}
use Rattle.httparse.specs.Outcome.{IfComplete, IsCompleteAnd}
use Rattle.httparse.specs.Spans.{FindsResponse, IsResponseAt}
use Rattle.httparse.specs.declared.Error.{Error}
use Rattle.httparse.specs.declared.Status.{Status}
use Rattle.httparse.specs.declared.Status.TheVariants.{Complete, Partial}
use Rattle.httparse.specs.declared.spans.HeaderSpan.{HeaderSpan}
use Rattle.httparse.specs.declared.spans.ResponseSpans.{ResponseSpans}
use Rattle.bridge_headers.specs.Relay.{run_length}

abbrev pub IsRunEnd : List ℕ → Bool
IsRunEnd bytes = starts_with nat_eq bytes (codes "\r\n\r\n")

ends_later : (byte : ℕ) (bytes : List ℕ) → IsRunEnd (byte ∷ bytes) ≡ false → run_length (byte ∷ bytes) ≡ option_map (λ n. n + 1) (run_length bytes)
ends_later byte bytes test = ap (λ (t : Bool). cond t (Some 4) (option_map (λ (n : ℕ). n + 1) (run_length bytes))) test

plus_one : (found : Option ℕ) (i : ℕ) → option_map (λ n. n + i) (option_map (λ n. n + 1) found) ≡ option_map (λ n. n + (i + 1)) found
plus_one None i = refl
plus_one (Some n) i = let e : (n + 1) + i ≡ n + (i + 1) = omega arith in ap (λ (k : ℕ). Some k) e

pub rest_of : (bytes : List ℕ) (i : ℕ) → take (length bytes - i) (drop i bytes) ≡ drop i bytes
rest_of bytes i = ap (λ (n : ℕ). take n (drop i bytes)) (sym (length-drop i bytes)) ∙ take-length (drop i bytes)

-- what is known after i bytes that end no run
pub run_next : (bytes : List ℕ) (i : ℕ) → i < length bytes → run_length bytes ≡ option_map (λ n. n + i) (run_length (drop i bytes)) → IsRunEnd (take (length bytes - i) (drop i bytes)) ≡ false
    → run_length bytes ≡ option_map (λ n. n + (i + 1)) (run_length (drop (i + 1) bytes))
run_next bytes i within known test =
    let cut : drop i bytes ≡ get_or bytes i 0 ∷ drop (i + 1) bytes = rw add-one (drop-cons bytes i 0 within) in
    let later = ends_later (get_or bytes i 0) (drop (i + 1) bytes) (ap IsRunEnd (sym cut) ∙ ap IsRunEnd (sym (rest_of bytes i)) ∙ test) in
    known ∙ ap (λ (xs : List ℕ). option_map (λ (n : ℕ). n + i) (run_length xs)) cut ∙ ap (option_map (λ (n : ℕ). n + i)) later ∙ plus_one (run_length (drop (i + 1) bytes)) i

end_long : (e : LineEnd) → 1 ≤ length (print_end e)
end_long crlf = omega arith
end_long lf = omega arith

field_long : (f : Field) → IsField f → 3 ≤ length (print_field f)
field_long f x = simp length-append (omega (arith, x.name.0, end_long f.end))

lines_long : (fs : List Field) → All IsField fs → 3 * length fs ≤ length (flat_map print_field fs)
lines_long [] x = omega arith
lines_long (f ∷ fs) x =
    let whole : length (flat_map print_field (f ∷ fs)) ≡ length (print_field f) + length (flat_map print_field fs) = length-append (print_field f) (flat_map print_field fs) in
    let first = field_long f (All-head IsField f fs x) in
    let rest = lines_long fs (All-tail IsField f fs x) in
    omega arith

head_long : (h : ResponseHead) → IsResponseHead h → 3 * length h.fields ≤ length (print_response h)
unfolding print_response
head_long h x = simp length-append (omega (arith, lines_long h.fields x.fields))

fits : (bytes : List ℕ) (h : ResponseHead) → ReadsResponse bytes h [] → length h.fields ≤ length bytes / 3
fits bytes h reads =
    let whole : length bytes ≡ length (print_response h) = ap length (reads.1 ∙ append-nil (print_response h)) in
    omega (arith, head_long h reads.0)

by_answer : (bytes : List ℕ) (fields : List HeaderSpan) (r : Result (Status ResponseSpans) Error) (h : ResponseHead) → ReadsResponse bytes h [] → IsCompleteAnd r (λ spans. IsResponseAt bytes fields spans h)
    → IfComplete r (λ line. line.len ≢ length bytes) → ⊥
by_answer bytes fields (Ok (Complete line)) h reads found short =
    let whole : length bytes ≡ length (print_response h) = ap length (reads.1 ∙ append-nil (print_response h)) in
    short (found.len ∙ sym whole)
by_answer bytes fields (Ok Partial) h reads found short = found
by_answer bytes fields (Err e) h reads found short = found

-- bytes of which no whole head was found are none
pub no_head : (bytes : List ℕ) (room : ℕ) (fields : List HeaderSpan) (r : Result (Status ResponseSpans) Error) → FindsResponse bytes room fields r → length bytes / 3 ≤ room
    → IfComplete r (λ line. line.len ≢ length bytes) → (h : ResponseHead) → ¬ (ReadsResponse bytes h [])
no_head bytes room fields r finds fit short h = λ reads. by_answer bytes fields r h reads (finds h [] reads (omega (arith, fits bytes h reads))) short
