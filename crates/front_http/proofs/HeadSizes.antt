-- How many header lines a head has room for, and that a head that is there is found.
use Rattle.std.proofs.Common.{◌≡◌, ◌≢◌, ℕ, ◌+◌, ◌*◌, ◌/◌, ◌≤◌, List, [], ◌∷◌, Result, Ok, Err, length, All, ap, ◌∙◌, arith, length-append}
use Rattle.std.specs.List.{flat_map}
use Rattle.std.proofs.lemmas.List.Elements.{All-head, All-tail}
use Rattle.httparse.specs.declared.Error.{Error}
use Rattle.httparse.specs.declared.Status.{Status}
use Rattle.httparse.specs.declared.Status.TheVariants.{Complete, Partial}
use Rattle.httparse.specs.declared.spans.HeaderSpan.{HeaderSpan}
use Rattle.httparse.specs.declared.spans.RequestSpans.{RequestSpans}
use Rattle.httparse.specs.Grammar.{LineEnd, crlf, lf, print_end, Field, IsField, print_field, RequestHead, IsRequestHead, print_request}
use Rattle.httparse.specs.Outcome.{IfComplete, IsCompleteAnd}
use Rattle.httparse.specs.Spans.{FindsRequest, IsRequestAt}
use Rattle.front_http.specs.Spans.{HasNoHead}

end_long : (e : LineEnd) → 1 ≤ length (print_end e)
end_long crlf = omega arith
end_long lf = omega arith

-- a header line has a name, a colon and an end
field_long : (f : Field) → IsField f → 3 ≤ length (print_field f)
field_long f is = simp length-append (omega (arith, is.name.0, end_long f.end))

lines_long : (fields : List Field) → All IsField fields → 3 * length fields ≤ length (flat_map print_field fields)
lines_long [] are = omega arith
lines_long (f ∷ fields) are =
    omega (arith, field_long f (All-head IsField f fields are), lines_long fields (All-tail IsField f fields are), length-append (print_field f) (flat_map print_field fields))

head_long : (head : RequestHead) → IsRequestHead head → 3 * length head.fields ≤ length (print_request head)
unfolding print_request
head_long head is = simp length-append (omega (arith, lines_long head.fields is.fields))

-- where the parser finds no head of exactly these bytes, they are none
pub no_head : (bytes : List ℕ) (room : ℕ) (headers : List HeaderSpan) (found : Result (Status RequestSpans) Error) → FindsRequest bytes room headers found → length bytes / 3 ≤ room
    → IfComplete found (λ line. line.len ≢ length bytes) → HasNoHead bytes
no_head bytes room headers found finds fits other head reads =
    let whole : length bytes ≡ length (print_request head) + 0 = ap length reads.1 ∙ length-append (print_request head) [] in
    let few : length head.fields ≤ room = omega (arith, head_long head reads.0) in
    by_answer found (finds head [] reads few) other
  where
    by_answer : (found : Result (Status RequestSpans) Error) → IsCompleteAnd found (λ line. IsRequestAt bytes headers line head) → IfComplete found (λ line. line.len ≢ length bytes) → ⊥
    by_answer (Ok (Complete line)) is other = other (is.len ∙ omega (arith, ap length reads.1, length-append (print_request head) []))
    by_answer (Ok Partial) is other = is
    by_answer (Err error) is other = is
