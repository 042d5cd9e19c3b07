use Rattle.std.proofs.Common.{◌≡◌, List, Ok, Err, ap, ◌∙◌, map, take}
use Rattle.httparse.specs.declared.spans.HeaderSpan.{HeaderSpan}
use Rattle.front_http.specs.Heads.{body_length}
use Rattle.front_http.specs.Spans.{field_at, request_at}
use Rattle.front_http.proofs.HeadParts.{head_read, head_refused}
use Rattle.front_http.proofs.head.read_head.Goals as goal

pub returns-in-Ok-clause-head : goal.returns-in-Ok-clause-head
returns-in-Ok-clause-head c =
    let bytes = c.args.bytes.now in
    let spans = c.in-Some.spans in
    let at = rw c.in-Some.is at c.in_ok-spans.ensures in
    let copied : c.in_ok-fields.fields ≡ map (field_at bytes) (take spans.line.headers spans.fields.items) =
    c.in_ok-fields.ensures ∙ ap (λ (xs : List HeaderSpan). map (field_at bytes) (take spans.line.headers xs)) c.deref.ensures.value in
    let framed : Ok c.in-Ok.body ≡ body_length c.in_ok-fields.fields = c.in-Ok.ensures ∙ ap body_length c.as_slice.ensures in
    let made : c.in_ok-request-in-Ok.request ≡ request_at bytes spans.line c.in_ok-fields.fields = c.in_ok-request-in-Ok.ensures in
    head_read bytes spans.fields.items spans.line c.in_ok-fields.fields c.in-Ok.body c.in_ok-request-in-Ok.request at copied framed made

pub returns-clause-refused : goal.returns-clause-refused
returns-clause-refused c =
    let bytes = c.args.bytes.now in
    let spans = c.in-Some.spans in
    let at = rw c.in-Some.is at c.in_ok-spans.ensures in
    let copied : c.in_ok-fields.fields ≡ map (field_at bytes) (take spans.line.headers spans.fields.items) =
    c.in_ok-fields.ensures ∙ ap (λ (xs : List HeaderSpan). map (field_at bytes) (take spans.line.headers xs)) c.deref.ensures.value in
    let framed : Err c.in-Err.refusal ≡ body_length c.in_ok-fields.fields = c.in-Err.ensures ∙ ap body_length c.as_slice.ensures in
    head_refused bytes spans.fields.items spans.line c.in_ok-fields.fields c.in-Err.refusal at copied framed
