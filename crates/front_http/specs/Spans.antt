-- An aid for the contracts of the private functions that read a head.
use Rattle.std.specs.Prelude.{◌≡◌, ℕ, List, [], Option, Ok, length}
use Rattle.httparse.specs.declared.spans.HeaderSpan.{HeaderSpan}
use Rattle.httparse.specs.declared.spans.RequestSpans.{RequestSpans}
use Rattle.httparse.specs.Grammar.{RequestHead, ReadsRequest}
use Rattle.httparse.specs.Spans.{span_bytes, IsRequestAt, IsRequestWithin}
use Rattle.host_base.specs.declared.request.Field.{Field}
use Rattle.host_base.specs.declared.request.Request.{Request}
use Rattle.front_http.specs.declared.refusal.Refusal.{Refusal}
use Rattle.front_http.specs.declared.head.Head.{Head}
use Rattle.front_http.specs.declared.head.HeadFault.{HeadFault}
use Rattle.front_http.specs.declared.head.HeadFault.TheVariants as fault
use Rattle.front_http.specs.Heads.{body_length, bearer_of, closes, host_of, fields_of, request_of}
use Rattle.front_http.specs.Stream.{Refused, headed, IsHead}

-- the header line that spans cover
abbrev pub field_at : List ℕ → HeaderSpan → Field
field_at bytes span = record { name = span_bytes bytes span.name; value = span_bytes bytes span.value }

-- the request of a head whose parts are spans, with these header lines and an empty body
abbrev pub request_at : List ℕ → RequestSpans → List Field → Request
request_at bytes line fields = record {
  method = span_bytes bytes line.method;
  target = span_bytes bytes line.path;
  host = host_of fields;
  fields = fields;
  bearer = bearer_of fields;
  body = [];
  last = closes line.version fields;
}

-- the bytes are no head
abbrev pub HasNoHead : List ℕ → Type 0
HasNoHead bytes = (head : RequestHead) → ReadsRequest bytes head [] → ⊥

-- the bytes are a head whose parts are spans
pub record IsHeadAt (bytes : List ℕ) (fields : List HeaderSpan) (line : RequestSpans) : Type 0 where
  pub head : RequestHead
  pub reads : ReadsRequest bytes head []
  pub at : IsRequestAt bytes fields line head
  pub within : IsRequestWithin bytes fields line

-- the bytes are the head that was read
pub record IsHeadOf (bytes : List ℕ) (read : Head) : Type 0 where
  pub head : RequestHead
  pub reads : ReadsRequest bytes head []
  pub body : body_length (fields_of head) ≡ Ok read.body
  pub request : read.request ≡ request_of head []
  pub length_is : read.length ≡ length bytes

-- a head of these bytes is refused, whatever follows it
pub record RefusesHead (bytes : List ℕ) (refusal : Refusal) : Type 0 where
  pub head : Option RequestHead
  pub is : IsHead bytes head
  pub refused : (n : ℕ) (rest : List ℕ) → headed head n rest ≡ Refused refusal

-- what a fault says of the bytes
abbrev pub IsHeadFault : List ℕ → HeadFault → Type 0
IsHeadFault bytes (fault.Refused refusal) = RefusesHead bytes refusal
IsHeadFault bytes fault.Memory = Unit {0}
