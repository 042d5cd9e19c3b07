-- A head and its header lines from where their parts stand.
use Rattle.std.proofs.Common.{◌≡◌, ℕ, List, [], ◌∷◌, Some, Ok, Err, length, take, map, sym, ap, refl, ◌∙◌}
use Rattle.httparse.specs.declared.spans.HeaderSpan.{HeaderSpan}
use Rattle.httparse.specs.declared.spans.RequestSpans.{RequestSpans}
use Rattle.httparse.specs.Grammar.{Field as HeadField}
use Rattle.httparse.specs.Spans.{header_bytes, name_and_value}
use Rattle.host_base.specs.declared.request.Field.{Field}
use Rattle.host_base.specs.declared.request.Request.{Request}
use Rattle.front_http.specs.declared.refusal.Refusal.{Refusal}
use Rattle.front_http.specs.Heads.{body_length, field_of, fields_of}
use Rattle.front_http.specs.Stream.{bodied}
use Rattle.front_http.specs.Spans.{field_at, request_at, IsHeadAt, IsHeadOf, RefusesHead}

of_pair : List ℕ × List ℕ → Field
of_pair p = record { name = p.0; value = p.1 }

from_spans : (bytes : List ℕ) (spans : List HeaderSpan) → map of_pair (map (header_bytes bytes) spans) ≡ map (field_at bytes) spans
unfolding of_pair
from_spans bytes [] = refl
from_spans bytes (span ∷ spans) = ap (λ (fields : List Field). field_at bytes span ∷ fields) (from_spans bytes spans)

from_lines : (lines : List HeadField) → map of_pair (map name_and_value lines) ≡ map field_of lines
unfolding of_pair
from_lines [] = refl
from_lines (line ∷ lines) = ap (λ (fields : List Field). field_of line ∷ fields) (from_lines lines)

-- header lines that were copied from their spans are those of the head
fields_are : (bytes : List ℕ) (spans : List HeaderSpan) (line : RequestSpans) (fields : List Field) → (at : IsHeadAt bytes spans line) → fields ≡ map (field_at bytes) (take line.headers spans) → fields ≡ fields_of at.head
fields_are bytes spans line fields at copied =
    copied ∙ sym (from_spans bytes (take line.headers spans)) ∙ ap (map of_pair) at.at.fields ∙ from_lines at.head.fields

-- what was read of a head that isn't refused
pub head_read : (bytes : List ℕ) (spans : List HeaderSpan) (line : RequestSpans) (fields : List Field) (body : ℕ) (request : Request) → IsHeadAt bytes spans line → fields ≡ map (field_at bytes) (take line.headers spans)
    → Ok body ≡ body_length fields → request ≡ request_at bytes line fields → IsHeadOf bytes (record { request = request; length = length bytes; body = body })
head_read bytes spans line fields body request at copied framed made =
    let same : fields ≡ fields_of at.head = fields_are bytes spans line fields at copied in
    record {
      head = at.head;
      reads = at.reads;
      body = sym (framed ∙ ap body_length same);
      request = made ∙ rw (at.at.method, at.at.path, at.at.version, same) refl;
      length_is = refl;
    }

-- a head whose framing is refused
pub head_refused : (bytes : List ℕ) (spans : List HeaderSpan) (line : RequestSpans) (fields : List Field) (refusal : Refusal) → IsHeadAt bytes spans line → fields ≡ map (field_at bytes) (take line.headers spans)
    → Err refusal ≡ body_length fields → RefusesHead bytes refusal
head_refused bytes spans line fields refusal at copied framed =
    let same : fields ≡ fields_of at.head = fields_are bytes spans line fields at copied in
    record {
      head = Some at.head;
      is = at.reads;
      refused = λ n rest. ap (bodied at.head n rest) (sym (framed ∙ ap body_length same));
    }
