-- An aid for proofs: what the spans of a head say of it.
use Rattle.std.specs.Prelude.{◌≡◌, ℕ, List, [], All, length, map}
use Rattle.httparse.specs.Grammar.{ResponseHead, ReadsResponse, status_code}
use Rattle.httparse.specs.Spans.{header_bytes, name_and_value, IsHeaderWithin}
use Rattle.bridge_headers.specs.Relay.{Head}
use Rattle.bridge_headers.specs.declared.stated.Stated.{Stated}
use Rattle.bridge_headers.specs.declared.stated.Stated.TheVariants.{Nothing, Bytes, Bad}
use Rattle.bridge_headers.specs.declared.head.HeadSpans.{HeadSpans}

pub record AreSpansOf (head : List ℕ) (spans : HeadSpans) : Type 0 where
  pub response : ResponseHead
  pub reads : ReadsResponse head response []
  pub status : spans.status ≡ status_code response
  pub fields : map (header_bytes head) spans.fields.items ≡ map name_and_value response.fields
  pub within : All (IsHeaderWithin (length head)) spans.fields.items

-- the head that the spans say
abbrev pub head_of : List ℕ → HeadSpans → Head
head_of head spans = record { status = spans.status; lines = map (header_bytes head) spans.fields.items; size = length head }

-- what further length lines make of what the first ones state
abbrev pub with_value : Stated → Stated → Stated
with_value Nothing value = value
with_value (Bytes n) value = Bad
with_value Bad value = Bad
