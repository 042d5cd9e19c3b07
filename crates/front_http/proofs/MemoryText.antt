-- The bytes of the answer where memory ran out.
use Rattle.std.proofs.Common.{◌≡◌, [], true, false, codes, refl, ◌∙◌, arith}
use Rattle.std.specs.Fmt.{decimal}
use Rattle.std.proofs.lemmas.Fmt.{decimal-digits_of}
use Rattle.front_http.specs.Texts.{status_line, media_type, length_line, type_line, reply_text, refusal_body}
use Rattle.front_http.specs.declared.texts.TheConstants.{MEMORY_HEAD, MEMORY_REPLY}

decimal_status : decimal 500 ≡ codes "500"
decimal_status = decimal-digits_of 500 (omega arith) (omega arith) ∙ refl

decimal_length : decimal 26 ≡ codes "26"
decimal_length = decimal-digits_of 26 (omega arith) (omega arith) ∙ refl

pub memory_head : reply_text 500 false (refusal_body (codes "Memory") []) true ≡ MEMORY_HEAD.now
unfolding status_line media_type length_line type_line reply_text refusal_body
memory_head = rw (decimal_status, decimal_length) refl

pub memory_whole : reply_text 500 false (refusal_body (codes "Memory") []) false ≡ MEMORY_REPLY.now
unfolding status_line media_type length_line type_line reply_text refusal_body
memory_whole = rw (decimal_status, decimal_length) refl
