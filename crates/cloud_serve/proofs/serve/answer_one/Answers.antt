use Rattle.std.proofs.Common.{ℕ, ◌++◌, List, ◌∙◌, ap, Some, take}
use Rattle.reply_texts.specs.Texts.{memory_text}
use Rattle.cloud_serve.proofs.Serving.{steps_answered, stops_answering, stops_broken}
use Rattle.cloud_serve.proofs.serve.answer_one.Goals as goal

pub returns-in-Ok-put-clause-steps : goal.returns-in-Ok-put-clause-steps
returns-in-Ok-put-clause-steps g c low inlet inlet' reading reading' less gives closes =
    steps_answered low c.args.last _ _ reading reading' _ _ c.args.request.now gives c.in-Ok.answered.place c.in-Ok.answered.text closes (c.in-Ok.ensures.takes low less)
    (λ before is. c.in-Ok-put.ensures.whole before is ∙ ap (λ (xs : List ℕ). Some (before ++ xs)) c.as_slice.ensures.value)

pub returns-in-Ok-clause-steps : goal.returns-in-Ok-clause-steps
returns-in-Ok-clause-steps g c low inlet inlet' reading reading' less gives closes =
    stops_answering low c.args.last _ _ reading reading' _ _ c.args.request.now gives c.in-Ok.answered.place c.in-Ok.answered.text (c.in-Ok.ensures.takes low less)
    (λ before is. let part = c.in-Err-put.ensures.part before is in (part.0, part.1 ∙ ap (λ (xs : List ℕ). Some (before ++ take part.0 xs)) c.as_slice.ensures.value))
    c.in-Err-put.ensures.cause

pub returns-clause-steps : goal.returns-clause-steps
returns-clause-steps g c low inlet inlet' reading reading' less gives closes =
    stops_broken low c.args.last _ _ reading reading' _ _ c.args.request.now gives _ c.close_with.result c.memory_reply.result.now (c.in-Err.ensures.takes low less)
    (c.memory_reply.ensures ∙ ap memory_text c.wants_head.ensures) c.close_with.ensures.closes
