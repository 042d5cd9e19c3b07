use Rattle.std.proofs.Common.{◌≡◌, ◌++◌, List, ℕ, codes, append_assoc, ap, ◌∙◌, Result, Ok, Err, OnOk}
use Rattle.front_http.specs.Texts.{media_type, type_line}
use Rattle.front_http.proofs.texts.put_type.Goals as goal

on_ok : {A E P Q : Type 0} → (r : Result A E) → (P → Q) → OnOk r P → OnOk r Q
on_ok (Ok a) f p = f p
on_ok (Err e) f p = p

joined : (new mid low old a b d : List ℕ) → low ≡ old ++ a → mid ≡ low ++ b → new ≡ mid ++ d → new ≡ old ++ ((a ++ b) ++ d)
joined new mid low old a b d first second third =
    third ∙ ap (λ (xs : List ℕ). xs ++ d) (second ∙ ap (λ (xs : List ℕ). xs ++ b) first ∙ append_assoc old a b) ∙ append_assoc old (a ++ b) d

pub returns : goal.returns
unfolding type_line
returns c =
    let kind : c.as_bytes.result.now ≡ media_type c.args.plain = c.as_bytes.ensures.value ∙ c.media_type.ensures in
    let second : c.put-2.new.self ≡ c.put.new.self ++ media_type c.args.plain = c.in_ok-put-2.ensures.ok ∙ ap (λ (xs : List ℕ). c.put.new.self ++ xs) kind in
    on_ok c.put-3.result (λ third. joined c.put-3.new.self c.put-2.new.self c.put.new.self c.args.text.now (codes "Content-Type: ") (media_type c.args.plain) (codes "\r\n") c.in_ok-put.ensures.ok second third) c.put-3.ensures.ok
