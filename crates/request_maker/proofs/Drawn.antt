-- What is drawn of a sequence of secrets.
use Rattle.std.proofs.Common.{◌≡◌, ◌∙◌, ◌+◌, ◌%◌, ℕ, List, [], Option, Some, Result, Ok, Err, refl, sym, ap}
use Rattle.std.specs.Prelude.{IfOk, unwrap_or}
use Rattle.host_base.specs.Drawing.{Coming, Counted, Draws, next_of, seq_secret}

-- the secret behind a number is that of the next one
pub drawn_is : {E : Type 0} (n number : ℕ) (rest : Option Coming) (result : Result (List ℕ) E) (secret : List ℕ) → result ≡ Ok secret → IfOk result (Draws (Some (Counted n)) rest)
    → (n + 1) % 4294967296 ≡ number → secret ≡ seq_secret number
drawn_is n number rest (Ok x) secret is drawn next =
    let same : x ≡ secret = cc is in
    let first : next_of (Counted n) ≡ Some x = (drawn (Counted n) refl).0 in
    sym same ∙ sym (ap (λ (o : Option (List ℕ)). unwrap_or o []) first) ∙ ap seq_secret next
drawn_is n number rest (Err e) secret is drawn next = absurd (cc is)
