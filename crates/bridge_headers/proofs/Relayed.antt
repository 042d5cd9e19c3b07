-- That an answer has one outcome, and that it is the one that is given.
use Rattle.std.proofs.Common.{◌≡◌, ℕ, ◌≤◌, Bool, cond, List, [], Option, Some, None, Result, Ok, Err, IfOk, IfErr, length, take, drop, min, map, refl, ap, sym, subst, ◌∙◌, eq-eqb}
use Rattle.std.proofs.lemmas.List.{length-take-le}
use Rattle.httparse.specs.Grammar.{ResponseHead, ReadsResponse, status_code}
use Rattle.httparse.specs.Spans.{name_and_value}
use Rattle.httparse.proofs.GrammarLemmas.{response_unique}
use Rattle.bridge_headers.specs.declared.fault.RelayFault.{RelayFault}
use Rattle.bridge_headers.specs.declared.fault.RelayFault.TheVariants.{BadAnswer}
use Rattle.bridge_headers.specs.declared.head.HeadSpans.{HeadSpans}
use Rattle.bridge_headers.specs.Lines.{HeaderLine}
use Rattle.bridge_headers.specs.Relay.{Head, IsAnswerHead, HasHead, Relays, end_of, relay, relay_to, relay_text, run_length}
use Rattle.bridge_headers.specs.Spans.{AreSpansOf, head_of}

head_with : ℕ → List HeaderLine → ℕ → Head
head_with status lines size = record { status = status; lines = lines; size = size }

same_head : (a b : Head) → a.status ≡ b.status → a.lines ≡ b.lines → a.size ≡ b.size → a ≡ b
unfolding head_with
same_head a b status lines size = ap (λ (s : ℕ). head_with s a.lines a.size) status ∙ ap (λ (ls : List HeaderLine). head_with b.status ls a.size) lines ∙ ap (λ (n : ℕ). head_with b.status b.lines n) size

one_head : (bytes : List ℕ) (a b : Head) → IsAnswerHead bytes a → IsAnswerHead bytes b → a ≡ b
one_head bytes a b is_a is_b =
    let runs : Some a.size ≡ Some b.size = sym is_a.run ∙ is_b.run in
    let size : a.size ≡ b.size = cc in
    let reads : ReadsResponse (take a.size bytes) is_b.response [] = subst (λ (n : ℕ). ReadsResponse (take n bytes) is_b.response []) (sym size) is_b.reads in
    let same : is_a.response ≡ is_b.response = (response_unique (take a.size bytes) is_a.response is_b.response [] [] is_a.reads reads).0 in
    same_head a b (is_a.status ∙ ap status_code same ∙ sym is_b.status) (is_a.lines ∙ ap (λ (h : ResponseHead). map name_and_value h.fields) same ∙ sym is_b.lines) size

one_found : (bytes : List ℕ) (a b : Option Head) → HasHead bytes a → HasHead bytes b → a ≡ b
one_found bytes None None has_a has_b = refl
one_found bytes None (Some b) has_a has_b = absurd (has_a b has_b)
one_found bytes (Some a) None has_a has_b = absurd (has_b a has_a)
one_found bytes (Some a) (Some b) has_a has_b = ap (λ (h : Head). Some h) (one_head bytes a b has_a has_b)

relays_found : (answer bytes : List ℕ) (found : Option Head) (head_only : Bool) (outcome : Result (List ℕ) RelayFault) → bytes ≡ answer → HasHead bytes found → relay found bytes head_only ≡ outcome
    → Relays answer head_only outcome
relays_found answer bytes found head_only outcome same has is =
    subst (λ (xs : List ℕ). Relays xs head_only outcome) same (record { found = found; has = has; only = λ other has_other. one_found bytes other found has_other has; is = is })

-- an answer that ends where it has to
pub relayed_to : (head : Head) (bytes body text : List ℕ) (head_only : Bool) (end : ℕ) (r : Result ℕ RelayFault) → r ≡ end_of head → r ≡ Ok end → length bytes ≡ end → body ≡ drop head.size bytes
    → text ≡ relay_text head body head_only → relay_to head (end_of head) bytes head_only ≡ Ok text
relayed_to head bytes body text head_only end r by is ends rest written =
    let good = relay_text head (drop head.size bytes) head_only in
    ap (λ (e : Result ℕ RelayFault). relay_to head e bytes head_only) (sym by ∙ is)
    ∙ ap (λ (t : Bool). cond t (Ok good) (Err (BadAnswer (min end (length bytes))))) (eq-eqb (length bytes) end ends)
    ∙ ap (λ (xs : List ℕ). Ok xs) (ap (λ (b : List ℕ). relay_text head b head_only) (sym rest) ∙ sym written)

has_head : (bytes : List ℕ) (size : ℕ) (spans : HeadSpans) → size ≤ length bytes → run_length bytes ≡ Some size → AreSpansOf (take size bytes) spans → IsAnswerHead bytes (head_of (take size bytes) spans)
has_head bytes size spans within run are =
    let long : length (take size bytes) ≡ size = length-take-le size bytes within in
    record {
      response = are.response;
      run = run ∙ ap (λ (n : ℕ). Some n) (sym long);
      reads = subst (λ (n : ℕ). ReadsResponse (take n bytes) are.response []) (sym long) are.reads;
      status = are.status;
      lines = are.fields;
    }

-- an answer with that head
pub relays_some : (answer bytes : List ℕ) (size : ℕ) (spans : HeadSpans) (head_only : Bool) (outcome : Result (List ℕ) RelayFault) → bytes ≡ answer → size ≤ length bytes → run_length bytes ≡ Some size
    → AreSpansOf (take size bytes) spans → relay (Some (head_of (take size bytes) spans)) bytes head_only ≡ outcome → Relays answer head_only outcome
relays_some answer bytes size spans head_only outcome same within run are is =
    relays_found answer bytes (Some (head_of (take size bytes) spans)) head_only outcome same (has_head bytes size spans within run are) is

pub if_ok_weaker : {T E : Type 0} {P Q : T → Type 0} (r : Result T E) → ((x : T) → P x → Q x) → IfOk r P → IfOk r Q
if_ok_weaker (Ok x) step h = step x h
if_ok_weaker (Err e) step h = tt

pub if_err_weaker : {T E : Type 0} {P Q : E → Type 0} (r : Result T E) → ((e : E) → P e → Q e) → IfErr r P → IfErr r Q
if_err_weaker (Ok x) step h = tt
if_err_weaker (Err e) step h = step e h
