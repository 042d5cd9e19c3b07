-- What a further piece adds to what is held.
use Rattle.std.proofs.Common.{◌≡◌, ℕ, ◌+◌, ◌≤◌, ◌++◌, nat_lt, nat_eq, List, [], ◌∷◌, length, take, drop, refl, sym, ◌∙◌, ap, subst, arith, append_assoc, length-append}
use Rattle.std.specs.Cmp.Lexicographic.{pointwise}
use Rattle.std.proofs.lemmas.List.{drop-append-le, take-append-drop, length-drop}
use Rattle.std.proofs.lemmas.Bool.Decides.{nat_tests}
use Rattle.host_base.specs.Outside.{Inlet, GivesBytes}
use Rattle.front_http.specs.declared.look.Pending.{Pending}
use Rattle.front_http.specs.declared.look.Pending.TheVariants.{Search, Known}
use Rattle.front_http.specs.Stream.{head_end}
use Rattle.front_http.specs.Spans.{IsHeadOf}
use Rattle.front_http.specs.Pending.{IsPending, GivesMore}
use Rattle.front_http.proofs.HeadEnds.{starts_append}
use Rattle.front_http.proofs.Fronts.{HeadStays, head_stays}

pub append-nil : (xs : List ℕ) → xs ++ [] ≡ xs
append-nil [] = refl
append-nil (x ∷ xs) = ap (λ (ys : List ℕ). x ∷ ys) (append-nil xs)

-- what is known stays so when more bytes come
pub pending_more : (held more : List ℕ) (pending : Pending) → IsPending held pending → IsPending (held ++ more) pending
pending_more held more (Search from) is = record {
  none = λ place near.
      let far : place + 4 ≤ length held = is.far place near in
      let long : 4 ≤ length (drop place held) = omega (arith, length-drop place held) in
      ap (λ (xs : List ℕ). pointwise nat_eq head_end (take 4 xs)) (drop-append-le place held more (omega arith)) ∙ starts_append (drop place held) more head_end long ∙ is.none place near;
  far = λ place near. omega (arith, is.far place near, length-append held more);
}
pending_more held more (Known head) is =
    let stays : HeadStays held more head.length = head_stays held more head.length is.ends in
    record { ends = stays.stays; is = subst (λ run. IsHeadOf run head) (sym stays.run) is.is }

pub gives_more : (held left buf new : List ℕ) (n : ℕ) (inlet : Inlet) → GivesBytes left n buf inlet → new ≡ held ++ take n buf → GivesMore held left (nat_lt 0 n) new inlet.left
gives_more held left buf new n inlet gives grown = record {
  rest = drop n left;
  told_is = gives.left;
  same = ap (λ (xs : List ℕ). xs ++ drop n left) (grown ∙ ap (λ (xs : List ℕ). held ++ xs) gives.piece) ∙ append_assoc held (take n left) (drop n left) ∙ ap (λ (xs : List ℕ). held ++ xs) (take-append-drop n left);
  end = λ none. let zero_is : n ≡ 0 = grind (arith, nat_tests, none) in (grown ∙ ap (λ k. held ++ take k buf) zero_is ∙ append-nil held, gives.end zero_is);
}
