-- What remains to a reader, by what the bytes that it holds begin with.
use Rattle.std.proofs.Common.{◌≡◌, ◌≢◌, ℕ, ◌+◌, ◌++◌, Bool, true, false, List, [], ◌∷◌, Option, Some, None, Result, Ok, Err, length, drop, refl, sym, ◌∙◌, ap, subst}
use Rattle.std.proofs.lemmas.List.{drop-append-le}
use Rattle.host_base.specs.declared.request.Request.{Request}
use Rattle.front_http.specs.declared.refusal.Refusal.{Refusal}
use Rattle.front_http.specs.declared.refusal.Refusal.TheVariants.{BadHead, LongHead, NeedLength, LongBody}
use Rattle.front_http.specs.declared.fault.FrontFault.{FrontFault}
use Rattle.front_http.specs.declared.fault.FrontFault.TheVariants as fault
use Rattle.front_http.specs.Stream.{Front, Nothing, Part, Refused, Whole, IsFront, Ending, Done, Last, Cut, Bad, Requests, none_but, first_of, IsRest}
use Rattle.front_http.specs.Reading.{Reading, IsRemaining, Ended, Gave, over, Next, fault_at}
use Rattle.front_http.specs.Pending.{partial, StreamEndsAt}
use Rattle.front_http.proofs.Fronts.{front-append, whole_within}
use Rattle.front_http.proofs.Streams.{IsStreamBy, stream_by, stream_of}

rest_same : (all : Requests) (t u : Bool) (at place : ℕ) (xs ys : List ℕ) → t ≡ u → at ≡ place → xs ≡ ys → IsRest t at xs all → IsRest u place ys all
rest_same all t u at place xs ys closed places bytes is =
    subst (λ v. IsRest v place ys all) closed (subst (λ n. IsRest t n ys all) places (subst (λ zs. IsRest t at zs all) bytes is))

ended : (old : Reading) (left : List ℕ) (front : Front) (end : Ending) → old.closed ≡ false → IsFront (old.held ++ left) front → IsStreamBy front old.at (old.held ++ left) (none_but end)
    → ((all : Requests) → IsStreamBy front old.at (old.held ++ left) all → all ≡ none_but end) → Ended old left end
ended old left front end unclosed is by only = record {
  is = subst (λ t. IsRest t old.at (old.held ++ left) (none_but end)) (sym unclosed) (stream_of front old.at (old.held ++ left) (none_but end) is by);
  only = λ all stream. only all (stream_by front old.at (old.held ++ left) all is (subst (λ t. IsRest t old.at (old.held ++ left) all) unclosed stream));
}

-- what is known of a reader while it reads: its place, and that what it holds and what is left are all that there was
pub record Goes (old : Reading) (left : List ℕ) (now : Reading) (rest : List ℕ) : Type 0 where
  pub unclosed : old.closed ≡ false
  pub at : now.at ≡ old.at
  pub same : now.held ++ rest ≡ old.held ++ left

bad_next : (old : Reading) (left : List ℕ) (now : Reading) (rest : List ℕ) (refusal : Refusal) → Goes old left now rest → IsFront now.held (Refused refusal) → Ended old left (Bad refusal now.at)
bad_next old left now rest refusal goes is =
    ended old left (Refused refusal) (Bad refusal now.at) goes.unclosed (subst (λ xs. IsFront xs (Refused refusal)) goes.same (front-append now.held rest (Refused refusal) tt is))
    (ap (λ at. none_but (Bad refusal at)) goes.at) (λ all by. by ∙ ap (λ at. none_but (Bad refusal at)) (sym goes.at))

-- what is refused
pub refused_next : (old : Reading) (left : List ℕ) (now : Reading) (rest : List ℕ) (refusal : Refusal) (new : Reading) (told : Option (List ℕ)) → Goes old left now rest → IsFront now.held (Refused refusal)
    → Next old left (Err (fault_at refusal now.at)) new told
refused_next old left now rest BadHead new told goes is = bad_next old left now rest BadHead goes is
refused_next old left now rest LongHead new told goes is = bad_next old left now rest LongHead goes is
refused_next old left now rest NeedLength new told goes is = bad_next old left now rest NeedLength goes is
refused_next old left now rest LongBody new told goes is = bad_next old left now rest LongBody goes is

-- a whole request that is handed out
pub whole_next : (old : Reading) (left : List ℕ) (now : Reading) (rest : List ℕ) (request : Request) (n : ℕ) (new : Reading) (told : Option (List ℕ)) → Goes old left now rest → IsFront now.held (Whole request n)
    → new ≡ record now { held = drop n now.held; at = now.at + n; closed = request.last } → told ≡ Some rest → Gave old left request new told
whole_next old left now rest request n new told goes is new_is told_is =
    let bytes : List ℕ = old.held ++ left in
    let within = whole_within now.held request n is in
    let front : IsFront bytes (Whole request n) = subst (λ xs. IsFront xs (Whole request n)) goes.same (front-append now.held rest (Whole request n) tt is) in
    let closed_is : new.closed ≡ request.last = ap (λ (r : Reading). r.closed) new_is in
    let at_is : new.at ≡ old.at + n = ap (λ (r : Reading). r.at) new_is ∙ ap (λ at. at + n) goes.at in
    let held_is : new.held ++ rest ≡ drop n bytes = ap (λ (r : Reading). r.held ++ rest) new_is ∙ sym (drop-append-le n now.held rest within.1) ∙ ap (drop n) goes.same in
    record {
      rest = rest;
      told_is = told_is;
      joins = λ more stream.
          subst (λ t. IsRest t old.at bytes (first_of request more)) (sym goes.unclosed)
          (stream_of (Whole request n) old.at bytes (first_of request more) front (more, rest_same more new.closed request.last new.at (old.at + n) (new.held ++ rest) (drop n bytes) closed_is at_is held_is stream, refl));
      splits = λ all stream.
          let by : IsStreamBy (Whole request n) old.at bytes all = stream_by (Whole request n) old.at bytes all front (subst (λ t. IsRest t old.at bytes all) goes.unclosed stream) in
          (by.0, rest_same by.0 request.last new.closed (old.at + n) new.at (drop n bytes) (new.held ++ rest) (sym closed_is) (sym at_is) (sym held_is) by.1, by.2);
    }

partial_none : (bytes : List ℕ) → bytes ≡ [] → partial bytes ≡ Nothing
partial_none [] none = refl
partial_none (b ∷ bs) none = cc

partial_some : (bytes : List ℕ) → bytes ≢ [] → partial bytes ≡ Part
partial_some [] some = absurd (some refl)
partial_some (b ∷ bs) some = refl

-- the end of the input
pub end_next : (old : Reading) (left : List ℕ) (now new : Reading) (told : Option (List ℕ)) (result : Result (Option Request) FrontFault) → old.closed ≡ false → now.at ≡ old.at → now.held ≡ old.held ++ left
    → IsFront now.held (partial now.held) → StreamEndsAt now result → Next old left result new told
end_next old left now new told (Ok None) unclosed at same is ends =
    let front : IsFront (old.held ++ left) Nothing = subst (λ xs. IsFront xs Nothing) same (subst (IsFront now.held) (partial_none now.held ends) is) in
    subst (λ t. Ended old left (over t)) (sym unclosed) (ended old left Nothing Done unclosed front refl (λ all by. by))
end_next old left now new told (Ok (Some request)) unclosed at same is ends = absurd ends
end_next old left now new told (Err (fault.CutOff n)) unclosed at same is ends =
    let front : IsFront (old.held ++ left) Part = subst (λ xs. IsFront xs Part) same (subst (IsFront now.held) (partial_some now.held ends.0) is) in
    let count : n ≡ old.at + length (old.held ++ left) = ends.1 ∙ ap (λ k. k + length now.held) at ∙ ap (λ (xs : List ℕ). old.at + length xs) same in
    ended old left Part (Cut n) unclosed front (ap (λ k. none_but (Cut k)) count) (λ all by. by ∙ ap (λ k. none_but (Cut k)) (sym count))
end_next old left now new told (Err (fault.BadHead place)) unclosed at same is ends = absurd ends
end_next old left now new told (Err (fault.LongHead place)) unclosed at same is ends = absurd ends
end_next old left now new told (Err (fault.NeedLength place)) unclosed at same is ends = absurd ends
end_next old left now new told (Err (fault.LongBody place)) unclosed at same is ends = absurd ends
end_next old left now new told (Err fault.ReadFault) unclosed at same is ends = absurd ends
end_next old left now new told (Err fault.Memory) unclosed at same is ends = tt

-- a reader that handed out the last request
pub closed_next : (old : Reading) (left : List ℕ) (new : Reading) (told : Option (List ℕ)) → old.closed ≡ true → Next old left (Ok None) new told
closed_next old left new told closed =
    let is : IsRemaining old left (none_but Last) = subst (λ t. IsRest t old.at (old.held ++ left) (none_but Last)) (sym closed) refl in
    let ends : Ended old left Last = record { is = is; only = λ all stream. subst (λ t. IsRest t old.at (old.held ++ left) all) closed stream } in
    subst (λ t. Ended old left (over t)) (sym closed) ends
