-- Visits served one after another, and one more.
use Rattle.std.proofs.Common.{◌≡◌, ◌∙◌, ℕ, ◌+◌, ◌++◌, ◌<◌, ◌≤◌, min, List, [], ◌∷◌, Option, None, Some, length, refl, ap, sym, subst, arith, append_assoc, append-nil, length-append}
use Rattle.std.specs.List.{sum_by}
use Rattle.std.specs.Option.{option_map}
use Rattle.std.proofs.lemmas.List.Sums.{sum_by-append}
use Rattle.hub_core.specs.Book.{Book}
use Rattle.serve_door.specs.Connections.{AreServed, IsTunneled, ServesMany, WasServed, answered_in, door_after}
use Rattle.serve_door.specs.Doors.{Doorway, IsDue, IsInOrder, IsOneOut, IsWithinPlan, Traffic, Tunnel, Tunneled, Visit, expecting, given_back, one_given}

one_more : (old new newer : Book) (list : List Visit) (one : Visit) → AreServed old new list → WasServed new newer one → AreServed old newer (list ++ one ∷ [])
one_more old new newer [] one is served = (newer, subst (λ (b : Book). WasServed b newer one) is served, refl)
one_more old new newer (first ∷ more) one (between, is, rest) served = (between, is, one_more between new newer more one rest served)

-- how many requests were answered in visits
abbrev answered_on : List Visit → ℕ
answered_on list = min (sum_by answered_in list) 18446744073709551615

-- the traffic of a door once it gave these visits and was given them back
abbrev traffic_after : List Visit → Traffic → Traffic
traffic_after list t = record t { given = t.given + length list; returned = t.returned ++ list }

capped : (sum more : ℕ) → min (min sum 18446744073709551615 + more) 18446744073709551615 ≡ min (sum + more) 18446744073709551615
capped sum more = omega (arith)

answered_more : (list : List Visit) (one : Visit) → min (answered_on list + answered_in one) 18446744073709551615 ≡ answered_on (list ++ one ∷ [])
answered_more list one =
    let alone : sum_by answered_in (one ∷ []) ≡ answered_in one = omega arith in
    capped (sum_by answered_in list) (answered_in one)
    ∙ ap (λ n. min n 18446744073709551615) (sym (sum_by-append answered_in list (one ∷ []) ∙ ap (λ n. sum_by answered_in list + n) alone))

abbrev traffic : ℕ → ℕ → List Visit → Traffic
traffic planned given returned = record { planned = planned; given = given; returned = returned }

more_given : (given : ℕ) (list : List Visit) (one : Visit) → given + length list + 1 ≡ given + length (list ++ one ∷ [])
more_given given list one = let long = length-append list (one ∷ []) in omega (arith, long)

traffic_more : (told : Option Traffic) (list : List Visit) (one : Visit)
    → option_map (λ (t : Traffic). record t { returned = t.returned ++ one ∷ [] }) (option_map (λ (t : Traffic). record t { given = t.given + 1 }) (option_map (traffic_after list) told))
    ≡ option_map (traffic_after (list ++ one ∷ [])) told
traffic_more None list one = refl
traffic_more (Some t) list one =
    let same : traffic t.planned (t.given + length list + 1) ((t.returned ++ list) ++ one ∷ []) ≡ traffic t.planned (t.given + length (list ++ one ∷ [])) (t.returned ++ (list ++ one ∷ [])) =
    cc (more_given t.given list one, append_assoc t.returned list (one ∷ [])) in
    ap (λ (x : Traffic). Some x) same

plus_none : (a n : ℕ) → n ≡ 0 → a ≡ a + n
plus_none a n none = omega (arith, none)

traffic_none : (told : Option Traffic) → told ≡ option_map (traffic_after []) told
traffic_none None = refl
traffic_none (Some t) =
    let same : traffic t.planned t.given t.returned ≡ traffic t.planned (t.given + 0) (t.returned ++ []) = cc (plus_none t.given 0 refl, append-nil t.returned) in
    ap (λ (x : Traffic). Some x) same

abbrev doorway : ℕ → Option Traffic → Doorway
doorway faults told = record { faults = faults; traffic = told }

-- no visit yet
pub none_yet : (book : Book) (door : Doorway) → ServesMany book book door door 0
none_yet book door = record {
  visits = [];
  served = refl;
  doorway_is = (let same : doorway door.faults door.traffic ≡ doorway door.faults (option_map (traffic_after []) door.traffic) = cc (traffic_none door.traffic) in same);
  answered_is = refl;
}

-- one visit more
pub many_more : (old new newer : Book) (door now later : Doorway) (answered : ℕ) (one : Visit) → ServesMany old new door now answered → WasServed new newer one
    → later ≡ given_back (one_given now) one → ServesMany old newer door later (min (answered + answered_in one) 18446744073709551615)
many_more old new newer door now later answered one many served is = record {
  visits = many.visits ++ one ∷ [];
  served = one_more old new newer many.visits one many.served served;
  doorway_is =
      (let told : later.traffic ≡ option_map (traffic_after (many.visits ++ one ∷ [])) door.traffic =
      ap (λ (d : Doorway). d.traffic) is
      ∙ ap (λ (d : Doorway). option_map (λ (t : Traffic). record t { returned = t.returned ++ one ∷ [] }) (option_map (λ (t : Traffic). record t { given = t.given + 1 }) d.traffic)) many.doorway_is
      ∙ traffic_more door.traffic many.visits one in
      let same : doorway later.faults later.traffic ≡ door_after door later.faults (many.visits ++ one ∷ []) = cc told in
      same);
  answered_is = ap (λ (n : ℕ). min (n + answered_in one) 18446744073709551615) many.answered_is ∙ answered_more many.visits one;
}

-- one tunnel more, whose messages aren't requests
pub tunnel_more : (old new newer : Book) (door now later : Doorway) (one : Tunnel) → ServesMany old new door now 0 → IsTunneled new newer one → later ≡ given_back (one_given now) (Tunneled one)
    → ServesMany old newer door later 0
tunnel_more old new newer door now later one many served is =
    let none : min (0 + 0) 18446744073709551615 ≡ 0 = omega arith in
    subst (λ (n : ℕ). ServesMany old newer door later n) none (many_more old new newer door now later 0 (Tunneled one) many served is)

-- none more was given
pub no_more : (old new : Book) (door now later : Doorway) (answered : ℕ) → ServesMany old new door now answered → later ≡ record now { faults = later.faults }
    → ServesMany old new door later answered
no_more old new door now later answered many is = record {
  visits = many.visits;
  served = many.served;
  doorway_is =
      (let told : later.traffic ≡ option_map (traffic_after many.visits) door.traffic = ap (λ (d : Doorway). d.traffic) is ∙ ap (λ (d : Doorway). d.traffic) many.doorway_is in
      let same : doorway later.faults later.traffic ≡ door_after door later.faults many.visits = cc told in
      same);
  answered_is = many.answered_is;
}

out_of : (told : Option Traffic) → ((t : Traffic) → told ≡ Some t → length t.returned ≤ t.given)
    → (t : Traffic) → option_map (λ (t : Traffic). record t { given = t.given + 1 }) told ≡ Some t → length t.returned < t.given
out_of None order t is = cc is
out_of (Some x) order t is =
    let same : record x { given = x.given + 1 } ≡ t = cc is in
    let few = order x refl in
    subst (λ (y : Traffic). length y.returned < y.given) same (omega (arith, few))

-- where one more was given, one is out
pub is_out : (door : Doorway) → IsInOrder door → IsOneOut (one_given door)
is_out door order = out_of door.traffic order

order_of : (told : Option Traffic) (one : Visit) → ((t : Traffic) → told ≡ Some t → length t.returned ≤ t.given)
    → (t : Traffic) → option_map (λ (t : Traffic). record t { returned = t.returned ++ one ∷ [] }) (option_map (λ (t : Traffic). record t { given = t.given + 1 }) told) ≡ Some t → length t.returned ≤ t.given
order_of None one order t is = cc is
order_of (Some x) one order t is =
    let same : record x { given = x.given + 1; returned = x.returned ++ one ∷ [] } ≡ t = cc is in
    let few = order x refl in
    let long = length-append x.returned (one ∷ []) in
    subst (λ (y : Traffic). length y.returned ≤ y.given) same (omega (arith, few, long))

-- and once it came back all are in order
pub in_order : (door later : Doorway) (one : Visit) → IsInOrder door → later ≡ given_back (one_given door) one → IsInOrder later
in_order door later one order is = subst (λ (d : Doorway). IsInOrder d) (sym is) (order_of door.traffic one order)

due_of : (told : Option Traffic) (one : Visit) → ((t : Traffic) → told ≡ Some t → t.given < t.planned)
    → (t : Traffic) → option_map (λ (t : Traffic). record t { returned = t.returned ++ one ∷ [] }) (option_map (λ (t : Traffic). record t { given = t.given + 1 }) told) ≡ Some t → t.given ≤ t.planned
due_of None one due t is = cc is
due_of (Some x) one due t is =
    let same : record x { given = x.given + 1; returned = x.returned ++ one ∷ [] } ≡ t = cc is in
    let less = due x refl in
    subst (λ (y : Traffic). y.given ≤ y.planned) same (omega (arith, less))

-- one that was due is within the plan
pub within_plan : (door later : Doorway) (one : Visit) → IsDue door → later ≡ given_back (one_given door) one → IsWithinPlan later
within_plan door later one due is = subst (λ (d : Doorway). IsWithinPlan d) (sym is) (due_of door.traffic one due)

expected_of : (told : Option Traffic) (count : ℕ) → ((t : Traffic) → told ≡ Some t → length t.returned ≤ t.given)
    → (t : Traffic) → option_map (λ (t : Traffic). record t { planned = t.given + count }) told ≡ Some t → length t.returned ≤ t.given
expected_of None count order t is = cc is
expected_of (Some x) count order t is =
    let same : record x { planned = x.given + count } ≡ t = cc is in
    subst (λ (y : Traffic). length y.returned ≤ y.given) same (order x refl)

-- a door is in order too once it is to give some
pub expected_in_order : (door : Doorway) (count : ℕ) → IsInOrder door → IsInOrder (expecting door count)
expected_in_order door count order = expected_of door.traffic count order
