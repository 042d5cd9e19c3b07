-- Turns of grants, and those that wait after them.
use Rattle.std.proofs.Common.{◌≡◌, ◌<◌, ◌≤◌, ◌+◌, ◌*◌, ◌⊎◌, ◌↔◌, ◌∷◌, [], ℕ, List, Option, Some, None, Contains, length, refl, sym, ap, subst, inl, inr, arith}
use Rattle.std.proofs.Math.Nat.{mul-le-mul_left}
use Rattle.std.specs.Global.{Vec}
use Rattle.host_base.specs.declared.ids.GrantId.{GrantId}
use Rattle.share_graph.specs.declared.facts.Fact.{Fact}
use Rattle.share_graph.specs.declared.facts.Node.{Node}
use Rattle.share_graph.specs.declared.grants.Grant.{Grant}
use Rattle.share_graph.specs.declared.state.Tables.{Tables}
use Rattle.share_graph.specs.Derivation.{Follows}
use Rattle.share_graph.specs.Nodes.{node_of}
use Rattle.share_graph.specs.Region.{Feeds}
use Rattle.share_graph.specs.Rows.{IsGrant}
use Rattle.least_access.specs.declared.held.Held.{Held}
use Rattle.least_access.specs.Held.{IsIn}
use Rattle.least_access.specs.Rounds.{total_room}
use Rattle.least_access.specs.Solved.{Table, HeldAt}
use Rattle.region_work.specs.Fed.{fed_in}
use Rattle.region_work.proofs.Moving.{not_fed}
use Rattle.region_work.proofs.Sums.{contains_cons, contains_none}
use Rattle.access_report.specs.Turns.{IsClosedBy, IsClosedBut, IsGain, IsJoined, IsTurn, IsSpread, turns_left}
use Rattle.access_report.specs.Waiting.{IsFeedOf, AreQueued, AreWoken, most_fed}
use Rattle.access_report.proofs.FedGrants.{fed_few}
use Rattle.access_report.proofs.Queued.{grant_in}

-- ---- what follows after a node gained facts

module _ (t : Tables) (grants : List GrantId) (fed : Node → List GrantId) (index : IsFeedOf t grants fed) (old new : Table) (gained : Option Node) (gain : IsGain old new gained)
    (waiting later : List GrantId) (keeps : (g : GrantId) → Contains waiting g → Contains later g) (woken : (at : Node) → gained ≡ Some at → (g : GrantId) → Contains (fed at) g → Contains later g) where
  by_gained : (o : Option Node) → gained ≡ o → (h : GrantId) (grant : Grant) (fact : Fact) → Contains grants h → IsGrant t h grant → Follows t (HeldAt new) h grant (node_of h grant) fact
      → Follows t (HeldAt old) h grant (node_of h grant) fact ⊎ Contains later h
  by_gained None is h grant fact listed row f = inl (subst (λ (table : Table). Follows t (HeldAt table) h grant (node_of h grant) fact) (gain.still is) f)
  by_gained (Some at) is h grant fact listed row f =
      let moved = gain.moved at is in
      elim (grant_in (fed at) h) [
        | inl there ↦ inr (woken at is h there)
        | inr apart ↦
            inl (not_fed t moved.gain old new moved.moves h grant (λ feeds. apart (index.all at h grant listed row (subst (λ (n : Node). Feeds n grant) moved.at_node feeds))) (node_of h grant) fact f)
      ]

  -- it followed before, or its grant waits
  followed : (h : GrantId) (grant : Grant) (fact : Fact) → Contains grants h → IsGrant t h grant → Follows t (HeldAt new) h grant (node_of h grant) fact
      → Follows t (HeldAt old) h grant (node_of h grant) fact ⊎ Contains later h
  followed = by_gained gained refl

  pub closed_gain : IsClosedBut t grants waiting old → IsClosedBut t grants later new
  closed_gain closed h grant fact listed row f =
      elim (followed h grant fact listed row f) [
        | inr waits ↦ inr waits
        | inl before ↦
            elim (closed h grant fact listed row before) [
              | inl has ↦ inl (gain.more.facts (node_of h grant) fact has)
              | inr waits ↦ inr (keeps h waits)
            ]
      ]

  pub closed_turn : (g : GrantId) → ((grant : Grant) (fact : Fact) → IsGrant t g grant → Follows t (HeldAt old) g grant (node_of g grant) fact → HeldAt new (node_of g grant) fact)
      → IsClosedBut t grants (g ∷ waiting) old → IsClosedBut t grants later new
  closed_turn g done closed h grant fact listed row f =
      elim (followed h grant fact listed row f) [
        | inr waits ↦ inr waits
        | inl before ↦
            elim (closed h grant fact listed row before) [
              | inl has ↦ inl (gain.more.facts (node_of h grant) fact has)
              | inr waits ↦
                  elim ((contains_cons g waiting h).0 waits) [
                    | inl here ↦
                        inl (subst (λ (k : GrantId). HeldAt new (node_of k grant) fact) here
                        (done grant fact (subst (λ (k : GrantId). IsGrant t k grant) (sym here) row) (subst (λ (k : GrantId). Follows t (HeldAt old) k grant (node_of k grant) fact) (sym here) before)))
                    | inr rest ↦ inr (keeps h rest)
                  ]
            ]
      ]

-- where all wait, nothing is asked
pub closed_first : (t : Tables) (grants waiting : List GrantId) (table : Table) → ((g : GrantId) → Contains grants g → Contains waiting g) → IsClosedBut t grants waiting table
closed_first t grants waiting table all h grant fact listed row f = inr (all h listed)

-- where none waits, all that follows is there
pub closed_last : (t : Tables) (grants waiting : List GrantId) (table : Table) → waiting ≡ [] → IsClosedBut t grants waiting table → IsClosedBy t grants table table
closed_last t grants waiting table none closed h grant fact listed row f =
    elim (closed h grant fact listed row f) [
      | inl has ↦ has
      | inr waits ↦ absurd (contains_none h (subst (λ (gs : List GrantId). Contains gs h) none waits))
    ]

-- ---- the turn of a grant

pub is_turn : (t : Tables) (g : GrantId) (grant : Grant) (node : Node) (held : Held) (old new : Table) (gained : Option Node) → IsGrant t g grant → node ≡ node_of g grant
    → ((fact : Fact) → IsIn held fact ↔ Follows t (HeldAt old) g grant (node_of g grant) fact) → IsJoined node held old new gained → IsTurn t g old new gained
is_turn t g grant node held old new gained row here exact joined = record {
  gain = joined.gain;
  done = λ other fact is f.
      (let one : other ≡ grant = cc in
      let has = joined.has fact ((exact fact).1 (subst (λ (x : Grant). Follows t (HeldAt old) g x (node_of g x) fact) one f)) in
      subst (λ (x : Grant). HeldAt new (node_of g x) fact) (sym one) (subst (λ (n : Node). HeldAt new n fact) here has));
}

-- ---- those that wait after it

pub woken_none : (entries : List (Node × Vec GrantId)) (waiting : List GrantId) → AreWoken entries None waiting waiting
woken_none entries waiting = record {
  there = λ at is. cc is;
  keeps = λ g c. c;
  only = λ g c. inl c;
  long = omega arith;
  same = λ is. refl;
}

pub woken_some : (entries : List (Node × Vec GrantId)) (node : Node) (old new : List GrantId) → AreQueued (fed_in entries node) old new → AreWoken entries (Some node) old new
woken_some entries node old new queued = record {
  there = λ at is g c. (let here : node ≡ at = cc in queued.there g (subst (λ (n : Node). Contains (fed_in entries n) g) (sym here) c));
  keeps = queued.keeps;
  only = λ g c. elim (queued.only g c) [ inl before ↦ inl before | inr fed ↦ inr (node, fed) ];
  long = let few = fed_few entries node in let long = queued.long in omega arith;
  same = λ is. cc is;
}

fewer : (old new f waiting later : ℕ) → new < old → later ≤ waiting + f → new * (f + 1) + later ≤ old * (f + 1) + waiting
fewer old new f waiting later less few = let more : new + 1 ≤ old = omega arith in omega (arith, mul-le-mul_left (f + 1) more)

module _ (entries : List (Node × Vec GrantId)) (old new : Table) (gained : Option Node) (gain : IsGain old new gained) (waiting later : List GrantId) (woken : AreWoken entries gained waiting later) where
  left_by : (o : Option Node) → gained ≡ o → turns_left entries new later ≤ turns_left entries old waiting
  left_by None is =
      let room = ap total_room (gain.still is) in
      let long = ap length (woken.same is) in
      let none : turns_left entries new later ≡ turns_left entries old waiting = cc in
      omega arith
  left_by (Some at) is = fewer (total_room old) (total_room new) (most_fed entries) (length waiting) (length later) (gain.moved at is).less woken.long

  pub less_left : turns_left entries new later ≤ turns_left entries old waiting
  less_left = left_by gained refl

pub spread : (t : Tables) (entries : List (Node × Vec GrantId)) (g : GrantId) (old new : Table) (gained : Option Node) (waiting later : List GrantId) → IsTurn t g old new gained
    → AreWoken entries gained waiting later → IsSpread t entries g old waiting new later
spread t entries g old new gained waiting later turn woken = record {
  more = turn.gain.more;
  closed = λ grants index closed. closed_turn t grants (fed_in entries) index old new gained turn.gain waiting later woken.keeps woken.there g turn.done closed;
  only = woken.only;
  less = less_left entries old new gained turn.gain waiting later woken;
}
