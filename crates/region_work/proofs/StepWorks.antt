-- A step of the work keeps what is so between steps, and its end is the solution.
use Rattle.std.proofs.Common.{◌≡◌, ◌≢◌, ◌⊎◌, ◌+◌, ◌-◌, ◌≤◌, ◌++◌, ◌∷◌, [], List, Option, Some, None, Contains, IsSome, IsSomeAnd, refl, sym, ◌∙◌, ap, subst, inl, inr}
use Rattle.std.specs.Prelude.{sum_by}
use Rattle.std.proofs.lemmas.Bool.{cases_eq}
use Rattle.std.proofs.lemmas.List.Elements.{Contains-append_left, Contains-push, Contains-push_cases}
use Rattle.host_base.specs.declared.ids.GrantId.{GrantId}
use Rattle.share_graph.specs.declared.facts.Fact.{Fact}
use Rattle.share_graph.specs.declared.facts.Node.{Node}
use Rattle.share_graph.specs.declared.facts.Node.TheVariants as node
use Rattle.share_graph.specs.declared.grants.Grant.{Grant}
use Rattle.share_graph.specs.declared.state.Tables.{Tables}
use Rattle.share_graph.specs.Coherent.{IsCoherent}
use Rattle.share_graph.specs.Derivation.{Holds, Follows}
use Rattle.share_graph.specs.Nodes.{node_of}
use Rattle.share_graph.specs.Rows.{IsGrant}
use Rattle.least_access.specs.declared.held.Held.{Held}
use Rattle.least_access.specs.Held.{IsIn}
use Rattle.least_access.specs.Rounds.{IsSound}
use Rattle.least_access.specs.Solved.{Table, held_at, HeldAt, IsSolutionOf}
use Rattle.least_access.proofs.Following.{follows_at}
use Rattle.least_access.proofs.Turns.{grant_id, solution}
use Rattle.region_work.specs.declared.claim.Claim.{Claim}
use Rattle.region_work.specs.declared.gain.Gain.{Gain}
use Rattle.region_work.specs.Moves.{Moves}
use Rattle.region_work.specs.Owed.{owed}
use Rattle.region_work.specs.Work.{IsFoundIn, Waits, Work, Finds, claim}
use Rattle.region_work.specs.Working.{IsIndexOf, IsWorking, HasRegion, owed_by}
use Rattle.region_work.proofs.Moving.{held_on, held_back, gained, placed, not_fed}
use Rattle.region_work.proofs.Finding.{still_found}
use Rattle.region_work.proofs.Owing.{owed_fed}
use Rattle.region_work.proofs.Sums.{contains_cons, contains_none}

pub same_grant : (a b : GrantId) → (a ≡ b) ⊎ (a ≢ b)
same_grant a b =
    elim (cases_eq a.0 b.0) [
      | inl e ↦ inl (ap (λ n. grant_id n) e)
      | inr apart ↦ inr (λ same. apart (ap (λ (g : GrantId). g.0) same))
    ]

-- a grant is in a list, or isn't
member : (gs : List GrantId) (g : GrantId) → Contains gs g ⊎ (Contains gs g → ⊥)
member [] g = inr (λ c. contains_none g c)
member (h ∷ gs) g =
    elim (same_grant h g) [
      | inl here ↦ inl ((contains_cons h gs g).1 (inl here))
      | inr apart ↦
          elim (member gs g) [
            | inl later ↦ inl ((contains_cons h gs g).1 (inr later))
            | inr never ↦ inr (λ c. elim ((contains_cons h gs g).0 c) [ inl here ↦ apart here | inr later ↦ never later ])
          ]
    ]

pub some_from_held : (table : Table) (at : Node) (fact : Fact) → HeldAt table at fact → IsSome (held_at table at)
some_from_held table at fact h = by_value (held_at table at) fact h
  where
    by_value : (o : Option Held) (fact : Fact) → IsSomeAnd o (λ held. IsIn held fact) → IsSome o
    by_value (Some held) fact h = refl
    by_value None fact h = absurd h

-- what waits and the table has needs no step
pub step_none : (t : Tables) (table found : Table) (queue : List Claim) (c : Claim)
    → IsWorking t table (record { found = found; queue = queue ++ c ∷ [] }) → ((fact : Fact) → IsIn c.held fact → HeldAt table c.node fact)
    → IsWorking t table (record { found = found; queue = queue })
step_none t table found queue c working has = record {
  table_sound = working.table_sound;
  found_sound = working.found_sound;
  places = working.places;
  reaches = working.reaches;
  queued = λ x h. working.queued x (Contains-append_left queue (c ∷ []) x h);
  listed = λ at fact h.
      elim (working.listed at fact h) [
        | inl known ↦ inl known
        | inr (x, waits, node, is) ↦
            elim (Contains-push_cases queue c x waits) [
              | inl before ↦ inr (x, before, node, is)
              | inr here ↦
                  let this : c.node ≡ at = ap (λ (y : Claim). y.node) here ∙ node in
                  inl (subst (λ (n : Node). HeldAt table n fact) this (has fact (subst (λ (y : Claim). IsIn y.held fact) (sym here) is)))
            ]
      ];
  owners = working.owners;
  closed = working.closed;
}

-- the claim that is taken waits
pub last_waits : (t : Tables) (table found : Table) (queue : List Claim) (c : Claim) → IsWorking t table (record { found = found; queue = queue ++ c ∷ [] })
    → IsFoundIn found c
last_waits t table found queue c working = working.queued c (Contains-push queue c)

-- the grants that the node of a claim feeds have places among what was found
pub fed_rows : (t : Tables) (fed : Node → List GrantId) (table found : Table) (queue : List Claim) (c : Claim) → IsIndexOf t fed
    → IsWorking t table (record { found = found; queue = queue ++ c ∷ [] }) → (g : GrantId) → Contains (fed c.node) g
    → (grant : Grant) × IsGrant t g grant × IsSome (held_at found (node_of g grant))
fed_rows t fed table found queue c index working g h =
    let (grant, is, feeds) = index.rows c.node g h in
    (grant, is, working.reaches c.node g grant (last_waits t table found queue c working).place is feeds)

module _ (t : Tables) (fed : Node → List GrantId) (old new found : Table) (queue : List Claim) (last : Work) (gain : Gain)
    (index : IsIndexOf t fed)
    (working : IsWorking t old (record { found = found; queue = queue ++ claim gain.node gain.gained ∷ [] }))
    (moves : Moves gain old new)
    (finds : Finds (record { found = found; queue = queue }) last)
    (sound : IsSound t new → IsSound t found → IsSound t last.found)
    (passed : (num : GrantId) (grant : Grant) (fact : Fact) → Contains (fed gain.node) num → IsGrant t num grant
    → Follows t (HeldAt new) num grant (node_of num grant) fact
    → Follows t (HeldAt old) num grant (node_of num grant) fact ⊎ HeldAt last.found (node_of num grant) fact) where
  abbrev this : Claim
  this = claim gain.node gain.gained

  new_sound : IsSound t new
  new_sound at fact h =
      elim (held_back t gain old new moves at fact h) [
        | inl before ↦ working.table_sound at fact before
        | inr since ↦
            let here = working.found_sound gain.node fact ((last_waits t old found queue this working).facts fact since.1) in
            subst (λ (n : Node). Holds t n fact) (sym since.0) here
      ]

  known_on : (at : Node) (fact : Fact) → HeldAt old at fact ⊎ HeldAt found at fact → HeldAt new at fact ⊎ HeldAt last.found at fact
  known_on at fact h =
      elim h [
        | inl before ↦ inl (held_on t gain old new moves at fact before)
        | inr there ↦ inr (finds.kept at fact there)
      ]

  step_queued : (c : Claim) → Contains last.queue c → IsFoundIn last.found c
  step_queued c h =
      elim (finds.found c h) [
        | inl before ↦ still_found found last.found c finds.places finds.kept (working.queued c (Contains-append_left queue (this ∷ []) c before))
        | inr fresh ↦ fresh
      ]

  step_listed : (at : Node) (fact : Fact) → HeldAt last.found at fact → HeldAt new at fact ⊎ Waits last.queue at fact
  step_listed at fact h =
      elim (finds.listed at fact h) [
        | inl before ↦
            elim (working.listed at fact before) [
              | inl known ↦ inl (held_on t gain old new moves at fact known)
              | inr (c, waits, node, is) ↦
                  elim (Contains-push_cases queue this c waits) [
                    | inl still ↦ inr (c, finds.waits c still, node, is)
                    | inr here ↦
                        let at_node : gain.node ≡ at = ap (λ (y : Claim). y.node) here ∙ node in
                        inl (subst (λ (n : Node). HeldAt new n fact) at_node (gained t gain old new moves fact (subst (λ (y : Claim). IsIn y.held fact) (sym here) is)))
                  ]
            ]
        | inr fresh ↦ inr fresh
      ]

  step_closed : (g : GrantId) (grant : Grant) (fact : Fact) → IsGrant t g grant → Follows t (HeldAt new) g grant (node_of g grant) fact
      → HeldAt new (node_of g grant) fact ⊎ HeldAt last.found (node_of g grant) fact
  step_closed g grant fact is f =
      elim (member (fed gain.node) g) [
        | inl fed_there ↦
            elim (passed g grant fact fed_there is f) [
              | inl before ↦ known_on (node_of g grant) fact (working.closed g grant fact is before)
              | inr there ↦ inr there
            ]
        | inr apart ↦
            let before = not_fed t gain old new moves g grant (λ feeds. apart (index.all gain.node g grant is feeds)) (node_of g grant) fact f in
            known_on (node_of g grant) fact (working.closed g grant fact is before)
      ]

  pub step_working : IsWorking t new last
  step_working = record {
    table_sound = new_sound;
    found_sound = sound new_sound working.found_sound;
    places = λ at there. placed t gain old new moves at (working.places at ((finds.places at).0 there));
    reaches = λ at g grant there is feeds. (finds.places (node_of g grant)).1 (working.reaches at g grant ((finds.places at).0 there) is feeds);
    queued = step_queued;
    listed = step_listed;
    owners = λ n grain app fact o is. known_on (node.User n grain.owner) fact (working.owners n grain app fact o is);
    closed = step_closed;
  }

  -- the list still has the region
  pub step_region : (gs : List GrantId) → HasRegion t found gs → HasRegion t last.found gs
  step_region gs all g grant is there = all g grant is ((finds.places (node_of g grant)).0 there)

  -- what the step costs is no longer owed
  pub step_owed : (gs : List GrantId) → HasRegion t found gs → sum_by (λ g. owed t old g - owed t new g) (fed gain.node) + owed_by t new gs ≤ owed_by t old gs
  step_owed gs all =
      owed_fed gain old new moves t (fed gain.node) gs (index.once gain.node)
      (λ g h. let (grant, is, place) = fed_rows t fed old found queue this index working g h in all g grant is place)

-- when nothing waits, the table is the solution
pub work_done : (t : Tables) → IsCoherent t → (table : Table) (work : Work) → IsWorking t table work → work.queue ≡ [] → IsSolutionOf t table
work_done t coherent table work working none =
    let found_in : (at : Node) (fact : Fact) → HeldAt work.found at fact → HeldAt table at fact = λ at fact h.
    elim (working.listed at fact h) [
      | inl known ↦ known
      | inr (c, waits, node, is) ↦ absurd (contains_none c (subst (λ (q : List Claim). Contains q c) none waits))
    ] in
    let known_in : (at : Node) (fact : Fact) → HeldAt table at fact ⊎ HeldAt work.found at fact → HeldAt table at fact = λ at fact h.
    elim h [ inl known ↦ known | inr found ↦ found_in at fact found ] in
    solution t table working.table_sound
    (λ n grain app fact o is. known_in (node.User n grain.owner) fact (working.owners n grain app fact o is))
    (λ g grant is at fact f.
    let here = follows_at t coherent (HeldAt table) g grant at fact is f in
    let there = subst (λ (n : Node). Follows t (HeldAt table) g grant n fact) here f in
    subst (λ (n : Node). HeldAt table n fact) (sym here) (known_in (node_of g grant) fact (working.closed g grant fact is there)))
