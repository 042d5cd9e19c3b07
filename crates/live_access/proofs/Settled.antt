-- What is ready for an event meets all that solving its region again asks for, and what taking it back leaves.
use Rattle.std.proofs.Common.{◌≡◌, Bool, true, false, List, [], Contains, inl, inr, refl, sym, ◌∙◌, subst}
use Rattle.std.specs.Prelude.{AllPairs, ◌≢◌}
use Rattle.host_base.specs.declared.ids.GrantId.{GrantId}
use Rattle.share_graph.specs.declared.event.Event.{Event}
use Rattle.share_graph.specs.declared.facts.Node.{Node}
use Rattle.share_graph.specs.declared.state.State.{State}
use Rattle.share_graph.specs.declared.state.Tables.{Tables}
use Rattle.share_graph.specs.Coherent.{IsCoherent}
use Rattle.share_graph.specs.History.{after}
use Rattle.share_graph.specs.Nodes.{node_of}
use Rattle.share_graph.specs.Region.{GivesOutside, Reached, seed, along, to_site}
use Rattle.share_graph.proofs.Coherence.{coherent}
use Rattle.least_access.specs.Solved.{Table, IsSolutionOf}
use Rattle.region_work.specs.Fed.{fed_in}
use Rattle.region_work.specs.Prepared.{HasGrants, IsPrepared, IsToGrow, IsFresh}
use Rattle.region_work.specs.Working.{IsIndexOf}
use Rattle.region_work.proofs.Sums.{contains_none}
use Rattle.region_access.specs.Adding.{HasSameEdges}
use Rattle.region_access.specs.Arriving.{GoesTo, IsArrivalsOf, IsArrivalsAt}
use Rattle.region_access.specs.Indexed.{IsIndexBy}
use Rattle.region_access.specs.Indexes.{Entries, AreIndexesOf, HaveSame}
use Rattle.region_access.specs.declared.room.Room.{Room}
use Rattle.region_access.specs.Room.{HasSameFacts, IsOpened, IsRoom}
use Rattle.region_access.specs.Ties.{HangsOn, tied_in}
use Rattle.region_access.proofs.Indexed.{index_same}
use Rattle.region_access.proofs.After.{indexes_after}
use Rattle.region_access.proofs.Roomy.{cleared_room, room_grows, room_prepared}
use Rattle.live_access.specs.declared.region.Region.{Region}
use Rattle.live_access.specs.Kept.{Kept, IsSolvedFor}
use Rattle.live_access.specs.Ready.{starts_of, IsReadyFor}
use Rattle.live_access.specs.Adding.{OnlyAdds}
use Rattle.live_access.proofs.Grows.{event_only_adds}
use Rattle.live_access.proofs.Law.{event_touches, event_adds}

-- All that solving a region again asks for, by the tables after the event.
pub record CanSettle (u : Tables) (kept : Kept) (region : Region) : Type 0 where
  pub coherent : IsCoherent u
  pub indexes : AreIndexesOf u kept.indexes
  pub grants : HasGrants u (starts_of region.room.grows region.seeds.items region.room.nodes.items) region.grants.items
  pub prepared : region.room.grows ≡ false → IsPrepared u region.room.nodes.items kept.table
  pub to_grow : region.room.grows ≡ true → IsToGrow u region.seeds.items region.room.nodes.items kept.table
  pub fresh : IsFresh region.room.nodes.items region.room.waiting

same_facts : (t : Tables) (old new : Table) → HasSameFacts old new → IsSolutionOf t old → IsSolutionOf t new
same_facts t old new same solved at fact = (λ h. (solved at fact).0 ((same at fact).0 h), λ d. (same at fact).1 ((solved at fact).1 d))

-- nothing is reached from nothing
none_reached : (t : Tables) (at : Node) → Reached t (Contains []) at → ⊥
none_reached t at (seed none) = contains_none at none
none_reached t at (along {from = from} r g grant is feeds) = none_reached t from r
none_reached t at (to_site {from = from} r g grant is none feeds) = none_reached t from r

-- tables that stay give what they give
gives_same : (Inside : Node → Type 0) (t : Tables) → GivesOutside Inside t t
gives_same Inside t = record {
  owned = λ n grain fact out o. o;
  passed = λ g grant fact out p. p;
  asked = λ g grant q out is c now. now;
  asked_of_site = λ g grant q out is none c now. now;
  opened = λ g grant out none o. o;
}

-- where an event changes nothing, no node waits to be solved again
unchanged : (t u : Tables) (seeds : List Node) (old new : Table) (room : Room) → room.grows ≡ false → seeds ≡ [] → IsCoherent u → IsSolutionOf u old → IsRoom t seeds old new room → IsPrepared u room.nodes.items new
unchanged t u seeds old new room not_grown no_seeds coherent solved is =
    let empty : (at : Node) → Contains room.nodes.items at → ⊥ = λ at inside. none_reached t at (subst (λ (from : List Node). Reached t (Contains from) at) no_seeds ((is.region.exact at).0 inside)) in
    record {
      tables = u;
      start = is.start;
      solved = same_facts u old is.start is.same solved;
      clears = (cleared_room t seeds old new room is not_grown).0;
      touches = record {
        coherent = coherent;
        closed = λ from g grant row feeds inside. absurd (empty from inside);
        closed_after = λ from g grant row feeds inside. absurd (empty from inside);
        there = gives_same (Contains room.nodes.items) u;
        back = gives_same (Contains room.nodes.items) u;
      };
    }

-- and it may grow by nothing
unchanged_grows : (t u : Tables) (seeds : List Node) (old new : Table) (room : Room) → room.grows ≡ true → seeds ≡ [] → IsCoherent u → IsSolutionOf u old → IsRoom t seeds old new room
    → IsToGrow u seeds room.nodes.items new
unchanged_grows t u seeds old new room is_grown no_seeds coherent solved is =
    let empty : (at : Node) → Contains room.nodes.items at → ⊥ = λ at inside. none_reached t at (subst (λ (from : List Node). Reached t (Contains from) at) no_seeds ((is.region.exact at).0 inside)) in
    let stays : new ≡ is.start = subst (λ (b : Bool). IsOpened b room is.start new) is_grown is.opened in
    record {
      tables = u;
      coherent = coherent;
      solved = subst (λ (table : Table). IsSolutionOf u table) (sym stays) (same_facts u old is.start is.same solved);
      adds = gives_same (Contains []) u;
      only = gives_same (Contains seeds) u;
      within = λ at inside. (is.region.exact at).1 (seed inside);
      places = is.places;
      closed = λ from g grant row feeds inside. absurd (empty from inside);
    }

-- the nodes of a region that is to grow lead nowhere after the event either
grows_by : (s : State) (e : Event) (kept : Kept) (region : Region) → IsReadyFor s e kept region → region.room.grows ≡ true → IsToGrow (after s e).tables region.seeds.items region.room.nodes.items kept.table
grows_by s e kept region ready is_grown =
    let u : Tables = (after s e).tables in
    let seeds = region.seeds.items in
    let whole = coherent s.tables ready.formed.tables in
    let only : OnlyAdds s.tables e = ready.grows.0 is_grown in
    elim ready.exact [
      | inl exact ↦
          let touches = event_touches s e seeds region.room.nodes.items ready.formed ready.fits exact ready.room.region in
          let adds = event_only_adds s seeds ready.formed e ready.fits exact only in
          room_grows s.tables u seeds ready.start.table kept.table region.room is_grown ready.room whole ready.solved.solution adds.all adds.only touches.closed_after
      | inr (no_seeds, stays) ↦ unchanged_grows s.tables u seeds ready.start.table kept.table region.room is_grown no_seeds (coherent u ready.fits.formed.tables) stays ready.room
    ]

can_settle_after : (s : State) (e : Event) (kept : Kept) (region : Region) → IsReadyFor s e kept region → CanSettle (after s e).tables kept region
can_settle_after s e kept region ready =
    let u : Tables = (after s e).tables in
    let adds = event_adds s e region.added ready.fits ready.added in
    record {
      coherent = coherent u ready.fits.formed.tables;
      indexes = indexes_after region.added s.tables u ready.start.indexes kept.indexes adds ready.solved.indexes ready.has_new;
      grants = ready.grants;
      prepared = λ not_grown.
          elim ready.exact [
            | inl exact ↦
                room_prepared s.tables u region.seeds.items ready.start.table kept.table region.room not_grown ready.room ready.solved.solution
                (event_touches s e region.seeds.items region.room.nodes.items ready.formed ready.fits exact ready.room.region)
            | inr (no_seeds, stays) ↦ unchanged s.tables u region.seeds.items ready.start.table kept.table region.room not_grown no_seeds (coherent u ready.fits.formed.tables) stays ready.room
          ];
      to_grow = λ is_grown. grows_by s e kept region ready is_grown;
      fresh = ready.room.fresh;
    }

pub can_settle : (kept : Kept) (region : Region) (u : Tables) → ((s : State) × (e : Event) × IsReadyFor s e kept region × (u ≡ (after s e).tables)) → CanSettle u kept region
can_settle kept region u (s, e, ready, same) = subst (λ (v : Tables). CanSettle v kept region) (sym same) (can_settle_after s e kept region ready)

-- the grants that are asked first
pub first_grants : (u : Tables) (kept : Kept) (region : Region) → CanSettle u kept region → region.room.grows ≡ true → HasGrants u region.seeds.items region.grants.items
first_grants u kept region ready is_grown = subst (λ (b : Bool). HasGrants u (starts_of b region.seeds.items region.room.nodes.items) region.grants.items) is_grown ready.grants

pub all_grants : (u : Tables) (kept : Kept) (region : Region) → CanSettle u kept region → region.room.grows ≡ false → HasGrants u region.room.nodes.items region.grants.items
all_grants u kept region ready not_grown = subst (λ (b : Bool). HasGrants u (starts_of b region.seeds.items region.room.nodes.items) region.grants.items) not_grown ready.grants

-- the grants that the index has for the nodes are those that go to them
pub collected : (u : Tables) (nodes : List Node) (into : Node → List GrantId) (grants : List GrantId) → IsArrivalsOf u into → IsArrivalsAt nodes into grants → HasGrants u nodes grants
collected u nodes into grants arrivals at g = (
  λ c.
      let (there, inside, goes) = (at.exact g).0 c in
      let (grant, is, same) = (arrivals.exact there g).0 goes in
      (grant, is, subst (λ (n : Node). Contains nodes n) (sym same) inside),
  λ (grant, is, inside). (at.exact g).1 (node_of g grant, inside, (arrivals.exact (node_of g grant) g).1 (grant, is, refl)),
)

-- ---- the same facts and the same edges

same_index : (t : Tables) (old new : Node → List GrantId) → HasSameEdges old new → IsIndexOf t old → IsIndexOf t new
same_index t old new same index = record {
  all = λ at g grant is feeds. subst (λ (xs : List GrantId). Contains xs g) (sym (same at)) (index.all at g grant is feeds);
  rows = λ at g c. index.rows at g (subst (λ (xs : List GrantId). Contains xs g) (same at) c);
  once = λ at. subst (λ (xs : List GrantId). AllPairs (λ (a : GrantId) (b : GrantId). a ≢ b) xs) (sym (same at)) (index.once at);
}

same_by : {K : Type 0} (Belongs : K → GrantId → Type 0) (old new : K → List GrantId) → HasSameEdges old new → IsIndexBy Belongs old → IsIndexBy Belongs new
same_by Belongs old new same index = index_same Belongs Belongs old new index same (λ at g. (λ belongs. belongs, λ belongs. belongs))

same_indexes : (t : Tables) (old new : Entries) → HaveSame old new → AreIndexesOf t old → AreIndexesOf t new
same_indexes t old new same are = record {
  edges = same_index t (fed_in old.edges) (fed_in new.edges) same.edges are.edges;
  arrivals = same_by (GoesTo t) (fed_in old.arrivals) (fed_in new.arrivals) same.arrivals are.arrivals;
  ties = same_by (HangsOn t) (tied_in old.ties) (tied_in new.ties) same.ties are.ties;
}

pub same_solved : (t : Tables) (old new : Kept) → HasSameFacts old.table new.table → HaveSame old.indexes new.indexes → IsSolvedFor t old → IsSolvedFor t new
same_solved t old new facts same solved = record {
  solution = same_facts t old.table new.table facts solved.solution;
  indexes = same_indexes t old.indexes new.indexes same solved.indexes;
}
