-- What is told before any turn of a grant.
use Rattle.std.proofs.Common.{◌≡◌, ◌<◌, ◌≤◌, ◌+◌, ◌⊎◌, ◌↔◌, ◌∷◌, ◌++◌, [], ℕ, List, Option, Some, None, Contains, length, take, get_or, refl, sym, subst, inl, inr}
use Rattle.std.proofs.lemmas.List.{take_more, take_all}
use Rattle.std.proofs.lemmas.List.Elements.{Contains-append_left, Contains-push, Contains-push_cases}
use Rattle.std.specs.Global.{Vec}
use Rattle.host_base.specs.declared.ids.GrantId.{GrantId}
use Rattle.share_graph.specs.declared.facts.Fact.{Fact}
use Rattle.share_graph.specs.declared.facts.Node.{Node}
use Rattle.share_graph.specs.declared.grants.Grant.{Grant}
use Rattle.share_graph.specs.declared.state.Tables.{Tables}
use Rattle.share_graph.specs.Nodes.{node_of, source_of}
use Rattle.share_graph.specs.Rows.{IsGrant}
use Rattle.share_graph.proofs.Contained.{only}
use Rattle.least_access.specs.declared.held.Held.{Held}
use Rattle.least_access.specs.Held.{IsIn}
use Rattle.least_access.specs.Solved.{Table, HeldAt}
use Rattle.least_access.proofs.Following.{follows_source}
use Rattle.region_work.specs.Emptying.{IsEmptyAt}
use Rattle.region_work.specs.Fed.{fed_in}
use Rattle.region_work.proofs.Sums.{contains_none}
use Rattle.access_report.specs.declared.step.Step.{Step}
use Rattle.access_report.specs.Steps.{IsOwned, AreSound}
use Rattle.access_report.specs.Telling.{IsSaid, SayMore, IsTold}
use Rattle.access_report.specs.Turns.{AreBegun, IsClosedBut, IsJoined}
use Rattle.access_report.specs.Waiting.{AddsSite, AddsSites, AreWoken, IsQueued}
use Rattle.access_report.proofs.Joined.{has_same, has_then}
use Rattle.access_report.proofs.Spread.{closed_gain}

-- ---- grants that have no source

pub site_none : (t : Tables) (g : GrantId) (grant : Grant) (from : Node) (waiting : List GrantId) → IsGrant t g grant → source_of grant ≡ Some from → AddsSite t g waiting waiting
site_none t g grant from waiting row some = record {
  there = λ other is none. (let one : other ≡ grant = cc in let same = subst (λ (x : Grant). source_of x ≡ None) one none in cc);
  keeps = λ h c. c;
  only = λ h c. inl c;
}

pub site_one : (t : Tables) (g : GrantId) (old new : List GrantId) → IsQueued g old new → AddsSite t g old new
site_one t g old new queued = record { there = λ grant is none. queued.there; keeps = queued.keeps; only = queued.only }

pub sites_none : (t : Tables) (gs waiting : List GrantId) → AddsSites t (take 0 gs) waiting waiting
sites_none t gs waiting = record { there = λ g grant c is none. absurd (contains_none g c); keeps = λ h c. c; only = λ h c. inl c }

pub sites_next : (t : Tables) (gs old mid new : List GrantId) (n : ℕ) (d : GrantId) → n < length gs → AddsSites t (take n gs) old mid → AddsSite t (get_or gs n d) mid new → AddsSites t (take (n + 1) gs) old new
sites_next t gs old mid new n d within so_far one =
    subst (λ (xs : List GrantId). AddsSites t xs old new) (sym (take_more gs n d within)) (record {
      there = λ g grant c is none.
          elim (Contains-push_cases (take n gs) (get_or gs n d) g c) [
            | inl earlier ↦ one.keeps g (so_far.there g grant earlier is none)
            | inr here ↦ subst (λ (k : GrantId). Contains new k) here (one.there grant (subst (λ (k : GrantId). IsGrant t k grant) (sym here) is) none)
          ];
      keeps = λ h c. one.keeps h (so_far.keeps h c);
      only = λ h c.
          elim (one.only h c) [
            | inl before ↦
                elim (so_far.only h before) [
                  | inl first ↦ inl first
                  | inr earlier ↦ inr (Contains-append_left (take n gs) (get_or gs n d ∷ []) h earlier)
                ]
            | inr here ↦ inr (subst (λ (k : GrantId). Contains (take n gs ++ get_or gs n d ∷ []) k) here (Contains-push (take n gs) (get_or gs n d)))
          ];
    })

pub sites_all : (t : Tables) (gs old new : List GrantId) (n : ℕ) → length gs ≤ n → AddsSites t (take n gs) old new → AddsSites t gs old new
sites_all t gs old new n all done = subst (λ (xs : List GrantId). AddsSites t xs old new) (take_all n gs all) done

-- where nothing is held, nothing follows by the others
pub closed_start : (t : Tables) (nodes : List Node) (grants old waiting : List GrantId) (table : Table) → IsEmptyAt nodes table → AddsSites t grants old waiting → IsClosedBut t grants waiting table
closed_start t nodes grants old waiting table empty sites h grant fact listed row f = by_source (source_of grant) refl
  where
    by_source : (o : Option Node) → source_of grant ≡ o → HeldAt table (node_of h grant) fact ⊎ Contains waiting h
    by_source None is = inr (sites.there h grant listed row is)
    by_source (Some from) is = absurd (empty.nothing from fact (follows_source t (HeldAt table) h grant from (node_of h grant) fact is f).2)

-- ---- what owners hold

pub begun_one : (t : Tables) (entries : List (Node × Vec GrantId)) (node : Node) (held : Held) (old new : Table) (gained : Option Node) (waiting later : List GrantId) → IsJoined node held old new gained
    → ((fact : Fact) → IsIn held fact ↔ IsOwned t node fact) → AreWoken entries gained waiting later → AreBegun t entries (node ∷ []) old waiting new later
begun_one t entries node held old new gained waiting later joined exact woken = record {
  more = joined.gain.more;
  owned = λ at fact listed is.
      (let here : node ≡ at = only node at listed in
      subst (λ (n : Node). HeldAt new n fact) here (joined.has fact ((exact fact).1 (subst (λ (n : Node). IsOwned t n fact) (sym here) is))));
  closed = λ grants index closed. closed_gain t grants (fed_in entries) index old new gained joined.gain waiting later woken.keeps woken.there closed;
  only = woken.only;
}

pub begun_none : (t : Tables) (entries : List (Node × Vec GrantId)) (nodes : List Node) (table : Table) (waiting : List GrantId) → AreBegun t entries (take 0 nodes) table waiting table waiting
begun_none t entries nodes table waiting = record {
  more = has_same table;
  owned = λ at fact listed is. absurd (contains_none at listed);
  closed = λ grants index closed. closed;
  only = λ h c. inl c;
}

pub begun_next : (t : Tables) (entries : List (Node × Vec GrantId)) (nodes : List Node) (old mid new : Table) (waiting later last : List GrantId) (n : ℕ) (d : Node) → n < length nodes
    → AreBegun t entries (take n nodes) old waiting mid later → AreBegun t entries (get_or nodes n d ∷ []) mid later new last → AreBegun t entries (take (n + 1) nodes) old waiting new last
begun_next t entries nodes old mid new waiting later last n d within so_far one =
    subst (λ (xs : List Node). AreBegun t entries xs old waiting new last) (sym (take_more nodes n d within)) (record {
      more = has_then old mid new so_far.more one.more;
      owned = λ at fact listed is.
          elim (Contains-push_cases (take n nodes) (get_or nodes n d) at listed) [
            | inl earlier ↦ one.more.facts at fact (so_far.owned at fact earlier is)
            | inr here ↦ one.owned at fact (subst (λ (m : Node). Contains (get_or nodes n d ∷ []) m) here (Contains-push [] (get_or nodes n d))) is
          ];
      closed = λ grants index closed. one.closed grants index (so_far.closed grants index closed);
      only = λ h c. elim (one.only h c) [ inl before ↦ so_far.only h before | inr fed ↦ inr fed ];
    })

pub begun_all : (t : Tables) (entries : List (Node × Vec GrantId)) (nodes : List Node) (old new : Table) (waiting later : List GrantId) (n : ℕ) → length nodes ≤ n
    → AreBegun t entries (take n nodes) old waiting new later → AreBegun t entries nodes old waiting new later
begun_all t entries nodes old new waiting later n all done = subst (λ (xs : List Node). AreBegun t entries xs old waiting new later) (take_all n nodes all) done

-- ---- what was added is told

pub told_joined : (t : Tables) (first then : List Step) (old new : Table) (node : Node) (held : Held) (gained : Option Node) → IsJoined node held old new gained → SayMore first then → AreSound t then
    → ((fact : Fact) → IsIn held fact → HeldAt old node fact ⊎ IsSaid then node fact) → IsTold t first old → IsTold t then new
told_joined t first then old new node held gained joined more sound told so_far = record {
  sound = sound;
  said = λ at fact h.
      elim (joined.only at fact h) [
        | inl earlier ↦ more at fact (so_far.said at fact earlier)
        | inr (here, fresh) ↦
            subst (λ (n : Node). IsSaid then n fact) here
            (elim (told fact fresh) [
              | inl before ↦ more node fact (so_far.said node fact before)
              | inr said ↦ said
            ])
      ];
}
