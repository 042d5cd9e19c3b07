-- Facts that are added at a node.
use Rattle.std.proofs.Common.{◌≡◌, ◌≢◌, ◌≤◌, ◌+◌, ◌⊎◌, ◌↔◌, [], Some, None, IsSome, refl, sym, ◌∙◌, ap, subst, inl, inr, arith}
use Rattle.share_graph.specs.declared.facts.Fact.{Fact}
use Rattle.share_graph.specs.declared.facts.Node.{Node}
use Rattle.least_access.specs.declared.held.Held.{Held}
use Rattle.least_access.specs.Held.{IsIn, room}
use Rattle.least_access.specs.Rounds.{total_room}
use Rattle.least_access.specs.Solved.{Table, held_at, HeldAt}
use Rattle.least_access.proofs.Raising.{value_of}
use Rattle.region_work.proofs.Finding.{found_new, found_only, found_room, found_there, less_room}
use Rattle.access_report.specs.Turns.{HasMore, HasMoved, IsGain, IsJoined}

pub has_same : (table : Table) → HasMore table table
has_same table = record { facts = λ at fact h. h; places = λ at h. h }

pub has_then : (old mid new : Table) → HasMore old mid → HasMore mid new → HasMore old new
has_then old mid new first then = record {
  facts = λ at fact h. then.facts at fact (first.facts at fact h);
  places = λ at h. then.places at (first.places at h);
}

gain_none : (table : Table) → IsGain table table None
gain_none table = record { more = has_same table; still = λ is. refl; moved = λ at is. cc is }

module _ (old new : Table) (node : Node) (before gained after : Held) (place : IsSome (held_at old node))
    (was : (fact : Fact) → IsIn before fact ↔ HeldAt old node fact) (one : (held : Held) → held_at old node ≡ Some held → before ≡ held)
    (both : (fact : Fact) → IsIn after fact ↔ (IsIn before fact ⊎ IsIn gained fact)) (most : room after ≤ room before) (level : room after ≡ room before → after ≡ before) where
  -- they were held
  pub joined_none : after ≡ before → IsJoined node gained old old None
  joined_none same = record {
    gain = gain_none old;
    has = λ fact is. (was fact).0 (subst (λ (h : Held). IsIn h fact) same ((both fact).1 (inr is)));
    only = λ at fact h. inl h;
  }

  module _ (apart : after ≢ before) (same : held_at new node ≡ Some after) (others : (other : Node) → other ≢ node → held_at new other ≡ held_at old other)
      (sums : (b : Held) → held_at old node ≡ Some b → total_room new + room b ≡ total_room old + room after) where
    less : room after + 1 ≤ room before
    less = less_room before after most level apart

    more_here : HasMore old new
    more_here =
        let finds = found_new old new [] node gained before after place was one both less same others sums in
        record { facts = finds.kept; places = λ at h. (finds.places at).1 h }

    moved_here : HasMoved node old new
    moved_here = record {
      gain = record { node = node; gained = gained; before = before; after = after };
      at_node = refl;
      moves = record {
        had = let (held, is) = value_of (held_at old node) place in is ∙ ap (λ (h : Held). Some h) (sym (one held is));
        has = same;
        others = others;
        members = both;
        less = less;
      };
      less = let room = found_room old new [] node gained before after place was one both less same others sums in omega arith;
    }

    -- one of them wasn't
    pub joined_some : IsJoined node gained old new (Some node)
    joined_some = record {
      gain = record {
        more = more_here;
        still = λ is. cc is;
        moved = λ at is. (let here : node ≡ at = cc in subst (λ (n : Node). HasMoved n old new) here moved_here);
      };
      has = found_there old new [] node gained before after place was one both less same others sums;
      only = λ at fact h.
          elim (found_only old new [] node gained before after place was one both less same others sums at fact h) [
            | inl earlier ↦ inl earlier
            | inr (here, is) ↦ inr (sym here, is)
          ];
    }
