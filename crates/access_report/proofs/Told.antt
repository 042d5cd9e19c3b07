-- Steps that are added to sound ones.
use Rattle.std.proofs.Common.{◌≡◌, ◌<◌, ◌≤◌, ◌+◌, ◌⊎◌, ℕ, zero, suc, List, [], ◌∷◌, ◌++◌, Option, Some, None, MatchOption, length, slice_get, refl, sym, subst, inl, inr, arith}
use Rattle.std.proofs.lemmas.List.{length_push}
use Rattle.host_base.specs.declared.ids.GrantId.{GrantId}
use Rattle.perm_roles.specs.PermSet.{Has}
use Rattle.perm_roles.proofs.Sets.{always_within}
use Rattle.share_graph.specs.declared.facts.Fact.{Fact}
use Rattle.share_graph.specs.declared.facts.Fact.TheVariants.{Open, Perm}
use Rattle.share_graph.specs.declared.facts.Node.{Node}
use Rattle.share_graph.specs.declared.facts.Node.TheVariants as node
use Rattle.share_graph.specs.declared.grants.Grant.{Grant}
use Rattle.share_graph.specs.declared.state.Tables.{Tables}
use Rattle.share_graph.specs.Derivation.{LetsThrough, IsOpenSite, Follows}
use Rattle.share_graph.specs.Nodes.{node_of, source_of}
use Rattle.share_graph.proofs.Least.{follows_more}
use Rattle.least_access.specs.declared.held.Held.{Held}
use Rattle.least_access.specs.Held.{IsIn}
use Rattle.access_report.specs.declared.step.Step.{Step}
use Rattle.access_report.specs.Steps.{SaysBefore, Cites, IsLawful, AreSound}
use Rattle.access_report.specs.Telling.{IsSaid, SayMore, CitesAll, Follow, IsToldBy, TellsMore, OwnsMore}
use Rattle.access_report.proofs.SoundSteps.{by_more}

-- ---- one step more

pub pushed_cases : (xs : List Step) (y : Step) (k : ℕ) (z : Step) → slice_get (xs ++ y ∷ []) k ≡ Some z → (slice_get xs k ≡ Some z) ⊎ ((k ≡ length xs) × (y ≡ z))
pushed_cases [] y zero z is = inr (refl, cc)
pushed_cases [] y (suc k) z is = cc is
pushed_cases (x ∷ xs) y zero z is = inl is
pushed_cases (x ∷ xs) y (suc k) z is = elim (pushed_cases xs y k z is) [
  | inl there ↦ inl there
  | inr (same, new) ↦ inr (omega arith, new)
]

pub pushed_old : (xs : List Step) (y : Step) (k : ℕ) (x : Step) → slice_get xs k ≡ Some x → slice_get (xs ++ y ∷ []) k ≡ Some x
pushed_old [] y k x is = cc is
pushed_old (z ∷ xs) y zero x is = is
pushed_old (z ∷ xs) y (suc k) x is = pushed_old xs y k x is

pub pushed_last : (xs : List Step) (y : Step) → slice_get (xs ++ y ∷ []) (length xs) ≡ Some y
pushed_last [] y = refl
pushed_last (x ∷ xs) y = pushed_last xs y

-- what a step before a place says, it says in a longer list, before a later place
pub says_longer : (steps : List Step) (s : Step) (n m place : ℕ) (at : Node) (fact : Fact) → n ≤ m → SaysBefore steps n place at fact → SaysBefore (steps ++ s ∷ []) m place at fact
says_longer steps s n m place at fact le says = record {
  earlier = let early : place < n = says.earlier in omega arith;
  step = says.step;
  there = pushed_old steps s place says.step says.there;
  of_node = says.of_node;
  of_fact = says.of_fact;
}

cites_longer : (steps : List Step) (s : Step) (n : ℕ) (from : List ℕ) (at : Node) (fact : Fact) → Cites steps n from at fact → Cites (steps ++ s ∷ []) n from at fact
cites_longer steps s n from at fact (place, listed, says) = (place, listed, says_longer steps s n n place at fact (omega arith) says)

lawful_longer : (t : Tables) (steps : List Step) (s : Step) (n : ℕ) (step : Step) → IsLawful t (Cites steps n step.from) step → IsLawful t (Cites (steps ++ s ∷ []) n step.from) step
lawful_longer t steps s n step lawful = by_more t (Cites steps n step.from) (Cites (steps ++ s ∷ []) n step.from) (cites_longer steps s n step.from) step.grant step.node step.fact lawful

-- sound steps and one that is lawful by them are sound
pub sound_push : (t : Tables) (steps : List Step) (s : Step) → AreSound t steps → IsLawful t (Cites steps (length steps) s.from) s → AreSound t (steps ++ s ∷ [])
sound_push t steps s sound lawful i step is =
    elim (pushed_cases steps s i step is) [
      | inl there ↦ lawful_longer t steps s i step (sound i step there)
      | inr (last, same) ↦
          subst (λ (k : ℕ). IsLawful t (Cites (steps ++ s ∷ []) k step.from) step) (sym last)
          (subst (λ (x : Step). IsLawful t (Cites (steps ++ s ∷ []) (length steps) x.from) x) same (lawful_longer t steps s (length steps) s lawful))
    ]

pub said_push : (steps : List Step) (s : Step) → SayMore steps (steps ++ s ∷ [])
said_push steps s at fact (place, says) = (place, says_longer steps s (length steps) (length (steps ++ s ∷ [])) place at fact (let more = length_push steps s in omega arith) says)

-- and it says what it says
pub said_last : (steps : List Step) (s : Step) → IsSaid (steps ++ s ∷ []) s.node s.fact
said_last steps s = (
  length steps,
  record {
    earlier = let more = length_push steps s in omega arith;
    step = s;
    there = pushed_last steps s;
    of_node = refl;
    of_fact = refl;
  },
)

-- ---- a step by a grant

-- what follows from what is said follows from what is cited
module _ (t : Tables) (steps : List Step) (g : GrantId) (grant : Grant) (fact : Fact) (from : List ℕ) (all : CitesAll steps grant fact from) where
  source_cited : (at : Node) (o : Option Node) → source_of grant ≡ o
      → MatchOption o (IsOpenSite t g grant × (at ≡ node.Grant g) × (fact ≡ Open)) (λ source. LetsThrough t g grant fact × (at ≡ node_of g grant) × IsSaid steps source fact)
      → MatchOption o (IsOpenSite t g grant × (at ≡ node.Grant g) × (fact ≡ Open)) (λ source. LetsThrough t g grant fact × (at ≡ node_of g grant) × Cites steps (length steps) from source fact)
  source_cited at None is s = s
  source_cited at (Some source) is s = (s.0, s.1, all.source source is s.2)

  pub follows_cited : (at : Node) → Follows t (IsSaid steps) g grant at fact → Follows t (Cites steps (length steps) from) g grant at fact
  follows_cited at f = record {
    met = λ q c. ((f.met q c).0, λ n asked a. all.needs q c n asked a ((f.met q c).1 n asked a));
    source = source_cited at (source_of grant) refl f.source;
  }

follow_more : (t : Tables) (old new : List Step) → SayMore old new → (g : GrantId) (grant : Grant) (passed : Held) → Follow t old g grant passed → Follow t new g grant passed
follow_more t old new more g grant passed follow fact is = follows_more t (IsSaid old) (IsSaid new) more g grant (node_of g grant) fact (follow fact is)

pub tells_nothing : (g : GrantId) (grant : Grant) (passed : Held) (steps : List Step) → TellsMore g grant passed steps steps
tells_nothing g grant passed steps = record { more = λ at fact said. said; sound = λ t sound follow. sound }

pub tells_then : (g : GrantId) (grant : Grant) (passed : Held) (old mid new : List Step) → TellsMore g grant passed old mid → TellsMore g grant passed mid new → TellsMore g grant passed old new
tells_then g grant passed old mid new first then = record {
  more = λ at fact said. then.more at fact (first.more at fact said);
  sound = λ t sound follow. then.sound t (first.sound t sound follow) (follow_more t old mid first.more g grant passed follow);
}

module _ (g : GrantId) (grant : Grant) (passed : Held) (fact : Fact) (old new : List Step) (by : IsToldBy g grant fact old new) where
  abbrev told_step : Step
  told_step = record { node = node_of g grant; fact = fact; grant = Some g; from = by.from }

  pub tells_one : IsIn passed fact → TellsMore g grant passed old new
  tells_one is = subst (λ (steps : List Step). TellsMore g grant passed old steps) (sym by.more) (record {
    more = said_push old told_step;
    sound = λ t sound follow. sound_push t old told_step sound (grant, follows_cited t old g grant fact by.from by.cites (node_of g grant) (follow fact is));
  })

  pub told_one : IsSaid new (node_of g grant) fact
  told_one = subst (λ (steps : List Step). IsSaid steps (node_of g grant) fact) (sym by.more) (said_last old told_step)

-- ---- a step of an owner

pub owns_nothing : (at : Node) (held : Held) (steps : List Step) → OwnsMore at held steps steps
owns_nothing at held steps = record { more = λ other fact said. said; sound = λ t sound owned. sound }

pub owns_then : (at : Node) (held : Held) (old mid new : List Step) → OwnsMore at held old mid → OwnsMore at held mid new → OwnsMore at held old new
owns_then at held old mid new first then = record {
  more = λ other fact said. then.more other fact (first.more other fact said);
  sound = λ t sound owned. then.sound t (first.sound t sound owned) owned;
}

pub owns_one : (at : Node) (held : Held) (fact : Fact) (old : List Step) (s : Step) → s.node ≡ at → s.fact ≡ fact → s.grant ≡ None → IsIn held fact → OwnsMore at held old (old ++ s ∷ [])
owns_one at held fact old s of_node of_fact by is = record {
  more = said_push old s;
  sound = λ t sound owned. sound_push t old s sound (rw (by, of_node, of_fact) (owned fact is));
}

-- ---- each fact of a set

-- what is told of entry and of each position is told of each fact
pub each_fact : (P : Fact → Type 0) (held : Held) → (IsIn held Open → P Open) → ((p : ℕ) → p < 64 → Has held.perms p → P (Perm p)) → (fact : Fact) → IsIn held fact → P fact
each_fact P held entry each Open is = entry is
each_fact P held entry each (Perm p) is = each p (always_within held.perms p is) is

-- what is so once entry and the first positions were looked at
pub record PassedBelow (g : GrantId) (grant : Grant) (passed before : Held) (old new : List Step) (n : ℕ) : Type 0 where
  pub adds : TellsMore g grant passed old new
  pub entry : IsIn passed Open → IsIn before Open ⊎ IsSaid new (node_of g grant) Open
  pub each : (p : ℕ) → p < n → Has passed.perms p → IsIn before (Perm p) ⊎ IsSaid new (node_of g grant) (Perm p)

later : (old new : List Step) (before : Held) (at : Node) (fact : Fact) → SayMore old new → IsIn before fact ⊎ IsSaid old at fact → IsIn before fact ⊎ IsSaid new at fact
later old new before at fact more (inl held) = inl held
later old new before at fact more (inr said) = inr (more at fact said)

pub passed_none : (g : GrantId) (grant : Grant) (passed before : Held) (old new : List Step) → TellsMore g grant passed old new
    → (IsIn passed Open → IsIn before Open ⊎ IsSaid new (node_of g grant) Open) → PassedBelow g grant passed before old new 0
passed_none g grant passed before old new adds told = record { adds = adds; entry = told; each = λ p less has. absurd (omega arith) }

pub passed_pos : (g : GrantId) (grant : Grant) (passed before : Held) (old mid new : List Step) (n : ℕ) → TellsMore g grant passed mid new
    → (IsIn passed (Perm n) → IsIn before (Perm n) ⊎ IsSaid new (node_of g grant) (Perm n)) → PassedBelow g grant passed before old mid n → PassedBelow g grant passed before old new (n + 1)
passed_pos g grant passed before old mid new n adds told so_far = record {
  adds = tells_then g grant passed old mid new so_far.adds adds;
  entry = λ is. later mid new before (node_of g grant) Open adds.more (so_far.entry is);
  each = λ p less has.
      (let sides : (p < n) ⊎ (n ≡ p) = grind arith in
      elim sides [
        | inl earlier ↦ later mid new before (node_of g grant) (Perm p) adds.more (so_far.each p earlier has)
        | inr last ↦ subst (λ (k : ℕ). IsIn before (Perm k) ⊎ IsSaid new (node_of g grant) (Perm k)) last (told (subst (λ (k : ℕ). Has passed.perms k) (sym last) has))
      ]);
}

pub passed_all : (g : GrantId) (grant : Grant) (passed before : Held) (old new : List Step) (n : ℕ) → 64 ≤ n → PassedBelow g grant passed before old new n
    → (fact : Fact) → IsIn passed fact → IsIn before fact ⊎ IsSaid new (node_of g grant) fact
passed_all g grant passed before old new n all done =
    each_fact (λ (fact : Fact). IsIn before fact ⊎ IsSaid new (node_of g grant) fact) passed done.entry (λ p less has. done.each p (omega arith) has)

pub record OwnedBelow (at : Node) (held : Held) (old new : List Step) (n : ℕ) : Type 0 where
  pub adds : OwnsMore at held old new
  pub entry : IsIn held Open → IsSaid new at Open
  pub each : (p : ℕ) → p < n → Has held.perms p → IsSaid new at (Perm p)

pub owned_none : (at : Node) (held : Held) (old new : List Step) → OwnsMore at held old new → (IsIn held Open → IsSaid new at Open) → OwnedBelow at held old new 0
owned_none at held old new adds told = record { adds = adds; entry = told; each = λ p less has. absurd (omega arith) }

pub owned_pos : (at : Node) (held : Held) (old mid new : List Step) (n : ℕ) → OwnsMore at held mid new → (IsIn held (Perm n) → IsSaid new at (Perm n))
    → OwnedBelow at held old mid n → OwnedBelow at held old new (n + 1)
owned_pos at held old mid new n adds told so_far = record {
  adds = owns_then at held old mid new so_far.adds adds;
  entry = λ is. adds.more at Open (so_far.entry is);
  each = λ p less has.
      (let sides : (p < n) ⊎ (n ≡ p) = grind arith in
      elim sides [
        | inl earlier ↦ adds.more at (Perm p) (so_far.each p earlier has)
        | inr last ↦ subst (λ (k : ℕ). IsSaid new at (Perm k)) last (told (subst (λ (k : ℕ). Has held.perms k) (sym last) has))
      ]);
}

pub owned_all : (at : Node) (held : Held) (old new : List Step) (n : ℕ) → 64 ≤ n → OwnedBelow at held old new n → (fact : Fact) → IsIn held fact → IsSaid new at fact
owned_all at held old new n all done = each_fact (λ (fact : Fact). IsSaid new at fact) held done.entry (λ p less has. done.each p (omega arith) has)
