-- What is left of sound steps is sound.
use Rattle.std.proofs.Common.{◌≡◌, ◌<◌, ◌≤◌, ◌+◌, ◌⊎◌, ◌++◌, ◌∷◌, [], ℕ, zero, suc, Bool, true, false, List, Some, Contains, length, slice_get, get_or, refl, sym, ◌∙◌, ap, subst, inl, inr, arith}
use Rattle.std.proofs.lemmas.Bool.{false≢true}
use Rattle.std.proofs.lemmas.List.{length_push}
use Rattle.std.proofs.lemmas.Option.{get_or_from_slice_get, slice_get-get_or, slice_get_within}
use Rattle.share_graph.specs.declared.facts.Fact.{Fact}
use Rattle.share_graph.specs.declared.facts.Node.{Node}
use Rattle.share_graph.specs.declared.state.Tables.{Tables}
use Rattle.access_report.specs.declared.step.Step.{Step}
use Rattle.access_report.specs.Explaining.{Concludes}
use Rattle.access_report.specs.Pruning.{IsMarked, IsMarkedAt, AreMarks, AreMoved, IsKeptIf, IsPruned}
use Rattle.access_report.specs.Steps.{SaysBefore, Cites, AreSound}
use Rattle.access_report.proofs.SoundSteps.{by_more}
use Rattle.access_report.proofs.Told.{sound_push, pushed_cases, pushed_old, pushed_last}
use Rattle.access_report.proofs.Marked.{marked_within}

-- ---- places as they are moved

abbrev pub MovedBelow : List ℕ → List ℕ → List ℕ → ℕ → Type 0
MovedBelow places from to n = (j k : ℕ) → j < n → slice_get places (get_or from j 0) ≡ Some k → Contains to k

pub moved_next : (places from old new : List ℕ) (n : ℕ) → ((p : ℕ) → Contains old p → Contains new p) → ((k : ℕ) → slice_get places (get_or from n 0) ≡ Some k → Contains new k)
    → MovedBelow places from old n → MovedBelow places from new (n + 1)
moved_next places from old new n keeps here so_far j k less is =
    let sides : (j < n) ⊎ (n ≡ j) = grind arith in
    elim sides [
      | inl earlier ↦ keeps k (so_far j k earlier is)
      | inr last ↦ here k (subst (λ (i : ℕ). slice_get places (get_or from i 0) ≡ Some k) (sym last) is)
    ]

pub moved_all : (places from to : List ℕ) (n : ℕ) → length from ≤ n → MovedBelow places from to n → AreMoved places from to
moved_all places from to n all done p k (j, less, is) there =
    let same : get_or from j 0 ≡ p = get_or_from_slice_get from j p 0 (slice_get-get_or from j p less ∙ ap (λ (i : ℕ). Some i) is) in
    done j k (omega arith) (subst (λ (i : ℕ). slice_get places i ≡ Some k) (sym same) there)

-- ---- a list with one number more

number_cases : (xs : List ℕ) (y k z : ℕ) → slice_get (xs ++ y ∷ []) k ≡ Some z → (slice_get xs k ≡ Some z) ⊎ ((k ≡ length xs) × (y ≡ z))
number_cases [] y zero z is = inr (refl, cc)
number_cases [] y (suc k) z is = cc is
number_cases (x ∷ xs) y zero z is = inl is
number_cases (x ∷ xs) y (suc k) z is = elim (number_cases xs y k z is) [
  | inl there ↦ inl there
  | inr (same, new) ↦ inr (omega arith, new)
]

number_old : (xs : List ℕ) (y k x : ℕ) → slice_get xs k ≡ Some x → slice_get (xs ++ y ∷ []) k ≡ Some x
number_old [] y k x is = cc is
number_old (z ∷ xs) y zero x is = is
number_old (z ∷ xs) y (suc k) x is = number_old xs y k x is

number_last : (xs : List ℕ) (y : ℕ) → slice_get (xs ++ y ∷ []) (length xs) ≡ Some y
number_last [] y = refl
number_last (x ∷ xs) y = number_last xs y

-- what stands before the last stands there before it is added
number_before : (xs : List ℕ) (y k z : ℕ) → k < length xs → slice_get (xs ++ y ∷ []) k ≡ Some z → slice_get xs k ≡ Some z
number_before xs y k z less is = elim (number_cases xs y k z is) [ inl there ↦ there | inr (last, same) ↦ absurd (omega arith) ]

some_step : (xs : List Step) (k : ℕ) → k < length xs → (s : Step) × (slice_get xs k ≡ Some s)
some_step [] k less = absurd (omega arith)
some_step (x ∷ xs) zero less = (x, refl)
some_step (x ∷ xs) (suc k) less = some_step xs k (omega arith)

-- ---- step by step

-- where a step that is marked was moved to, it is said what it says
pub record IsThere (marks : List Bool) (kept : List Step) (places : List ℕ) (k : ℕ) (step : Step) : Type 0 where
  pub to : ℕ
  pub moved : slice_get places k ≡ Some to
  pub says : SaysBefore kept (length kept) to step.node step.fact
  pub names : (p q : ℕ) → p < k → IsMarked marks p → Contains step.from p → slice_get places p ≡ Some q → (q < to) × Contains says.step.from q

-- what is so of the first steps
pub record KeptBelow (steps : List Step) (marks : List Bool) (kept : List Step) (places : List ℕ) (n : ℕ) : Type 0 where
  pub long : length places ≡ n
  pub sound : (t : Tables) → AreSound t steps → AreSound t kept
  pub there : (k : ℕ) (step : Step) → k < n → IsMarked marks k → slice_get steps k ≡ Some step → IsThere marks kept places k step
  pub concludes : (k : ℕ) (step : Step) → k + 1 ≡ n → IsMarked marks k → slice_get steps k ≡ Some step → Concludes kept step.node step.fact
  pub from_marked : (j : ℕ) (s : Step) → slice_get kept j ≡ Some s → (k : ℕ) × (k < n) × IsMarked marks k × (slice_get places k ≡ Some j)
  pub last_place : (k q : ℕ) → k + 1 ≡ n → IsMarked marks k → slice_get places k ≡ Some q → q + 1 ≡ length kept

pub kept_none : (steps : List Step) (marks : List Bool) → KeptBelow steps marks [] [] 0
kept_none steps marks = record {
  long = refl;
  sound = λ t sound i step is. cc is;
  there = λ k step less is here. absurd (omega arith);
  concludes = λ k step next is here. absurd (omega arith);
  from_marked = λ j s is. cc is;
  last_place = λ k q next is there. absurd (omega arith);
}

module _ (steps : List Step) (marks : List Bool) (closed : (i : ℕ) → IsMarkedAt steps marks i) (old : List Step) (places : List ℕ) (n : ℕ) (so_far : KeptBelow steps marks old places n)
    (step : Step) (here : slice_get steps n ≡ Some step) where
  module _ (marked : IsMarked marks n) (to : List ℕ) (moved : AreMoved places step.from to) where
    abbrev new_step : Step
    new_step = record { node = step.node; fact = step.fact; grant = step.grant; from = to }

    cited : (at : Node) (fact : Fact) → Cites steps n step.from at fact → Cites old (length old) to at fact
    cited at fact (p, listed, says) =
        let earlier : p < n = says.earlier in
        let is = so_far.there p says.step earlier (closed n step p marked here listed earlier) says.there in
        let at_node : SaysBefore old (length old) is.to at says.step.fact = subst (λ (m : Node). SaysBefore old (length old) is.to m says.step.fact) says.of_node is.says in
        (is.to, moved p is.to listed is.moved, subst (λ (f : Fact). SaysBefore old (length old) is.to at f) says.of_fact at_node)

    sound_kept : (t : Tables) → AreSound t steps → AreSound t (old ++ new_step ∷ [])
    sound_kept t sound =
        sound_push t old new_step (so_far.sound t sound)
        (by_more t (Cites steps n step.from) (Cites old (length old) to) cited step.grant step.node step.fact (sound n step here))

    new_there : IsThere marks (old ++ new_step ∷ []) (places ++ length old ∷ []) n step
    new_there =
        let long = so_far.long in
        record {
          to = length old;
          moved = subst (λ (k : ℕ). slice_get (places ++ length old ∷ []) k ≡ Some (length old)) long (number_last places (length old));
          says = record {
            earlier = let more = length_push old new_step in omega arith;
            step = new_step;
            there = pushed_last old new_step;
            of_node = refl;
            of_fact = refl;
          };
          names = λ p q less is listed there.
              (let within = slice_get_within steps n step here in
              let known = so_far.there p (get_or steps p step) less is (slice_get-get_or steps p step (omega arith)) in
              let placed : slice_get places p ≡ Some q = number_before places (length old) p q (omega arith) there in
              let known_at = known.moved in
              let same : known.to ≡ q = cc in
              let below : known.to < length old = known.says.earlier in
              (omega arith, moved p q listed placed));
        }

    old_there : (k : ℕ) (other : Step) → k < n → IsThere marks old places k other → IsThere marks (old ++ new_step ∷ []) (places ++ length old ∷ []) k other
    old_there k other early is = record {
      to = is.to;
      moved = number_old places (length old) k is.to is.moved;
      says = record {
        earlier = let early : is.to < length old = is.says.earlier in let more = length_push old new_step in omega arith;
        step = is.says.step;
        there = pushed_old old new_step is.to is.says.step is.says.there;
        of_node = is.says.of_node;
        of_fact = is.says.of_fact;
      };
      names = λ p q less m listed there. (let long = so_far.long in is.names p q less m listed (number_before places (length old) p q (omega arith) there));
    }

    pub kept_one : KeptBelow steps marks (old ++ new_step ∷ []) (places ++ length old ∷ []) (n + 1)
    kept_one = record {
      long = let more = length_push places (length old) in let long = so_far.long in omega arith;
      sound = sound_kept;
      there = λ k other less is there.
          (let sides : (k < n) ⊎ (n ≡ k) = grind arith in
          elim sides [
            | inl earlier ↦ old_there k other earlier (so_far.there k other earlier is there)
            | inr last ↦
                let at_k : slice_get steps k ≡ Some step = subst (λ (i : ℕ). slice_get steps i ≡ Some step) last here in
                let same : step ≡ other = cc in
                subst (λ (i : ℕ). IsThere marks (old ++ new_step ∷ []) (places ++ length old ∷ []) i other) last
                (subst (λ (s : Step). IsThere marks (old ++ new_step ∷ []) (places ++ length old ∷ []) n s) same new_there)
          ]);
      concludes = λ k other next is there.
          (let last : n ≡ k = omega arith in
          let at_k : slice_get steps k ≡ Some step = subst (λ (i : ℕ). slice_get steps i ≡ Some step) last here in
          let same : step ≡ other = cc in
          record {
            place = length old;
            step = new_step;
            there = pushed_last old new_step;
            is_last = let more = length_push old new_step in omega arith;
            of_node = ap (λ (s : Step). s.node) same;
            of_fact = ap (λ (s : Step). s.fact) same;
          });
      from_marked = λ j s is.
          elim (pushed_cases old new_step j s is) [
            | inl there ↦ let (k, less, m, placed) = so_far.from_marked j s there in (k, omega arith, m, number_old places (length old) k j placed)
            | inr (last, same) ↦
                let at_n : slice_get (places ++ length old ∷ []) n ≡ Some (length old) = subst (λ (k : ℕ). slice_get (places ++ length old ∷ []) k ≡ Some (length old)) so_far.long (number_last places (length old)) in
                (n, omega arith, marked, subst (λ (x : ℕ). slice_get (places ++ length old ∷ []) n ≡ Some x) (sym last) at_n)
          ];
      last_place = λ k q next is there.
          (let long = so_far.long in
          let more = length_push old new_step in
          elim (number_cases places (length old) k q there) [
            | inl before ↦ let within = slice_get_within places k q before in absurd (omega arith)
            | inr (at, same) ↦ omega arith
          ]);
    }

  kept_skip : (IsMarked marks n → ⊥) → KeptBelow steps marks old (places ++ length old ∷ []) (n + 1)
  kept_skip unmarked = record {
    long = let more = length_push places (length old) in let long = so_far.long in omega arith;
    sound = so_far.sound;
    there = λ k other less is there.
        (let sides : (k < n) ⊎ (n ≡ k) = grind arith in
        elim sides [
          | inl earlier ↦
              let was = so_far.there k other earlier is there in
              let long = so_far.long in
              record {
                to = was.to;
                moved = number_old places (length old) k was.to was.moved;
                says = was.says;
                names = λ p q less m listed placed. was.names p q less m listed (number_before places (length old) p q (omega arith) placed);
              }
          | inr last ↦ absurd (unmarked (subst (λ (i : ℕ). IsMarked marks i) (sym last) is))
        ]);
    concludes = λ k other next is there. (let last : n ≡ k = omega arith in absurd (unmarked (subst (λ (i : ℕ). IsMarked marks i) (sym last) is)));
    from_marked = λ j s is. (let (k, less, m, placed) = so_far.from_marked j s is in (k, omega arith, m, number_old places (length old) k j placed));
    last_place = λ k q next is there. (let last : n ≡ k = omega arith in absurd (unmarked (subst (λ (i : ℕ). IsMarked marks i) (sym last) is)));
  }

  pub kept_next : (mark : Bool) (new : List Step) → get_or marks n false ≡ mark → IsKeptIf mark places step old new → KeptBelow steps marks new (places ++ length old ∷ []) (n + 1)
  kept_next true new is does =
      let kept = does.kept refl in
      subst (λ (xs : List Step). KeptBelow steps marks xs (places ++ length old ∷ []) (n + 1)) (sym kept.more) (kept_one is kept.to kept.moved)
  kept_next false new is does =
      subst (λ (xs : List Step). KeptBelow steps marks xs (places ++ length old ∷ []) (n + 1)) (sym (does.same refl)) (kept_skip (λ marked. false≢true (sym is ∙ marked)))

pub kept_all : (steps : List Step) (last : ℕ) (marks : List Bool) (kept : List Step) (places : List ℕ) (n : ℕ) → AreMarks steps last marks → length marks ≤ n → n ≤ length marks → KeptBelow steps marks kept places n
    → IsPruned steps last kept
kept_all steps last marks kept places n are all within done = record {
  sound = done.sound;
  concludes = λ step is. done.concludes last step (let long = are.long in omega arith) are.last_marked is;
  needed = λ j short.
      (let (s, at) = some_step kept j (omega arith) in
      let (k, less, m, placed) = done.from_marked j s at in
      let long = are.long in
      elim (are.only k m) [
        | inl is_last ↦ let end = done.last_place k j (omega arith) m placed in absurd (omega arith)
        | inr (i, step, later, marked, there, listed) ↦
            let inside = marked_within marks i marked in
            let is = done.there i step (omega arith) marked there in
            let (below, has) = is.names k j later m listed placed in
            (is.to, is.says.step, below, is.says.there, has)
      ]);
}
