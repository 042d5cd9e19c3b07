-- The choices that were found are the grains to choose from.
use Rattle.std.proofs.Common.{◌≡◌, ◌∙◌, ◌==◌, ◌++◌, ◌⊎◌, ◌<◌, ◌≤◌, inl, inr, ℕ, zero, suc, Bool, true, false, List, Option, Some, None, Contains, if◌then◌else◌, length, refl, sym, ap, subst, arith}
use Rattle.std.specs.List.{AllPairs, filter_map}
use Rattle.std.specs.Option.{option_flatten, option_map}
use Rattle.std.proofs.lemmas.Bool.{eqb-false, ne_eqb}
use Rattle.std.proofs.lemmas.List.Elements.{Contains-append_left, Contains-append_right, Contains-append_cases}
use Rattle.std.proofs.lemmas.Option.{slice_get_within}
use Rattle.desk_base.specs.Terms.{AccountId, App, Grain, GrainId, Holds, IsAppOf, IsSolutionOf, row, Table, Tables}
use Rattle.least_access.specs.Entered.{AreEntered}
use Rattle.least_access.proofs.Kept.{pairs_kept}
use Rattle.powerbox_match.specs.Descriptor.{DescriptorData}
use Rattle.powerbox_match.specs.Matching.{match_of, some_match, same_quality}
use Rattle.powerbox_match.specs.declared.choices.Choice.{Choice}
use Rattle.powerbox_match.specs.declared.value.Quality.{Quality}
use Rattle.powerbox_match.specs.declared.value.Quality.TheVariants.{Acceptable, Preferred, Unacceptable}
use Rattle.share_graph.specs.declared.facts.Fact.TheVariants.{Open}
use Rattle.share_graph.specs.declared.facts.Node.TheVariants as node
use Rattle.share_graph.proofs.Contained.{contains-filter_map}
use Rattle.share_graph.proofs.Unused.{unfiltered}
use Rattle.saved_refs.specs.Choosing.{grain_of, IsChoice, StandsBefore, AreChoices}
use Rattle.saved_refs.specs.Scan.{with_quality, match_at, match_for, choice_of}
use Rattle.saved_refs.proofs.Members.{pairs_append}

-- a match is preferred or acceptable
match_cases : (a b c : Bool) (q : Quality) → (if a then None else (if b then Some Preferred else (if c then Some Acceptable else None))) ≡ Some q → (q ≡ Preferred) ⊎ (q ≡ Acceptable)
match_cases true b c q is = cc
match_cases false true c q is = inl (let same : Preferred ≡ q = cc in sym same)
match_cases false false true q is = inr (let same : Acceptable ≡ q = cc in sym same)
match_cases false false false q is = cc

quality_is : (one other : Quality) → same_quality one other ≡ true → one ≡ other
quality_is Acceptable Acceptable is = refl
quality_is Preferred Preferred is = refl
quality_is Unacceptable Unacceptable is = refl
quality_is one other is = cc

itself : (q : Quality) → same_quality q q ≡ true
itself Acceptable = refl
itself Preferred = refl
itself Unacceptable = refl

-- what comes of an option, through a second one
module _ {X : Type 0} (how : X → Option Quality) where
  flat : (o : Option X) (q : Quality) → option_flatten (option_map how o) ≡ Some q → (x : X) × (o ≡ Some x) × (how x ≡ Some q)
  flat None q is = cc
  flat (Some x) q is = (x, refl, is)

  flat_back : (o : Option X) (x : X) (q : Quality) → o ≡ Some x → how x ≡ Some q → option_flatten (option_map how o) ≡ Some q
  flat_back o x q there is = ap (λ (p : Option X). option_flatten (option_map how p)) there ∙ is

parts : (own : Bool) (o : Option Quality) (m : ℕ) (c : Choice) → (if own then None else option_map (λ (q : Quality). let made : Choice = record { num = m; quality = q } in made) o) ≡ Some c
    → (own ≡ false) × (o ≡ Some c.quality) × (m ≡ c.num)
parts true o m c is = cc
parts false None m c is = cc
parts false (Some q) m c is =
    let same : (let made : Choice = record { num = m; quality = q } in made) ≡ c = cc in
    (refl, ap (λ (d : Choice). let found : Option Quality = Some d.quality in found) same, ap (λ (d : Choice). d.num) same)

kept_if : (so : Bool) (d c : Choice) → (if so then Some d else None) ≡ Some c → (so ≡ true) × (d ≡ c)
kept_if true d c is = (refl, cc)
kept_if false d c is = cc

-- a number with a row is one of the rows
row_within : {X : Type 0} (rows : List X) (num : ℕ) (x : X) → row rows num ≡ Some x → num ≤ length rows
row_within rows zero x there = cc
row_within rows (suc i) x there = omega (arith, slice_get_within rows i x there)

module _ (t : Tables) (a : AccountId) (n : GrainId) (query : List DescriptorData) (table : Table) (grains : List GrainId) (limit : length t.grains ≤ 16384) (solution : IsSolutionOf t table)
    (entered : AreEntered table a grains) where
  -- the choices that grains are, and those of a quality
  abbrev pub all : List Choice
  all = filter_map (choice_of t query n) grains

  abbrev pub those : Quality → List Choice
  those q = filter_map (with_quality q) all

  chosen : (m : GrainId) (c : Choice) → choice_of t query n m ≡ Some c → ((m.0 == n.0) ≡ false) × (match_for t query m ≡ Some c.quality) × (m.0 ≡ c.num)
  chosen m c is = parts (m.0 == n.0) (match_for t query m) m.0 c is

  is_choice : (c : Choice) → Contains all c → IsChoice t a n query c
  is_choice c there =
      let (m, listed, is) = unfiltered (choice_of t query n) grains c there in
      let (other, matches, num) = chosen m c is in
      let id : m ≡ grain_of c = ap (λ (k : ℕ). let g : GrainId = record { 0 = k } in g) num in
      let (grain, of_grain, at) = flat (λ (g : Grain). match_at t query g.app) (row t.grains m.0) c.quality matches in
      let (app, of_app, how) = flat (λ (p : App). match_of query p.manifest.match_requests) (row t.apps grain.app.0) c.quality at in
      record {
        another = λ own. eqb-false m.0 n.0 other (num ∙ ap (λ (g : GrainId). g.0) own);
        access = subst (λ (g : GrainId). Holds t (node.User g a) Open) id ((solution (node.User m a) Open).0 ((entered.exact m).0 listed).1);
        app = app;
        is_app = subst (λ (g : GrainId). IsAppOf t g app) id (grain, of_grain, of_app);
        matches = how;
      }

  has_choice : (c : Choice) → IsChoice t a n query c → Contains all c
  has_choice c is =
      let (grain, of_grain, of_app) = is.is_app in
      let other = ne_eqb c.num n.0 (λ own. is.another (ap (λ (k : ℕ). let g : GrainId = record { 0 = k } in g) own)) in
      let at : match_for t query (grain_of c) ≡ Some c.quality = flat_back (λ (g : Grain). match_at t query g.app) (row t.grains c.num) grain c.quality of_grain
      (flat_back (λ (p : App). match_of query p.manifest.match_requests) (row t.apps grain.app.0) is.app c.quality of_app is.matches) in
      let within = row_within t.grains c.num grain of_grain in
      contains-filter_map (choice_of t query n) grains (grain_of c) c ((entered.exact (grain_of c)).1 (omega (arith, within, limit), (solution (node.User (grain_of c) a) Open).1 is.access)) (rw (other, at) refl)

  those_is : (q : Quality) (c : Choice) → Contains (those q) c → (c.quality ≡ q) × Contains all c
  those_is q c there =
      let (d, listed, is) = unfiltered (with_quality q) all c there in
      let (so, same) = kept_if (same_quality d.quality q) d c is in
      subst (λ (e : Choice). (e.quality ≡ q) × Contains all e) same (quality_is d.quality q so, listed)

  has_those : (q : Quality) (c : Choice) → c.quality ≡ q → Contains all c → Contains (those q) c
  has_those q c same there = contains-filter_map (with_quality q) all c c there (rw (same, itself q) refl)

  rising : AllPairs (λ (c : Choice) (d : Choice). c.num < d.num) all
  rising = pairs_kept (λ (x : GrainId) (z : GrainId). x.0 < z.0) (λ (c : Choice) (d : Choice). c.num < d.num) (choice_of t query n)
      (λ x z c d is also less.
      let one = (chosen x c is).2 in
      let two = (chosen z d also).2 in
      omega (arith, one, two, less)) grains entered.ascend

  in_order : (q : Quality) → AllPairs StandsBefore (those q)
  in_order q = pairs_kept (λ (c : Choice) (d : Choice). c.num < d.num) StandsBefore (with_quality q)
      (λ x z c d is also less.
      let (so, one) = kept_if (same_quality x.quality q) x c is in
      let (too, two) = kept_if (same_quality z.quality q) z d also in
      let first = quality_is x.quality q so in
      let second = quality_is z.quality q too in
      rw (← one, ← two) (inr (first ∙ sym second, less))) all rising

  -- preferred ones first they are the grains to choose from
  pub are_choices : AreChoices t a n query (those Preferred ++ those Acceptable)
  are_choices = record {
    in_order = pairs_append StandsBefore (those Preferred) (those Acceptable) (in_order Preferred) (in_order Acceptable)
        (λ c d one other. inl ((those_is Preferred c one).0, (those_is Acceptable d other).0));
    exact = λ c. (
      λ there. elim (Contains-append_cases (those Preferred) (those Acceptable) c there) [
        | inl one ↦ is_choice c (those_is Preferred c one).1
        | inr other ↦ is_choice c (those_is Acceptable c other).1
      ],
      λ is. elim (match_cases (some_match Unacceptable query is.app.manifest.match_requests) (some_match Preferred query is.app.manifest.match_requests) (some_match Acceptable query is.app.manifest.match_requests) c.quality is.matches) [
        | inl preferred ↦ Contains-append_left (those Preferred) (those Acceptable) c (has_those Preferred c preferred (has_choice c is))
        | inr acceptable ↦ Contains-append_right (those Preferred) (those Acceptable) c (has_those Acceptable c acceptable (has_choice c is))
      ],
    );
  }
