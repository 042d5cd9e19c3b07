-- Where ways lead, as rows are covered, added and changed.
use Rattle.std.proofs.Common.{◌≡◌, ◌<◌, ◌≤◌, ◌||◌, ◌++◌, [], ◌∷◌, ℕ, zero, suc, Bool, true, nat_eq, List, Some, None, is_some, length, slice_get, slice_index_or, slice_set, length-append, map, option_map, refl, sym, ap, ◌∙◌, subst, arith}
use Rattle.std.proofs.lemmas.List.{map-append}
use Rattle.std.proofs.lemmas.Option.{slice_get-map, slice_get_read}
use Rattle.std.specs.HashMap.{get}
use Rattle.row_index.specs.declared.ways.Link.{Link}
use Rattle.row_index.specs.declared.ways.Ways.{Ways}
use Rattle.row_index.proofs.Indexed.{get_left}
use Rattle.row_index.specs.Ways.{AreWaysOf, Leads, ends, goes}

get_more : (links more : List Link) (place : ℕ) (link : Link) → slice_get links place ≡ Some link → slice_get (links ++ more) place ≡ Some link
get_more [] more place link there = cc
get_more (x ∷ links) more zero link there = there
get_more (x ∷ links) more (suc place) link there = get_more links more place link there

-- the link of a row that is read
pub link_there : {X : Type 0} (link_of : X → Link) (rows : List X) (place : ℕ) (row : X) (link : Link) → place < length rows → row ≡ slice_index_or rows place row → link ≡ link_of row
    → slice_get (map link_of rows) place ≡ Some link
link_there link_of rows place row link within read is =
    slice_get-map link_of rows place ∙ ap (option_map link_of) (slice_get_read rows (length rows) place row refl within read) ∙ ap (λ x. Some x) (sym is)

-- a row that stands under none is its way's last
pub ends_at : (links : List Link) (num place : ℕ) (link : Link) → num ≡ suc place → slice_get links place ≡ Some link → link.parent ≡ None → Leads links num num link.flagged
ends_at links num place link is there none = subst (λ n. Leads links n n link.flagged) (sym is) (ends there none)

-- the way of one that stands under another goes on by that one's
pub goes_on : (links : List Link) (place parent root : ℕ) (link : Link) (more flagged : Bool) → slice_get links place ≡ Some link → link.parent ≡ Some parent → parent ≤ place
    → Leads links parent root more → flagged ≡ (link.flagged || more) → Leads links (suc place) root flagged
goes_on links place parent root link more flagged there under earlier leads is = subst (λ b. Leads links (suc place) root b) (sym is) (goes there under earlier leads)

pub is_known : (links : List Link) (ways : Ways) → AreWaysOf links ways → (num place parent root : ℕ) (link : Link) (flagged : Bool) → num ≡ suc place → slice_get links place ≡ Some link
    → link.parent ≡ Some parent → num ≤ ways.covered → Leads links num root flagged → is_some (get nat_eq ways.ends num) ≡ true
is_known links ways are num place parent root link flagged is there under covered leads =
    subst (λ n. is_some (get nat_eq ways.ends n) ≡ true) (sym is)
    (are.known place root parent link flagged (omega (arith, covered, is)) there under (subst (λ n. Leads links n root flagged) is leads))

pub no_ways : (links : List Link) (ways : Ways) → ways.covered ≡ 0 → ((n : ℕ) → get nat_eq ways.ends n ≡ None) → AreWaysOf links ways
no_ways links ways none empty = record {
  within = omega (arith, none);
  so = λ n way is. (let odd : None ≡ Some way = sym (empty n) ∙ is in absurd (cc));
  known = λ place root parent link flagged below there under leads. absurd (omega (arith, below, none));
}

-- links that are added behind don't change where the first ones lead
leads_more : (links more : List Link) (n root : ℕ) (flagged : Bool) → Leads links n root flagged → Leads (links ++ more) n root flagged
leads_more links more n root flagged (ends {place = place} {link = link} there none) = ends (get_more links more place link there) none
leads_more links more n root flagged (goes {place = place} {parent = parent} {root = last} {link = link} {flagged = later} there under earlier on) =
    goes (get_more links more place link there) under earlier (leads_more links more parent last later on)

leads_fewer : (links more : List Link) (n root : ℕ) (flagged : Bool) → n ≤ length links → Leads (links ++ more) n root flagged → Leads links n root flagged
leads_fewer links more n root flagged within (ends {place = place} {link = link} there none) = ends (get_left links more place link within there) none
leads_fewer links more n root flagged within (goes {place = place} {parent = parent} {root = last} {link = link} {flagged = later} there under earlier on) =
    goes (get_left links more place link within there) under earlier (leads_fewer links more parent last later (omega (arith, within, earlier)) on)

ways_stay_for : (links more : List Link) (ways : Ways) → AreWaysOf links ways → AreWaysOf (links ++ more) ways
ways_stay_for links more ways are = record {
  within = omega (arith, are.within, length-append links more);
  so = λ n way is. leads_more links more n way.root way.flagged (are.so n way is);
  known = λ place root parent link flagged below there under leads.
      (let inside : suc place ≤ length links = omega (arith, below, are.within) in
      are.known place root parent link flagged below (get_left links more place link inside there) under (leads_fewer links more (suc place) root flagged inside leads));
}

module _ {X : Type 0} (link_of : X → Link) where
  pub ways_stay : (rows more : List X) (ways : Ways) → AreWaysOf (map link_of rows) ways → AreWaysOf (map link_of (rows ++ more)) ways
  ways_stay rows more ways are = subst (λ links. AreWaysOf links ways) (sym (map-append link_of rows more)) (ways_stay_for (map link_of rows) (map link_of more) ways are)

  -- a row is changed so that it stands where it stood
  same_links : (f : X → X) (rows : List X) (i : ℕ) (row : X) → link_of (f row) ≡ link_of row → i < length rows → row ≡ slice_index_or rows i row
      → map link_of (slice_set rows i (f row)) ≡ map link_of rows
  same_links f [] i row same inside read = refl
  same_links f (x ∷ rows) zero row same inside read = ap (λ link. link ∷ map link_of rows) (same ∙ ap link_of read)
  same_links f (x ∷ rows) (suc i) row same inside read = ap (λ links. link_of x ∷ links) (same_links f rows i row same (omega (arith, inside)) read)

  pub ways_keep : (f : X → X) (rows : List X) (ways : Ways) (i : ℕ) (row : X) → link_of (f row) ≡ link_of row → i < length rows → row ≡ slice_index_or rows i row
      → AreWaysOf (map link_of rows) ways → AreWaysOf (map link_of (slice_set rows i (f row))) ways
  ways_keep f rows ways i row same inside read are = subst (λ links. AreWaysOf links ways) (sym (same_links f rows i row same inside read)) are
