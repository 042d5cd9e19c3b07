-- What was taken of a tunnel's messages and put, one after another.
use Rattle.std.proofs.Common.{◌≡◌, ℕ, ◌<◌, ◌≤◌, ◌++◌, List, [], ◌∷◌, Option, Some, None, drop, slice_get, refl, sym, ◌∙◌, ap, subst, arith, append_assoc, append-nil, inl, inr}
use Rattle.std.proofs.lemmas.Bool.{cases_lt}
use Rattle.host_base.specs.Outside.{Rose}
use Rattle.ws_tunnel.specs.Hall.{Hall, GivesNext}
use Rattle.ws_tunnel.specs.declared.message.Message.{Message}
use Rattle.tunnel_serve.specs.declared.tunnel_end.HallEnd.{HallEnd}
use Rattle.tunnel_serve.specs.declared.tunnel_end.HallEnd.TheVariants as end
use Rattle.tunnel_serve.specs.Tunnels.{CauseAt, LeftAt, Moved}

pub moved_trans : (a b c : Hall) (ts ts' ps ps' : List Message) → Moved a b ts ps → Moved b c ts' ps' → Moved a c (ts ++ ts') (ps ++ ps')
moved_trans a b c ts ts' ps ps' f h = record {
  left = λ list is.
      let one = f.left list is in
      let two = h.left one.0 one.2 in
      (two.0, one.1 ∙ (ap (λ (rest : List Message). ts ++ rest) two.1 ∙ sym (append_assoc ts ts' two.0)), two.2);
  put = λ list is. h.put (list ++ ps) (f.put list is) ∙ ap Some (append_assoc list ps ps');
  whole = h.whole ∙ f.whole;
  counts = omega (arith, f.counts, h.counts);
}

-- nothing was taken and nothing put
pub moved_none : (old new : Hall) → new.left ≡ old.left → new.put ≡ old.put → new.whole ≡ old.whole → old.faults ≤ new.faults → Moved old new [] []
moved_none old new left put whole counts = record {
  left = λ list is. (list, refl, left ∙ is);
  put = λ list is. put ∙ (is ∙ ap Some (sym (append-nil list)));
  whole = whole;
  counts = counts;
}

pub moved_refl : (hall : Hall) → Moved hall hall [] []
moved_refl hall = moved_none hall hall refl refl refl (omega arith)

first_and_rest : (list : List Message) (m : Message) → Some m ≡ slice_get list 0 → list ≡ m ∷ drop 1 list
first_and_rest [] m is = cc
first_and_rest (x ∷ xs) m is = let same : m ≡ x = cc in ap (λ (y : Message). y ∷ xs) (sym same)

-- a message was taken
pub moved_next : (old new : Hall) (m : Message) → ((list : List Message) → old.left ≡ Some list → GivesNext list (Some m) new)
    → new.put ≡ old.put → new.whole ≡ old.whole → old.faults ≤ new.faults → Moved old new (m ∷ []) []
moved_next old new m gives put whole counts = record {
  left = λ list is. let g = gives list is in (drop 1 list, first_and_rest list m g.next_is, g.left_is);
  put = λ list is. put ∙ (is ∙ ap Some (sym (append-nil list)));
  whole = whole;
  counts = counts;
}

nothing_left : (list : List Message) → None ≡ slice_get list 0 → drop 1 list ≡ []
nothing_left [] is = refl
nothing_left (x ∷ xs) is = cc

-- no message came: none was left
pub left_none : (old new : Hall) → ((list : List Message) → old.left ≡ Some list → GivesNext list None new) → (list : List Message) → old.left ≡ Some list → new.left ≡ Some []
left_none old new gives list is = let g = gives list is in g.left_is ∙ ap Some (nothing_left list g.next_is)

none_left_same : (list : List Message) → None ≡ slice_get list 0 → drop 1 list ≡ list
none_left_same [] is = refl
none_left_same (x ∷ xs) is = cc

-- at the end nothing is taken
pub moved_end : (old new : Hall) → ((list : List Message) → old.left ≡ Some list → GivesNext list None new)
    → new.put ≡ old.put → new.whole ≡ old.whole → old.faults ≤ new.faults → Moved old new [] []
moved_end old new gives put whole counts = record {
  left = λ list is. let g = gives list is in (list, refl, g.left_is ∙ ap Some (none_left_same list g.next_is));
  put = λ list is. put ∙ (is ∙ ap Some (sym (append-nil list)));
  whole = whole;
  counts = counts;
}

-- a message was put
pub moved_put : (old new : Hall) (m : Message) → new.left ≡ old.left → ((list : List Message) → old.put ≡ Some list → new.put ≡ Some (list ++ m ∷ []))
    → new.whole ≡ old.whole → old.faults ≤ new.faults → Moved old new [] (m ∷ [])
moved_put old new m left put whole counts = record { left = λ list is. (list, refl, left ∙ is); put = put; whole = whole; counts = counts }

-- a count that rose later rose
pub rose_later : (a b c : ℕ) → a ≤ b → b ≤ c → Rose b c → Rose a c
rose_later a b c le lf rose = λ lt. elim (cases_lt b 18446744073709551615) [ inl less ↦ (let r : b < c = rose less in omega arith) | inr full ↦ omega arith ]

-- no message was left at the end, and causes stand, also from further back
pub left_from : (e : HallEnd) (old now new : Hall) (ts ps : List Message) → Moved old now ts ps → LeftAt e now new → LeftAt e old new
left_from end.Closed old now new ts ps moved left = λ list is. let m = moved.left list is in left m.0 m.2
left_from (end.Refused reason) old now new ts ps moved left = tt
left_from end.ReadFault old now new ts ps moved left = tt
left_from end.WriteFault old now new ts ps moved left = tt
left_from end.Spent old now new ts ps moved left = tt
left_from end.Memory old now new ts ps moved left = tt

pub cause_from : (e : HallEnd) (old now new : Hall) → old.faults ≤ now.faults → now.faults ≤ new.faults → CauseAt e now new → CauseAt e old new
cause_from end.ReadFault old now new le lf cause = rose_later old.faults now.faults new.faults le lf cause
cause_from end.WriteFault old now new le lf cause = rose_later old.faults now.faults new.faults le lf cause
cause_from end.Closed old now new le lf cause = cause
cause_from (end.Refused reason) old now new le lf cause = tt
cause_from end.Spent old now new le lf cause = tt
cause_from end.Memory old now new le lf cause = tt

-- what came is known to be this
pub given_as : (old : Option (List Message)) (new : Hall) (came next : Option Message) → came ≡ next → ((list : List Message) → old ≡ Some list → GivesNext list came new)
    → (list : List Message) → old ≡ Some list → GivesNext list next new
given_as old new came next same gives list is = subst (λ (n : Option Message). GivesNext list n new) same (gives list is)
