-- Connections that are taken at a door, one after another.
use Rattle.std.proofs.Common.{◌≡◌, ◌≢◌, ◌∙◌, ℕ, ◌+◌, ◌<◌, List, Option, None, Some, refl, ap, arith}
use Rattle.std.specs.Option.{option_map}
use Rattle.grain_program.specs.Taking.{Takes, taken_of}
use Rattle.grain_program.specs.declared.grain.GrainEnd.{GrainEnd}
use Rattle.grain_program.specs.declared.grain.GrainEnd.TheVariants as grain_end
use Rattle.serve_door.specs.Doors.{Doorway, HasGivenAll, Traffic, Visit, one_given}

abbrev traffic : ℕ → ℕ → List Visit → Traffic
traffic planned given returned = record { planned = planned; given = given; returned = returned }

plus_none : (a n : ℕ) → n ≡ 0 → a ≡ a + n
plus_none a n none = omega (arith, none)

one_more : (a n : ℕ) → a + n + 1 ≡ a + (n + 1)
one_more a n = omega (arith)

-- none yet
pub none_taken : (count : ℕ) (told : Option Traffic) → option_map (λ (t : Traffic). record t { planned = t.given + count }) told ≡ option_map (taken_of count 0) told
none_taken count None = refl
none_taken count (Some t) =
    let same : traffic (t.given + count) t.given t.returned ≡ traffic (t.given + count) (t.given + 0) t.returned = cc (plus_none t.given 0 refl) in
    ap (λ (x : Traffic). Some x) same

-- one more
pub more_taken : (count taken : ℕ) (told : Option Traffic)
    → option_map (λ (t : Traffic). record t { given = t.given + 1 }) (option_map (taken_of count taken) told) ≡ option_map (taken_of count (taken + 1)) told
more_taken count taken None = refl
more_taken count taken (Some t) =
    let same : traffic (t.given + count) (t.given + taken + 1) t.returned ≡ traffic (t.given + count) (t.given + (taken + 1)) t.returned = cc (one_more t.given taken) in
    ap (λ (x : Traffic). Some x) same

-- and where the door gave all that it was to give, all were taken
pub all_taken : (count taken : ℕ) (told : Option Traffic) → ((t : Traffic) → option_map (taken_of count taken) told ≡ Some t → t.given ≡ t.planned)
    → option_map (taken_of count taken) told ≡ option_map (taken_of count count) told
all_taken count taken None all = refl
all_taken count taken (Some t) all =
    let given : t.given + taken ≡ t.given + count = all (taken_of count taken t) refl in
    let same : traffic (t.given + count) (t.given + taken) t.returned ≡ traffic (t.given + count) (t.given + count) t.returned = cc given in
    ap (λ (x : Traffic). Some x) same

-- what was taken where no further connection was answered
pub takes_at : (count taken : ℕ) (old now later : Doorway) (end : GrainEnd) → taken < count → now.traffic ≡ option_map (taken_of count taken) old.traffic
    → (end ≡ grain_end.Memory → later ≡ one_given now) → (end ≡ grain_end.Done → HasGivenAll now) → (end ≡ grain_end.Done → later ≡ now)
    → (end ≡ grain_end.DoorFailed → later.traffic ≡ now.traffic) → end ≢ grain_end.WriteFailed → Takes count old later end
takes_at count taken old now later grain_end.Done less told memory all ended failed printed = record {
  taken = count;
  most = omega arith;
  traffic_is = ap (λ (d : Doorway). d.traffic) (ended refl) ∙ told ∙ all_taken count taken old.traffic (λ t is. all refl t (told ∙ is));
  done = λ is. refl;
  failed = λ is. cc is;
}
takes_at count taken old now later grain_end.DoorFailed less told memory all ended failed printed = record {
  taken = taken;
  most = omega (arith, less);
  traffic_is = failed refl ∙ told;
  done = λ is. cc is;
  failed = λ is. less;
}
takes_at count taken old now later grain_end.WriteFailed less told memory all ended failed printed = absurd (printed refl)
takes_at count taken old now later grain_end.Memory less told memory all ended failed printed = record {
  taken = taken + 1;
  most = omega (arith, less);
  traffic_is = ap (λ (d : Doorway). d.traffic) (memory refl) ∙ ap (λ (o : Option Traffic). option_map (λ (t : Traffic). record t { given = t.given + 1 }) o) told ∙ more_taken count taken old.traffic;
  done = λ is. cc is;
  failed = λ is. cc is;
}
