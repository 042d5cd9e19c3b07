-- What is fresh, and what is served that was.
use Rattle.std.proofs.Common.{◌≡◌, suc, All, List, [], ◌∷◌, Option, None, Some, refl, subst, arith}
use Rattle.host_base.specs.Outside.{Inlet, Outlet}
use Rattle.hub_core.specs.Book.{Book}
use Rattle.cloud_serve.specs.Served.{Served, Wired, with_book}
use Rattle.cloud_serve.specs.declared.serve.ConnEnd.{ConnEnd}
use Rattle.host_base.specs.declared.key.Key.{Key}
use Rattle.ws_tunnel.specs.Hall.{Hall}
use Rattle.tunnel_serve.specs.Exchanges.{Answer}
use Rattle.tunnel_serve.specs.Tunnels.{TunnelRun}
use Rattle.tunnel_serve.specs.declared.tunnel_end.TunnelEnd.{TunnelEnd}
use Rattle.serve_door.specs.Connections.{IsServed, IsTunneled}
use Rattle.serve_door.specs.Doors.{IsFreshHall, IsFreshInlet, IsFreshOutlet, tunnel}
use Rattle.std.specs.Option.{option_map}
use Rattle.grain_supervise.specs.declared.ask.Ask.{Ask}
use Rattle.grain_supervise.specs.Line.{Line, fresh_line}

abbrev none_asked : Option (List Ask) → Option (List Ask)
none_asked asked = option_map (λ asks. []) asked

twice : (asked : Option (List Ask)) → none_asked asked ≡ none_asked (none_asked asked)
twice None = refl
twice (Some asks) = refl

-- a fresh link stays one where it is taken for its own fresh form
fresh_is : (old new : Line) → new ≡ fresh_line old → new ≡ fresh_line new
fresh_is old new is = cc (is, twice old.asked)

-- a connection that was served from fresh ends over a fresh link
pub is_served : (inlet : Inlet) (outlet : Outlet) (line link : Line) (before after : Book) (wire : Wired) (end : ConnEnd) → IsFreshInlet inlet → wire.inlet.whole ≡ inlet.whole
    → IsFreshOutlet outlet → link ≡ fresh_line line
    → Served (record { inlet = inlet; outlet = outlet; line = link; book = before }) (with_book wire after) end.end end.from end.places end.served end.forwarded
    → IsServed before after (record { wire = wire; end = end })
is_served inlet outlet line link before after wire end fresh whole empty another headline = record {
  old = record { inlet = inlet; outlet = outlet; line = link; book = before };
  begins = refl;
  input = fresh;
  whole = whole;
  output = empty;
  link = fresh_is line link another;
  headline = headline;
}

-- a tunnel that was served from fresh messages over a fresh link
pub is_tunneled : {D : Type 0} (gave : D → Key → Answer → D → Type 0) (book : D → Book) (old new : Hall) (line link link' : Line) (before after : D) (end : TunnelEnd) → IsFreshHall old → link ≡ fresh_line line
    → TunnelRun gave book (record { hall = old; line = link }) (record { hall = new; line = link' }) before after end.end end.from end.places end.passed → IsTunneled (book before) (book after) (tunnel new link' end)
is_tunneled gave book old new line link link' before after end fresh another ran = record {
  old = record { hall = old; line = link };
  messages = fresh;
  link = fresh_is line link another;
  course = ran.course;
  run = ran.run;
}

-- what is known of each item of a list is known of its first one and of the others
pub first_is : {A : Type 0} (P : A → Type 0) (x : A) (xs ys : List A) → ys ≡ x ∷ xs → All P ys → P x
first_is P x xs ys is all = let moved : All P (x ∷ xs) = subst (λ zs. All P zs) is all in moved 0 x (omega arith)

pub others_are : {A : Type 0} (P : A → Type 0) (x : A) (xs ys : List A) → ys ≡ x ∷ xs → All P ys → All P xs
others_are P x xs ys is all = let moved : All P (x ∷ xs) = subst (λ zs. All P zs) is all in λ k d near. moved (suc k) d (omega arith)
