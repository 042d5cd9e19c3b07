-- What the program's objects tell, and the lines that it prints.
use Rattle.std.specs.Prelude.{◌≡◌, ℕ, ◌⊎◌, ◌++◌, List, Option, Some, take, codes}
use Rattle.admin_run.specs.Terms.{Backing, Doorway, Inlet, IsInOrder, Outlet, Rose, Wired}
use Rattle.grain_supervise.specs.Line.{Line}

-- What the program's objects tell: its input and output, the link to the grains, what a desk works with, the clock, the door and
-- the halls.
pub record Outside : Type 0 where
  pub inlet : Inlet
  pub outlet : Outlet
  pub line : Line
  pub holds : Backing
  pub moments : Option (List ℕ)
  pub doorway : Doorway
  pub hallway : Doorway

-- What contracts see of what the program is run with: the keeper itself, and what all its objects tell.
pub record WorldOf (K : Type 0) : Type 0 where
  pub keeper : K
  pub tells : Outside

-- what the input, the output and the link tell
abbrev pub wired : Outside → Wired
wired outside = record { inlet = outside.inlet; outlet = outside.outlet; line = outside.line }

-- where connections and tunnels come in: a door and halls
pub record Entrances : Type 0 where
  pub door : Doorway
  pub halls : Doorway

abbrev pub entrances : Outside → Entrances
entrances outside = record { door = outside.doorway; halls = outside.hallway }

-- no more came back at either than was given
abbrev pub AreInOrder : Outside → Type 0
AreInOrder outside = IsInOrder outside.doorway × IsInOrder outside.hallway

-- Want of memory before anything was done.
pub record DoesNothing (old new : Outside) (status : ℕ) : Type 0 where
  pub status_is : status ≡ 7
  pub same : new ≡ old

-- A text is printed: whole at the given status, and at 5 as far as the sink took it, whose count rose.
abbrev pub Tells : Outlet → Outlet → List ℕ → ℕ → ℕ → Type 0
Tells old new text done status =
    ((status ≡ done) × ((before : List ℕ) → old.written ≡ Some before → new.written ≡ Some (before ++ text)))
    ⊎ ((status ≡ 5) × Rose old.faults new.faults × ((before : List ℕ) → old.written ≡ Some before
    → (n : ℕ) × (new.written ≡ Some (before ++ take n text))))

-- the usage line
abbrev pub usage_line : List ℕ
usage_line =
    codes "usage: admin_cli play | serve FILE PORT COUNT [WSPORT WSCOUNT] | gen N SEED | check FILE | grain SOCKET COUNT | access FILE GRAIN | preview FILE GRANT | collect FILE GRAIN GRANT\n"

-- The usage line is printed, with status 2; nothing is taken, asked, drawn, started, kept or accepted.
pub record TellsUsage (old new : Outside) (status : ℕ) : Type 0 where
  pub others : new ≡ record old { outlet = new.outlet }
  pub told : Tells old.outlet new.outlet usage_line 2 status

-- the count of the door or that of the halls rose
abbrev pub AnyRose : Entrances → Entrances → Type 0
AnyRose old new = Rose old.door.faults new.door.faults ⊎ Rose old.halls.faults new.halls.faults

-- What causes a status: 4 the input, the door or the halls, 5 the output, 9 the keeper or the secrets, whose count rose.
pub record HasStatusCause (old new : Outside) (status : ℕ) : Type 0 where
  pub taken : status ≡ 4 → Rose old.inlet.faults new.inlet.faults ⊎ AnyRose (entrances old) (entrances new)
  pub written : status ≡ 5 → Rose old.outlet.faults new.outlet.faults
  pub stored : status ≡ 9 → Rose old.holds.keeping.faults new.holds.keeping.faults
      ⊎ Rose old.holds.drawer.faults new.holds.drawer.faults
