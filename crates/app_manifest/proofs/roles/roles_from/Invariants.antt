use Rattle.std.proofs.Common.{◌≡◌, None, nat_lt, length, map}
use Rattle.app_manifest.specs.Places.{first_from}
use Rattle.app_manifest.specs.Manifest.{role_of_draft}
use Rattle.app_manifest.specs.ReadParts.{role_draft}
use Rattle.app_manifest.proofs.roles.roles_from.Given as goal

abbrev pub invariant-loop-read_role : goal.invariant-loop-read_role
invariant-loop-read_role l =
    record {
      short : first_from (λ place role. nat_lt l.count (length role.list.items)) 0 l.yielded ≡ None;
      roles : l.roles.items ≡ map role_of_draft (map role_draft l.yielded);
      count : length l.roles.items ≡ length l.yielded;
    }
