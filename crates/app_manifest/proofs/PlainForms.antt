-- Forms of texts against one another.
use Rattle.std.proofs.Common.{◌≡◌, ℕ, true, leb, List, [], ◌∷◌, length, refl, arith}
use Rattle.std.specs.Cmp.{first_so, second_so}
use Rattle.std.specs.List.{list_all}
use Rattle.std.proofs.lemmas.Bool.Decides.{nat_tests}
use Rattle.plain_data.specs.Name.{is_plain, is_plain_byte}
use Rattle.app_manifest.specs.Text.{is_permission_byte, is_permission_name, is_title}

plain_letter : (byte : ℕ) → is_permission_byte byte ≡ true → is_plain_byte byte ≡ true
plain_letter byte h = grind (arith, nat_tests)

all_plain : (bytes : List ℕ) → list_all is_permission_byte bytes ≡ true → list_all is_plain_byte bytes ≡ true
all_plain [] h = refl
all_plain (b ∷ bytes) h =
    rw (plain_letter b (first_so _ _ h)) (all_plain bytes (second_so _ _ h))

longer : (n : ℕ) → leb n 64 ≡ true → leb n 2000 ≡ true
longer n h = grind (arith, nat_tests)

-- a permission's name has no control characters and isn't long
pub plain_permission_name : (bytes : List ℕ) → is_permission_name bytes ≡ true → is_plain bytes ≡ true
plain_permission_name bytes h =
    let long : leb (length bytes) 64 ≡ true = second_so _ _ (first_so _ _ h) in
    let few : leb (length bytes) 2000 ≡ true = longer (length bytes) long in
    rw few (all_plain bytes (second_so _ _ h))

-- a title has the form of a name
pub plain_title : (bytes : List ℕ) → is_title bytes ≡ true → is_plain bytes ≡ true
plain_title bytes h = second_so _ _ h
