-- What is put together of the fields is exact.
use Rattle.std.proofs.Common.{ℕ, true, false, [], ◌∷◌, List, Option, refl, ap, lit≤}
use Rattle.std.specs.Int.{w64}
use Rattle.perm_roles.specs.PermSet.{bits_of}
use Rattle.row_formats.specs.declared.fault.RowFault.TheVariants.{BadField, BadVersion}
use Rattle.row_formats.specs.Format.{Format, number, text, flag, flag_number, always, first_version, digest, text_above, is_above}
use Rattle.row_formats.specs.Sets.{set, set_of_word}
use Rattle.row_formats.specs.Exact.{IsExact}
use Rattle.row_formats.proofs.Fields.{bytes_exact, number_exact, text_exact, wide64}
use Rattle.row_formats.proofs.Parts.{always_exact, made_exact, only_exact}
use Rattle.row_formats.proofs.Choices.{numbered_exact}
use Rattle.row_formats.proofs.Words.{word_back}

pub digest_exact : IsExact digest
digest_exact = made_exact _ _ _ (λ y h. refl) (bytes_exact 32)

pub set_exact : IsExact set
set_exact = made_exact set_of_word bits_of (number w64) (λ n h. word_back n h) (number_exact w64 wide64)

pub flag_exact : IsExact flag
flag_exact = numbered_exact (λ at n. BadField at) 0 flag_number (always false ∷ always true ∷ []) (lit≤ tt)
    (always_exact false, λ x h. ap flag_number h, (always_exact true, λ x h. ap flag_number h, tt))

pub text_above_exact : (last : Option (List ℕ)) → IsExact (text_above last)
text_above_exact last = only_exact (is_above last) text text_exact

pub first_version_exact : {A : Type 0} (f : Format A) → IsExact f → IsExact (first_version f)
first_version_exact f exact = numbered_exact (λ at n. BadVersion n) 1 (λ x. 1) (f ∷ []) (lit≤ tt) (exact, λ x h. refl, tt)
