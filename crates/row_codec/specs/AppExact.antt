-- An aid for proofs: the format of an application has one spelling for each value.
use Rattle.std.proofs.Common.{ℕ, refl, ap, lit≤}
use Rattle.std.specs.Int.{w32, w64}
use Rattle.row_formats.specs.declared.fault.RowFault.TheVariants.{BadField}
use Rattle.row_formats.specs.Exact.{IsExact}
use Rattle.row_formats.proofs.Fields.{number_exact, text_exact, wide32, wide64}
use Rattle.row_formats.proofs.Parts.{always_exact, pair_exact, made_exact}
use Rattle.row_formats.proofs.Choices.{numbered_exact}
use Rattle.row_formats.proofs.Chains.{chain_exact}
use Rattle.row_formats.proofs.Basics.{flag_exact, set_exact, first_version_exact}
use Rattle.row_codec.specs.AppRow.{permission, role, quality_number, qualities, quality, tag, descriptor, app_fields, app}
use Rattle.row_codec.specs.ValueExact.{value_exact}

permission_exact : IsExact permission
permission_exact = made_exact _ _ _ (λ y h. refl) (pair_exact _ _ text_exact (pair_exact _ _ text_exact (pair_exact _ _ text_exact flag_exact)))

role_exact : IsExact role
role_exact = made_exact _ _ _ (λ y h. refl) (pair_exact _ _ text_exact (pair_exact _ _ text_exact (pair_exact _ _ set_exact (pair_exact _ _ flag_exact flag_exact))))

quality_exact : IsExact quality
quality_exact = numbered_exact (λ at n. BadField at) 0 quality_number qualities (lit≤ tt)
    (always_exact _, λ x h. ap quality_number h, (always_exact _, λ x h. ap quality_number h, (always_exact _, λ x h. ap quality_number h, tt)))

tag_exact : IsExact tag
tag_exact = pair_exact _ _ (number_exact w64 wide64) (value_exact 16)

descriptor_exact : IsExact descriptor
descriptor_exact = made_exact _ _ _ (λ y h. refl) (pair_exact _ _ quality_exact (chain_exact 32 (λ last. tag) (λ last. tag_exact)))

pub app_exact : (num : ℕ) → IsExact (app num)
app_exact num = first_version_exact (app_fields num) (made_exact _ _ _ (λ y h. refl)
    (pair_exact _ _ text_exact (pair_exact _ _ (number_exact w32 wide32)
    (pair_exact _ _ (chain_exact 65535 (λ last. permission) (λ last. permission_exact))
    (pair_exact _ _ (chain_exact 65535 (λ last. role) (λ last. role_exact))
    (chain_exact 65535 (λ last. descriptor) (λ last. descriptor_exact)))))))
