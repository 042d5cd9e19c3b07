-- An aid for proofs: the formats of accounts, grains and saved references have one spelling for each value.
use Rattle.std.proofs.Common.{ℕ, refl}
use Rattle.std.specs.Int.{w32}
use Rattle.row_formats.specs.Exact.{IsExact}
use Rattle.row_formats.proofs.Fields.{number_exact, text_exact, wide32}
use Rattle.row_formats.proofs.Parts.{pair_exact, made_exact}
use Rattle.row_formats.proofs.Basics.{digest_exact, flag_exact, first_version_exact}
use Rattle.row_codec.specs.Ids.{account_id, app_id, grain_id, grant_id}
use Rattle.row_codec.specs.Rows.{account_fields, account, grain_fields, grain, saved_fields, saved}

pub account_id_exact : IsExact account_id
account_id_exact = made_exact _ _ _ (λ n h. refl) (number_exact w32 wide32)

app_id_exact : IsExact app_id
app_id_exact = made_exact _ _ _ (λ n h. refl) (number_exact w32 wide32)

pub grain_id_exact : IsExact grain_id
grain_id_exact = made_exact _ _ _ (λ n h. refl) (number_exact w32 wide32)

pub grant_id_exact : IsExact grant_id
grant_id_exact = made_exact _ _ _ (λ n h. refl) (number_exact w32 wide32)

pub account_exact : (num : ℕ) → IsExact (account num)
account_exact num = first_version_exact (account_fields num) (made_exact _ _ _ (λ f h. refl) (pair_exact _ _ text_exact (pair_exact _ _ text_exact (pair_exact _ _ digest_exact (pair_exact _ _ flag_exact flag_exact)))))

pub grain_exact : (num : ℕ) → IsExact (grain num)
grain_exact num = first_version_exact (grain_fields num) (made_exact _ _ _ (λ f h. refl) (pair_exact _ _ app_id_exact (pair_exact _ _ account_id_exact (pair_exact _ _ text_exact flag_exact))))

pub saved_exact : (num : ℕ) → IsExact (saved num)
saved_exact num = first_version_exact (saved_fields num) (made_exact _ _ _ (λ f h. refl) (pair_exact _ _ grain_id_exact (pair_exact _ _ grant_id_exact (pair_exact _ _ text_exact (pair_exact _ _ digest_exact flag_exact)))))
