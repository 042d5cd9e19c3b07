use Rattle.std.proofs.Common.{◌≡◌, ℕ, List, Option, sym, subst}
use Rattle.std.specs.Prelude.{MatchOption}
use Rattle.plain_data.specs.Name.{IsName}
use Rattle.row_formats.proofs.Names.{no_name, name_found}
use Rattle.row_formats.proofs.reader.name_from.Goals as goal

pub returns-in-Some : goal.returns-in-Some
returns-in-Some c =
    name_found c.args.bytes.now c.in-Some.name
    (subst (λ (o : Option (List ℕ)). MatchOption o (IsName c.args.bytes.now → ⊥) (λ name. name ≡ c.args.bytes.now)) c.in-Some.is c.in_ok-name.ensures)
    c.as_str-text.ensures.form

pub returns-in-None : goal.returns-in-None
returns-in-None c =
    sym (no_name c.args.bytes.now
    (subst (λ (o : Option (List ℕ)). MatchOption o (IsName c.args.bytes.now → ⊥) (λ name. name ≡ c.args.bytes.now)) c.in-None.is c.in_ok-name.ensures))
