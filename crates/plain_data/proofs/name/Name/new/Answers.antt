use Rattle.std.proofs.Common.{sym, ap, ◌∙◌}
use Rattle.std.proofs.lemmas.Str.{IsUtf8-string_bytes}
use Rattle.plain_data.specs.Name.{is_plain}
use Rattle.plain_data.proofs.name.Name.new.Goals as goal

pub invariant_of-result : goal.invariant_of-result
invariant_of-result c = record {
  utf8 = IsUtf8-string_bytes c.args.text;
  plain = ap is_plain (sym c.as_str.ensures.value) ∙ sym c.is_plain.ensures ∙ c.if-is_plain.true;
}
