use Rattle.row_codec.specs.AppRow.{tag}
use Rattle.row_codec.proofs.ValuesRead.{list_few}
use Rattle.row_codec.proofs.apps.DescriptorRowField.read_field.Goals as goal

pub new-requires : goal.new-requires
new-requires c = rw c.into_vec.ensures (list_few 32 (λ last. tag.read) c.read_field.new.reader c.in_ok-tags.tags c.read_list.new.reader c.in_ok-tags.ensures)
