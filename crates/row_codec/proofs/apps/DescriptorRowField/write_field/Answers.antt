use Rattle.std.proofs.Common.{◌++◌, sym, ap, ◌∙◌}
use Rattle.row_formats.specs.Format.{list}
use Rattle.row_codec.specs.AppRow.{quality, tag, descriptor}
use Rattle.row_codec.proofs.Joined.{on_ok, then_put}
use Rattle.row_codec.proofs.apps.DescriptorRowField.write_field.Goals as goal

pub returns-clause-written : goal.returns-clause-written
returns-clause-written c =
    let d = c.args.self.now in
    on_ok c.write_slice.result
    (λ put.
    then_put c.args.writer.now (quality.write c.quality.result) ((list 32 tag).write c.tags.result.now) c.write_field.new.writer c.write_slice.new.writer (descriptor.write d) c.in_ok-write_field.ensures.written (put 32)
    (ap (λ q. quality.write q ++ (list 32 tag).write d.tags) (sym c.quality.ensures) ∙ ap (λ ts. quality.write c.quality.result ++ (list 32 tag).write ts) (sym c.tags.ensures.tags)))
    c.write_slice.ensures.written
