use Rattle.std.proofs.Common.{◌∙◌, ap, sym}
use Rattle.std.specs.FinMap as fin
use Rattle.sender_core.specs.Kept.{Contents}
use Rattle.sender_core.proofs.TagMaps.{tag_cmp, get_tag}
use Rattle.sender_core.proofs.book.Book.label.Goals as goal

pub returns : goal.returns
returns g c = record {
  label =
      c.get.ensures.value ∙ sym (get_tag c.self.inside.state.labels.entries c.args.tag.now)
      ∙ ap (λ (h : Contents g.row.C.Denot). fin.get (fin.from_entries {R = tag_cmp} h.labels) c.args.tag.now) c.self.view_is;
}
