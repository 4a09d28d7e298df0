use Rattle.std.proofs.Common.{◌≡◌, sym, subst}
use Rattle.record_layout.specs.Layout.{layout_of}
use Rattle.record_layout.specs.Rows.{Globals, data_node, rows}
use Rattle.record_layout.specs.Records.{IsReadWhole, IsTrueSource}
use Rattle.record_layout.proofs.ReadLaws.{read_where_they_stand}
use Rattle.record_layout.proofs.RecordLaws.{rows_are_read, read_whole}
use Rattle.record_layout.proofs.SourceLaws.{true_source}
use Rattle.record_layout.proofs.law.records_are_their_rows.Goals as goal

pub returns : goal.returns
returns c = λ classes key g s r laid names source. (
  λ whole. (((read_where_they_stand classes s (layout_of classes r.class) whole.items r.fields laid whole.rising).0 whole.read).0, read_whole classes key g s r laid whole),
  λ h. subst (λ (h' : Globals). IsReadWhole classes key h' s r) (sym h.1)
      (rows_are_read classes key s r laid h.0 (true_source classes key s r laid names h.0 (subst (λ (h' : Globals). IsTrueSource h' (data_node key) s) h.1 source))),
)
