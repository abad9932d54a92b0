use Rattle.fl_crew_lines.proofs.Bringing.{made_none, made_some}
use Rattle.fl_crew_lines.proofs.asking.copy_packet.Goals.{in-Full+in_ok-copy_batch-in-Full, in-Delta+in_ok-copy_batch-in-Delta, in-Data+in_ok-copy-in-Data, in-Have}
use Rattle.fl_crew_lines.proofs.asking.copy_packet.Goals as goal

pub returns-clause-none : goal.returns-clause-none
returns-clause-none c = elim c.match-packet.branch [
  | in-Full+in_ok-copy_batch-in-Full w ↦ made_some _ c.match-packet.result _ w.result-is
  | in-Delta+in_ok-copy_batch-in-Delta w ↦ made_some _ c.match-packet.result _ w.result-is
  | in-Data+in_ok-copy-in-Data w ↦ made_some _ c.match-packet.result _ w.result-is
  | in-Have w ↦ made_none c.match-packet.result w.result-is (w.in-Have.field-0, w.in-Have.is)
]
