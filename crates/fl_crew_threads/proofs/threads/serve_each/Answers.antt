use denote.Param.Send.{sendable}
use Rattle.std.proofs.Crossing.{crosses}
use Rattle.fl_crew_threads.proofs.Sent.{worker_send}
use Rattle.fl_crew_threads.proofs.threads.serve_each.Goals as goal

pub for_each_mut-requires-send-T : goal.for_each_mut-requires-send-T
for_each_mut-requires-send-T g c κs within = search (sendable, crosses, worker_send) depth 20
