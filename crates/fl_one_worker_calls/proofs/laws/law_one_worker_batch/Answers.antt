use Rattle.fl_one_worker_calls.proofs.Serving.{jobs_lead, packet_leads}
use Rattle.fl_one_worker_calls.proofs.laws.law_one_worker_batch.Goals as goal

pub returns-clause-jobs : goal.returns-clause-jobs
returns-clause-jobs g c =
    λ old new w number jobs replies h sound sound_new few asked serves. jobs_lead _
    c.law_one_worker_world.ensures.jobs old new w number jobs replies h sound sound_new few asked serves

pub returns-clause-packet : goal.returns-clause-packet
returns-clause-packet g c =
    λ old new w number index packet replies h sound sound_new few there window serves. packet_leads _
    c.law_one_worker_world.ensures.packet old new w number index packet replies h sound sound_new few
    there window serves
