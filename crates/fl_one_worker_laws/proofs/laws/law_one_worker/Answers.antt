use Rattle.fl_one_worker_laws.proofs.Batches.{jobs_in_turn}
use Rattle.fl_one_worker_laws.proofs.Opening.{opened_node}
use Rattle.fl_one_worker_laws.proofs.Packets.{ops_in_turn}
use Rattle.fl_one_worker_laws.proofs.Restarting.{restarted_node}
use Rattle.fl_one_worker_laws.proofs.laws.law_one_worker.Goals as goal

pub returns-clause-opened : goal.returns-clause-opened
returns-clause-opened g c = λ crew number k k' seated h. opened_node crew number k k' seated h

pub returns-clause-restarted : goal.returns-clause-restarted
returns-clause-restarted g c =
    λ old new n k k' keeps boot node due idle seated h. restarted_node old new n k k' keeps boot
    node due idle seated h

pub returns-clause-jobs : goal.returns-clause-jobs
returns-clause-jobs g c =
    λ old new jobs messages es n k upto node h high. jobs_in_turn old new jobs messages es n k upto
    node h high

pub returns-clause-ops : goal.returns-clause-ops
returns-clause-ops g c =
    λ old new packet batch es n k node is h. ops_in_turn old new packet batch es n k node is h
