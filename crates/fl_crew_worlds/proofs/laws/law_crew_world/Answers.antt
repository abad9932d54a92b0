use Rattle.std.proofs.Common.{refl}
use Rattle.fl_crew_worlds.proofs.Batches.{jobs_run}
use Rattle.fl_crew_worlds.proofs.Opening.{opened_node}
use Rattle.fl_crew_worlds.proofs.Packets.{packet_runs}
use Rattle.fl_crew_worlds.proofs.laws.law_crew_world.Goals as goal

pub returns-clause-opened : goal.returns-clause-opened
returns-clause-opened g c =
    λ crew number size k k' some seated h. opened_node crew number size k k' some seated h

pub returns-clause-jobs : goal.returns-clause-jobs
returns-clause-jobs g c =
    λ w number old new jobs es stands done asked. jobs_run w number old new jobs es stands asked
    done

pub returns-clause-packet : goal.returns-clause-packet
returns-clause-packet g c =
    λ w number index sent old new es stands there window done. packet_runs w number index sent there
    old new es stands sent.packet refl window done
