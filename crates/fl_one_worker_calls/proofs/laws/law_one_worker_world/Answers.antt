use Rattle.std.proofs.Common.{[], ◌++◌, refl, subst, List}
use Rattle.std.proofs.lemmas.List.{append-nil}
use Rattle.fl_jobs.specs.declared.job.Job.{Job}
use Rattle.fl_one_worker_laws.specs.Single.{DoneInTurn}
use Rattle.fl_one_worker_calls.proofs.Lifting.{all_lifted, most}
use Rattle.fl_one_worker_calls.proofs.Packets.{packet_follows}
use Rattle.fl_one_worker_calls.proofs.laws.law_one_worker_world.Goals as goal

pub returns-clause-jobs : goal.returns-clause-jobs
returns-clause-jobs g c =
    λ w number old new jobs es stands asked done few.
    let at = c.law_one_worker.ensures.jobs old new jobs [] es stands.place.node stands.place.kept
    most stands.is_node done few in
    let it =
    subst (λ (l : List Job). DoneInTurn most new stands.place.node stands.place.kept l es)
    (append-nil jobs) at in
    let all =
    all_lifted w number stands.place jobs it.told es it.node it.kept stands.there asked
    it.complete it.replies in
    record {
      world = all.world;
      completes = all.completes;
      elsewhere = all.elsewhere;
      packets = all.packets;
      stands = record {
        place = record { node = it.node; kept = it.kept };
        there = all.there;
        is_node = it.is_node;
        kept = it.same stands.kept;
      };
    }

pub returns-clause-packet : goal.returns-clause-packet
returns-clause-packet g c =
    λ w number index sent old new es stands there window done few. packet_follows
    c.law_one_worker.ensures.jobs c.law_one_worker.ensures.ops w number index sent old new es stands
    there done few sent.packet refl window
