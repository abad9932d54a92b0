-- A worker may go to another thread. The compiler does not find it by itself, so who sends one
-- cites `worker_send`.
use denote.RattleType.{RattleType}
use denote.Param.Send.{IsSend, IsSync, sendable, view_send, view_sync}
use denote.Param.SendFields.{declared_send, declared_sync, variants_send}
use Rattle.std.proofs.Crossing.{crosses}
use Rattle.std.proofs.MapsCrossing.{crosses as map_crosses}
use Rattle.std.proofs.MapsCrossingOver.{crosses as set_crosses}
use Rattle.atomic_table.proofs.badge.Badge.TheSendSync.{the_send as badge_send}
use Rattle.atomic_table.proofs.shared.Seat.TheSendSync.{the_send as seat_send}
use Rattle.atomic_table.proofs.shared.Shared.TheSendSync.{the_send as table_send, the_sync as table_sync}
use Rattle.atomic_table.proofs.send_lease.SendLease.TheSendSync.{the_send as lease_send, the_sync as lease_sync}
use Rattle.fl_replica.proofs.Sent.{desk_send}
use Rattle.fl_labels.specs.contracts.label.Label as label
use Rattle.fl_labels.specs.contracts.label.Label.TheInside as label_inside
use Rattle.fl_labels.specs.contracts.cap_set.CapSet as cap_set
use Rattle.fl_labels.specs.contracts.cap_set.CapSet.TheInside as cap_set_inside
use Rattle.fl_labels.specs.contracts.roomy.RoomyCapSet as roomy
use Rattle.fl_labels.specs.contracts.roomy.RoomyCapSet.TheInside as roomy_inside
use Rattle.fl_message.specs.contracts.payload.Payload as payload
use Rattle.fl_message.specs.contracts.payload.Payload.TheInside as payload_inside
use Rattle.fl_message.specs.contracts.message.Message as message
use Rattle.fl_message.specs.contracts.shared.Shared as held
use Rattle.fl_message.specs.contracts.shared.Shared.TheInside as held_inside
use Rattle.fl_bench.specs.contracts.history.History as history
use Rattle.fl_bench.specs.contracts.history.History.TheInside as history_inside
use Rattle.fl_bench.specs.contracts.shared.SharedCaps as shared
use Rattle.fl_bench.specs.contracts.shared.SharedCaps.TheInside as shared_inside
use Rattle.fl_bench.specs.contracts.standing.Standing as standing
use Rattle.fl_bench.specs.contracts.past.Past as past
use Rattle.fl_bench.specs.contracts.past.Past.TheInside as past_inside
use Rattle.fl_bench.specs.contracts.owned.Owned as owned
use Rattle.fl_bench.specs.contracts.owned.Owned.TheInside as owned_inside
use Rattle.fl_bench.specs.contracts.owned.RoomyOwned as roomy_owned
use Rattle.fl_bench.specs.contracts.owned.RoomyOwned.TheInside as roomy_owned_inside
use Rattle.fl_mailbox.specs.contracts.endpoints.Endpoints as endpoints
use Rattle.fl_mailbox.specs.contracts.endpoints.Endpoints.TheInside as endpoints_inside
use Rattle.fl_mailbox.specs.contracts.inbox.Inbox as inbox
use Rattle.fl_mailbox.specs.contracts.inbox.Inbox.TheInside as inbox_inside
use Rattle.fl_monitor.specs.contracts.processes.Processes as processes
use Rattle.fl_monitor.specs.contracts.processes.Processes.TheInside as processes_inside
use Rattle.fl_monitor.specs.contracts.bench.Bench as bench
use Rattle.fl_monitor.specs.contracts.bench.Bench.TheInside as bench_inside
use Rattle.fl_jobs.specs.contracts.job.Job as job
use Rattle.fl_worker.specs.contracts.task.Task as task
use Rattle.fl_crew_model.specs.contracts.record.Told as told
use Rattle.fl_crew_model.specs.contracts.record.Entry as entry
use Rattle.fl_worker.specs.contracts.ask.Ask as ask
use Rattle.fl_worker.specs.contracts.ask.Ordered as ordered
use Rattle.fl_worker.specs.contracts.ask.Ruled as ruled
use Rattle.fl_worker.specs.contracts.line.Out as out
use Rattle.fl_worker.specs.contracts.line.In as into
use Rattle.fl_worker.specs.contracts.ends.Ends as ends
use Rattle.fl_worker.specs.contracts.worker.Worker as worker

ruleset apart = (sendable, crosses, map_crosses, set_crosses)

ruleset table = (badge_send, seat_send, table_send, table_sync, lease_send, lease_sync)

label_send : IsSend label.the_row
label_send = view_send _ _ _ _ _ (declared_send label_inside.the_type (search apart depth 40 fits 100000))

label_sync : IsSync label.the_row
label_sync = view_sync _ _ _ _ _ (declared_sync label_inside.the_type (search apart depth 40 fits 100000))

cap_set_send : IsSend cap_set.the_row
cap_set_send = view_send _ _ _ _ _ (declared_send cap_set_inside.the_type (search apart depth 40 fits 100000))

cap_set_sync : IsSync cap_set.the_row
cap_set_sync = view_sync _ _ _ _ _ (declared_sync cap_set_inside.the_type (search apart depth 40 fits 100000))

roomy_send : IsSend roomy.the_row
roomy_send = view_send _ _ _ _ _ (declared_send roomy_inside.the_type (search apart depth 40 fits 100000))

payload_send : IsSend payload.the_row
payload_send = view_send _ _ _ _ _ (declared_send payload_inside.the_type (search apart depth 40 fits 100000))

payload_sync : IsSync payload.the_row
payload_sync = view_sync _ _ _ _ _ (declared_sync payload_inside.the_type (search apart depth 40 fits 100000))

message_send : IsSend message.the_row
message_send = declared_send message.the_type (search (apart, cap_set_send, payload_send) depth 40 fits 100000)

message_sync : IsSync message.the_row
message_sync = declared_sync message.the_type (search (apart, cap_set_sync, payload_sync) depth 40 fits 100000)

held_message_send : IsSend (held.the_row message.the_row)
held_message_send = view_send _ _ _ _ _ (declared_send (held_inside.the_type message.the_row) (
    search (apart, message_send, message_sync) depth 40 fits 100000))

history_send : IsSend history.the_row
history_send = view_send _ _ _ _ _ (declared_send history_inside.the_type (search apart depth 40 fits 100000))

history_sync : IsSync history.the_row
history_sync = view_sync _ _ _ _ _ (declared_sync history_inside.the_type (search apart depth 40 fits 100000))

shared_send : IsSend shared.the_row
shared_send = view_send _ _ _ _ _ (declared_send shared_inside.the_type (
    search (apart, history_send, history_sync) depth 40 fits 100000))

shared_sync : IsSync shared.the_row
shared_sync = view_sync _ _ _ _ _ (declared_sync shared_inside.the_type (
    search (apart, history_send, history_sync) depth 40 fits 100000))

standing_send : IsSend standing.the_row
standing_send = declared_send standing.the_type (search (apart, label_send, shared_send) depth 40 fits 100000)

standing_sync : IsSync standing.the_row
standing_sync = declared_sync standing.the_type (search (apart, label_sync, shared_sync) depth 40 fits 100000)

held_send : IsSend (held.the_row standing.the_row)
held_send = view_send _ _ _ _ _ (declared_send (held_inside.the_type standing.the_row) (
    search (apart, standing_send, standing_sync) depth 40 fits 100000))

past_send : IsSend past.the_row
past_send = view_send _ _ _ _ _ (declared_send past_inside.the_type (
    search (apart, shared_send, held_send) depth 40 fits 100000))

owned_send : IsSend owned.the_row
owned_send = view_send _ _ _ _ _ (declared_send owned_inside.the_type (
    search (apart, cap_set_send, past_send) depth 40 fits 100000))

roomy_owned_send : IsSend roomy_owned.the_row
roomy_owned_send = view_send _ _ _ _ _ (declared_send roomy_owned_inside.the_type (
    search (apart, roomy_send, past_send) depth 40 fits 100000))

endpoints_send : IsSend endpoints.the_row
endpoints_send = view_send _ _ _ _ _ (declared_send endpoints_inside.the_type (search (apart, label_send) depth 40 fits 100000))

inbox_send : IsSend inbox.the_row
inbox_send = view_send _ _ _ _ _ (declared_send inbox_inside.the_type (
    search (apart, held_message_send) depth 40 fits 100000))

processes_send : IsSend processes.the_row
processes_send = view_send _ _ _ _ _ (declared_send processes_inside.the_type (
    search (apart, label_send, owned_send, roomy_owned_send, endpoints_send, inbox_send) depth 40 fits 100000))

bench_send : IsSend bench.the_row
bench_send = view_send _ _ _ _ _ (declared_send bench_inside.the_type (search (apart, processes_send) depth 40 fits 100000))

job_send : IsSend job.the_row
job_send = variants_send job.enum (
    search (apart, label_send, cap_set_send, payload_send, held_message_send) depth 40 fits 100000)

task_send : IsSend task.the_row
task_send = declared_send task.the_type (search (apart, job_send) depth 40 fits 100000)

told_send : IsSend told.the_row
told_send = search (apart, payload_send, label_send, held_message_send) depth 40 fits 100000

entry_send : IsSend entry.the_row
entry_send = declared_send entry.the_type (search (apart, told_send) depth 40 fits 100000)

out_send : (T : RattleType) → IsSend T → IsSend (out.the_row T)
out_send T s = declared_send (out.the_type T) (search (sendable, crosses, table) depth 40 fits 100000)

into_send : (T : RattleType) → IsSend T → IsSend (into.the_row T)
into_send T s = declared_send (into.the_type T) (search (sendable, crosses, table) depth 40 fits 100000)

ordered_send : IsSend ordered.the_row
ordered_send = search apart depth 40 fits 100000

ruled_send : IsSend ruled.the_row
ruled_send = search apart depth 40 fits 100000

answers_send : IsSend (out.the_row ruled.the_row)
answers_send = out_send ruled.the_row ruled_send

ask_send : IsSend ask.the_row
ask_send = variants_send ask.enum (search (ordered_send, answers_send) depth 20)

ends_send : IsSend ends.the_row
ends_send = declared_send ends.the_type (
    search (apart, out_send, into_send, ask_send, ruled_send) depth 40 fits 100000)

pub worker_send : IsSend worker.the_row
worker_send = declared_send worker.the_type (
    search (apart, bench_send, desk_send, ends_send, task_send, entry_send) depth 40 fits 100000)
