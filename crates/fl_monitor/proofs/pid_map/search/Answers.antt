use Rattle.std.proofs.Common.{rules}
use Rattle.std.proofs.lemmas.List.Sorted.{answers_always}
use Rattle.fl_monitor.proofs.SlotLemmas.{searched}
use Rattle.fl_monitor.proofs.pid_map.search.Goals as goal

pub returns : goal.returns
returns g c =
    let by_pid = c.binary_search_by_key.ensures.position (λ slot. slot.pid)
    (answers_always _ _ _ (λ f a r h called. search rules)) in
    let found = searched c.args.slots.now c.args.pid c.binary_search_by_key.result c.requires
    c.binary_search_by_key.ensures.bound by_pid in
    record { ok = found.0; err = found.1 }
