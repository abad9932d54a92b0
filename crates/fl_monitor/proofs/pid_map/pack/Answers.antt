use Rattle.std.proofs.Common.{rules, is_some, ◌∙◌}
use Rattle.std.proofs.lemmas.Fn.{filter_same}
use Rattle.fl_monitor.proofs.SlotLemmas.{packed}
use Rattle.fl_monitor.proofs.pid_map.pack.Goals as goal

pub returns : goal.returns
returns g c =
    let kept = filter_same _ (λ s. is_some s.value) _ (λ x b f k. search rules) _ _
    c.retain.ensures.filtered in
    packed c.args.slots.now.items _ (c.shrink_to.ensures.items ∙ kept)
