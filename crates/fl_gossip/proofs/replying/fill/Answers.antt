use Rattle.std.proofs.Common.{◌≡◌, ◌≤◌, ◌+◌, ◌-◌, length, refl, ap, ◌∙◌, arith}
use Rattle.fl_gossip.proofs.Deltas.{waiting_rises, waiting_full, fill_step}
use Rattle.fl_gossip.proofs.replying.fill.Goals as goal

pub loop-rest-init : goal.loop-rest-init
loop-rest-init c = record { state = c.requires.full; joined = refl }

pub delta_of-requires-clause-rise : goal.delta_of-requires-clause-rise
delta_of-requires-clause-rise c =
    waiting_rises _ _ _ _ _ _ _ c.loop-rest.invariant c.split_at.ensures.front c.split_at.ensures.back c.replace-full.result.items
    (ap (λ v. v.items) c.replace-full.ensures.value ∙ c.in_ok-extend_from_slice.ensures.items) c.requires.rise

pub loop-rest-preserved : goal.loop-rest-preserved
loop-rest-preserved c =
    let count : length c.loop-rest.waiting.items + (64 - c.len-in-loop-rest.result) ≡ 64 = omega (arith, c.len-in-loop-rest.ensures, c.loop-rest.waiting.ok.0, c.loop-rest.invariant.state.few) in
    let enough : 64 - c.len-in-loop-rest.result ≤ length c.loop-rest.rest.now = omega (arith, c.len-in-loop-rest.ensures, c.len.ensures, c.loop-rest-test.true) in
    let full = ap (λ v. v.items) c.replace-full.ensures.value ∙ c.in_ok-extend_from_slice.ensures.items in
    let long = waiting_full _ _ _ _ _ _ _ c.loop-rest.invariant c.split_at.ensures.front c.split_at.ensures.back count enough _ (c.delta_of.ensures.1 ∙ full) in
    fill_step _ _ _ _ _ _ _ c.loop-rest.invariant c.split_at.ensures.front c.split_at.ensures.back _ _ c.delta_of.result (c.delta_of.ensures.0, c.delta_of.ensures.1 ∙ full) long c.in_ok-push.ensures.items
    (ap (λ v. v.items) c.replace-full.ensures.after ∙ c.new.ensures.items)
