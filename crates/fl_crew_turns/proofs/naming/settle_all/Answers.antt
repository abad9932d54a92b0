use Rattle.std.proofs.Common.{◌≡◌, ◌≤◌, ◌+◌, ◌⊎◌, inl, inr, arith, length, ap, sym, subst, ◌∙◌}
use Rattle.fl_calls.specs.Answer.{replied}
use Rattle.fl_turns.specs.Answer.{said}
use Rattle.fl_turns.specs.Naming.{made_by}
use Rattle.fl_crew_turns.specs.Held.{count_set}
use Rattle.fl_crew_turns.specs.Naming.{named_all}
use Rattle.fl_crew_turns.specs.laws.Settling.{count_step, length-renamed, named_end, named_step}
use Rattle.fl_crew_turns.proofs.naming.settle_all.Goals as goal

pub loop-alias-init : goal.loop-alias-init
loop-alias-init c =
    let zip = c.zip-alias-items.result in
    let start = c.into_iter-alias-iterator.result in
    let same : start ≡ zip = c.into_iter-alias-iterator.ensures.into_iter_gives in
    let aliases : start.a.rest.now ≡ c.args.new.now = ap (λ z. z.a.rest.now) same ∙ ap (λ i. i.rest.now) c.zip-alias-items.ensures.first ∙ c.iter.ensures.rest in
    let replies : start.b.rest.now ≡ c.args.replies.now = ap (λ z. z.b.rest.now) same ∙ c.zip-alias-items.ensures.second.0 in
    record {
      can = (tt, tt);
      ends = tt;
      table = λ i. named_all c.args.aliases.now.table (aliases i) (replies i);
      room = subst (λ l. count_set l ≤ c.args.aliases.now.room) (sym aliases) c.requires.room;
      few = subst (λ l. length c.args.aliases.now.table + count_set l ≤ 1024) (sym aliases) c.requires.few;
    }

pub settle-requires-clause-room : goal.settle-requires-clause-room
settle-requires-clause-room c =
    let more = count_step c.in-Some.alias.now c.loop-alias.alias-iterator.a.rest.now c.next.new.self.a.rest.now c.in-Some.ensures.steps.0 in
    omega (arith, more, c.loop-alias.invariant.room)

pub settle-requires-clause-few : goal.settle-requires-clause-few
settle-requires-clause-few c =
    let more = count_step c.in-Some.alias.now c.loop-alias.alias-iterator.a.rest.now c.next.new.self.a.rest.now c.in-Some.ensures.steps.0 in
    omega (arith, more, c.loop-alias.invariant.few)

pub loop-alias-preserved : goal.loop-alias-preserved
loop-alias-preserved c =
    let before = c.loop-alias.invariant in
    let made = made_by (said (replied c.in-Some.reply.now)) in
    let more = count_step c.in-Some.alias.now c.loop-alias.alias-iterator.a.rest.now c.next.new.self.a.rest.now c.in-Some.ensures.steps.0 in
    record {
      can = (tt, tt);
      ends = tt;
      table =
          ap (λ t. named_all t c.next.new.self.a.rest.now c.next.new.self.b.rest.now) c.settle.ensures.table
          ∙ sym (named_step c.loop-alias.aliases.table c.in-Some.alias.now c.in-Some.reply.now c.in-Some.ensures.steps.0 c.in-Some.ensures.steps.1)
          ∙ before.table;
      room = omega (arith, more, before.room, c.settle.ensures.room);
      few = omega (arith, more, before.few, ap length c.settle.ensures.table, length-renamed c.loop-alias.aliases.table c.in-Some.alias.now made);
    }

pub returns : goal.returns
returns c =
    let table = c.loop-alias.aliases.table in
    let aliases = c.loop-alias.alias-iterator.a.rest.now in
    let replies = c.loop-alias.alias-iterator.b.rest.now in
    let ended : (length aliases ≡ 0) ⊎ (length replies ≡ 0) = elim c.in-None.ensures.steps as (λ _. (length aliases ≡ 0) ⊎ (length replies ≡ 0)) [ inl s ↦ inl s.1.0 | inr s ↦ inr s.1.0 ] in
    sym (named_end table aliases replies ended) ∙ c.loop-alias.invariant.table
