use Rattle.std.proofs.Common.{◌≡◌, ◌∙◌, sym, ap, take, drop, length, ◌-◌, ◌++◌, arith}
use Rattle.std.proofs.lemmas.List.{length-take-le}
use Rattle.fl_desks.proofs.DeskSees.{more_seen}
use Rattle.fl_desks.proofs.Views.{take_on}
use Rattle.fl_desks.proofs.desk.Desk.rise.Goals as goal

pub invariant_of-self-2 : goal.invariant_of-self-2
invariant_of-self-2 c =
    let list = c.args.list.now in
    let seen = c.args.self.now.seen in
    let more = take (c.args.count - seen) (drop seen list) in
    let front : c.add_all.new.self ≡ take c.args.count list =
    c.add_all.ensures ∙ ap (λ front. front ++ more) c.requires.front
    ∙ take_on list seen c.args.count (omega (arith, c.if-count-self.false)) in record {
      counted = sym (ap length front ∙ length-take-le c.args.count list c.requires.within);
      indexed = more_seen _ more _ _ _ c.args.self.now.indexed c.add_all.ensures c.in_ok-absorb_all.ensures.ok;
    }

pub returns-clause-front : goal.returns-clause-front
returns-clause-front c =
    let list = c.args.list.now in
    let seen = c.args.self.now.seen in
    let more = take (c.args.count - seen) (drop seen list) in
    c.add_all.ensures ∙ ap (λ front. front ++ more) c.requires.front
    ∙ take_on list seen c.args.count (omega (arith, c.if-count-self.false))
