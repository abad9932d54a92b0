use Rattle.std.proofs.Common.{◌≡◌, false, true, refl, rules}
use Rattle.fl_gossip.proofs.Fronts.{unknown, may_begin, had_already}
use Rattle.fl_gossip.proofs.taking.is_new.Goals as goal

pub returns-then-op-me : goal.returns-then-op-me
returns-then-op-me c =
    let other : c.begins_with.result ≡ false = search rules in
    (refl, c.if-op-me.true, unknown c.args.me c.args.members.now c.requires.rise c.args.op.now c.requires.from (c.begins_with.ensures.fails other))

pub returns-then-not-begins_with : goal.returns-then-not-begins_with
returns-then-not-begins_with c =
    let other : c.begins_with.result ≡ false = search rules in
    may_begin c.args.me c.args.members.now c.requires.rise c.args.op.now c.requires.from (c.begins_with.ensures.fails other) c.if-op-me.false

pub returns : goal.returns
returns c =
    let named : c.begins_with.result ≡ true = search rules in
    had_already c.args.me c.args.members.now c.requires.rise c.args.op.now c.requires.from (c.begins_with.ensures.holds named) (c.has_other.ensures.alone c.if-has_other.false)
