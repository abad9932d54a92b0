use Rattle.std.proofs.Common.{}
use Rattle.fl_crew_turns.specs.Naming.{BeginsWithOne}
use Rattle.fl_crew_turns.proofs.Dollars.{both, named_behind, named_nowhere, not_true}
use Rattle.fl_crew_turns.proofs.naming.is_named_in.Goals as goal

pub loop-behind-preserved : goal.loop-behind-preserved
loop-behind-preserved c =
    let cut = c.in-Some.ensures in
    let none : ¬ BeginsWithOne c.args.aliases.now c.in-Some.behind.now = λ one. not_true (c.if-begins_with_one.ensures.1 one) in
    both c.loop-behind.invariant (named_behind c.args.aliases.now c.loop-behind.rest.now cut.0 c.in-Some.behind.now cut.1 cut.2 none)

pub returns : goal.returns
returns c = ((λ e. absurd (not_true e)), (λ named. absurd (named_nowhere c.args.aliases.now c.loop-behind.rest.now c.in_default.ensures (c.loop-behind.invariant.0 named))))
