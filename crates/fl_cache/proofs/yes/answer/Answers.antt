use Rattle.std.proofs.Common.{sym, ap, ◌∙◌}
use Rattle.std.specs.Option.{is_some}
use Rattle.fl_cache.proofs.Asked.{found_yes, still_known, put_either, mapped_some}
use Rattle.fl_closure.specs.laws.Told.{told_yes}
use Rattle.fl_cache.proofs.yes.answer.Goals as goal

pub returns-then-is_some-clause-answer : goal.returns-then-is_some-clause-answer
returns-then-is_some-clause-answer c =
    told_yes (found_yes c.args.yes.now.entries c.args.question c.requires (ap is_some (sym c.get.ensures.value) ∙ mapped_some _ c.get.result (sym c.is_some.ensures ∙ c.if-is_some.true)))

pub returns-then-is_some-clause-kept : goal.returns-then-is_some-clause-kept
returns-then-is_some-clause-kept c = still_known c.args.yes.now _ c.args.question c.requires c.get.follows.holds-at-none

pub returns-then-reached-clause-kept : goal.returns-then-reached-clause-kept
returns-then-reached-clause-kept c =
    let known = still_known c.args.yes.now c.get.follows.lender-at-none c.args.question c.requires c.get.follows.holds-at-none in
    put_either _ _ c.args.question _ known (c.reaches-reached.ensures.holds c.if-reached.true) c.put.ensures.entries c.put.ensures.err

pub returns-else-reached-clause-kept : goal.returns-else-reached-clause-kept
returns-else-reached-clause-kept c = still_known c.args.yes.now _ c.args.question c.requires c.get.follows.holds-at-none
