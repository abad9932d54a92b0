use Rattle.std.proofs.lemmas.Option.{IfSome_then}
use Rattle.std.proofs.lemmas.Result.{IfOk-weaker, on_err_weaker}
use Rattle.fl_turns.specs.laws.Lasting.{lasts_script}
use Rattle.fl_turns.specs.laws.Scripts.{runs_script, runs_first}
use Rattle.fl_cluster.proofs.run.converse.Goals as goal

pub returns-clause-one_run : goal.returns-clause-one_run
returns-clause-one_run g c =
    IfOk-weaker c.converse.result.1 _ _ (λ status h. IfSome_then _ h (λ script p.
    runs_script g.M.K.Keeper.custody g.M.MakesKeepers.making
    c.args.keepers _ _ script status _ p)) (rw c.new-session.ensures at c.converse.ensures.ok)

pub returns-clause-first_run : goal.returns-clause-first_run
returns-clause-first_run g c =
    on_err_weaker c.converse.result.1 (λ h. IfSome_then _ h (λ script p.
    runs_first g.M.K.Keeper.custody g.M.MakesKeepers.making
    c.args.keepers _ _ script _ p)) (rw c.new-session.ensures at c.converse.ensures.err)

pub returns-clause-lasting : goal.returns-clause-lasting
returns-clause-lasting g c =
    IfOk-weaker c.converse.result.1 _ _ (λ status h. IfSome_then _ h (λ script p.
    lasts_script g.M.K.Keeper.custody g.M.MakesKeepers.making
    c.args.keepers c.law_headline.ensures c.law_lasting.ensures c.law_exchange.ensures.spreads
    c.law_exchange.ensures.union _ _ script status _ p))
    (rw c.new-session.ensures at c.converse.ensures.ok)

pub returns-clause-ok : goal.returns-clause-ok
returns-clause-ok g c = rw c.new-session.ensures at c.converse.ensures.ok

pub converse-requires-clause-due : goal.converse-requires-clause-due
converse-requires-clause-due g c =
    rw c.new-session.ensures (λ heard said mid answered _. c.requires.due heard said mid answered)
