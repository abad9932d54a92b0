use Rattle.std.proofs.Common.{◌∙◌, subst, sym}
use Rattle.fl_calls.specs.Answer.{shown_alone}
use Rattle.fl_crew_calls.specs.Asking.{ChecksAt}
use Rattle.fl_crew_lines.specs.parts.Once.{AsksOpen}
use Rattle.fl_crew_lines.proofs.Opening.{named}
use Rattle.fl_crew_lines.proofs.asking.ask.Goals as goal

pub deliver-requires-clause-sent : goal.deliver-requires-clause-sent
deliver-requires-clause-sent g c κs within = named c.args.crews.now c.args.request c.in-Deliver.packet c.in-Deliver.is c.requires.sent

pub returns-in-Deliver : goal.returns-in-Deliver
returns-in-Deliver g c =
    subst (λ r. AsksOpen g.M.K.Keeper.custody c.args.crews.now c.args.number r (shown_alone c.deliver.result) c.deliver.new.crews)
    (sym c.in-Deliver.is) c.deliver.ensures

pub returns-in-Tell : goal.returns-in-Tell
returns-in-Tell g c =
    subst (λ r. AsksOpen g.M.K.Keeper.custody c.args.crews.now c.args.number r (shown_alone c.tell.result) c.tell.new.crews)
    (sym c.in-Tell.is) c.tell.ensures

pub returns-in-Restart : goal.returns-in-Restart
returns-in-Restart g c =
    subst (λ r. AsksOpen g.M.K.Keeper.custody c.args.crews.now c.args.number r (shown_alone c.restart.result) c.restart.new.crews)
    (sym c.in-Restart.is) c.restart.ensures

pub returns-in-Text : goal.returns-in-Text
returns-in-Text g c =
    subst (λ r. AsksOpen g.M.K.Keeper.custody c.args.crews.now c.args.number r (shown_alone c.text.result) c.args.crews.now)
    (sym c.in-Text.is) c.text.ensures

pub returns-in-Check : goal.returns-in-Check
returns-in-Check g c =
    subst (λ r. AsksOpen g.M.K.Keeper.custody c.args.crews.now c.args.number r (shown_alone c.check.result) c.args.crews.now)
    (sym c.in-Check.is)
    (subst (λ b. ChecksAt c.args.crews.now c.args.number b (shown_alone c.check.result) c.args.crews.now)
    (c.as_slice.ensures ∙ c.deref.ensures) c.check.ensures)
