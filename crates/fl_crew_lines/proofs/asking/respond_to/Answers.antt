use Rattle.std.proofs.Common.{subst, sym}
use Rattle.fl_calls.specs.Answer.{shown_alone}
use Rattle.fl_crew_calls.specs.Calls.{RespondsTo}
use Rattle.fl_crew_lines.proofs.asking.respond_to.Goals as goal

pub returns-in-Union : goal.returns-in-Union
returns-in-Union g c =
    subst (λ l. RespondsTo g.M.K.Keeper.custody g.M.MakesKeepers.making c.args.crews.now l (shown_alone c.union.result) c.union.new.crews)
    (sym c.in-Union.is) c.union.ensures
