use Rattle.std.proofs.Common.{◌≡◌, None, rules}
use Rattle.fl_crew_calls.specs.Joining.{FindsAgainst}
use Rattle.fl_crew_calls.proofs.joining.against.Goals as goal

pub returns-in-Some-clause-found : goal.returns-in-Some-clause-found
returns-in-Some-clause-found g c =
    FindsAgainst.clash (rw c.in-Some.is at c.least_clash_with.ensures.least)

pub returns-in-Some-least_stray_with-clause-found : goal.returns-in-Some-least_stray_with-clause-found
returns-in-Some-least_stray_with-clause-found g c =
    let none : c.least_clash_with.result ≡ None = search rules in
    FindsAgainst.stray (rw none at c.least_clash_with.ensures.least)
    (rw c.in-Some-least_stray_with.is at c.least_stray_with.ensures)

pub returns-in-None-clause-found : goal.returns-in-None-clause-found
returns-in-None-clause-found g c =
    let none : c.least_clash_with.result ≡ None = search rules in
    FindsAgainst.nothing (rw none at c.least_clash_with.ensures.least)
    (rw c.in-None.is at c.least_stray_with.ensures)
