use Rattle.std.proofs.Common.{◌≡◌, refl}
use Rattle.fl_calls.specs.Answer as says
use Rattle.fl_machine_turns.specs.Answer.{bad_line}
use Rattle.fl_machine_turns.specs.Answer as answers
use Rattle.fl_machine.specs.Shown.{Shows}
use Rattle.fl_machine.specs.declared.response.Response.TheVariants as response
use Rattle.fl_machine.proofs.Lines.{tells_so}
use Rattle.fl_machine.proofs.Statuses.{no_three, one_is_not_three}
use Rattle.fl_machine.proofs.asking.respond.Goals as goal

pub returns-in-Quiet : goal.returns-in-Quiet
returns-in-Quiet g c =
    rw c.in-Quiet.is (tells_so g.K.Keeper.custody c.args.node.now c.args.keys.now
    (λ s answer. answer ≡ answers.silence) response.Silence answers.silence Shows.silence
    (λ k. refl) no_three)

pub returns-in-Bad : goal.returns-in-Bad
returns-in-Bad g c =
    rw c.in-Bad.is (tells_so g.K.Keeper.custody c.args.node.now c.args.keys.now
    (λ s answer. answer ≡ bad_line) response.Unknown bad_line Shows.unknown
    (λ k. refl) one_is_not_three)

pub returns-in-Echo : goal.returns-in-Echo
returns-in-Echo g c =
    rw c.in-Echo.is (tells_so g.K.Keeper.custody c.args.node.now c.args.keys.now
    (λ s answer. answer ≡ answers.echoed c.in-Echo.word.now) (response.Echo c.in-Echo.word)
    (answers.echoed c.in-Echo.word.now) Shows.echoed
    (λ k. refl) no_three)

pub returns-in-Audit : goal.returns-in-Audit
returns-in-Audit g c =
    rw c.in-Audit.is (tells_so g.K.Keeper.custody c.args.node.now c.args.keys.now
    (λ s answer. answer ≡ answers.said (says.admitted c.args.admitted))
    (response.Admitted c.args.admitted)
    (answers.said (says.admitted c.args.admitted)) Shows.admitted
    (λ k. refl) no_three)

pub returns-in-Asks : goal.returns-in-Asks
returns-in-Asks g c = rw c.in-Asks.is c.respond_to.ensures
