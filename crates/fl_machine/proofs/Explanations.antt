-- What is responded where something is to be explained.
use Rattle.std.proofs.Common.{List, Option, None, Some, Result, Ok, Err, IfOk, OnErr}
use Rattle.std.specs.declared.alloc.AllocError.{AllocError}
use Rattle.fl_labels.specs.Caps.{Caps}
use Rattle.fl_labels.specs.declared.cap.Cap.{Cap}
use Rattle.fl_ops.specs.declared.op.Op.{Op}
use Rattle.fl_seal.specs.declared.seal.Key.{Key}
use Rattle.fl_store.specs.Custody.{Custody}
use Rattle.fl_node.specs.Over.{NodeOver}
use Rattle.fl_system.specs.State.{NodeState}
use Rattle.fl_system.specs.Waiting.{IsRunning, NotRunning}
use Rattle.fl_system.specs.declared.answer.Fault.{Fault}
use Rattle.fl_system.specs.declared.reply.Reply.TheVariants.{Refused}
use Rattle.fl_explanations.specs.Why.{FindsWhy}
use Rattle.fl_explanations.specs.declared.why.First.{First}
use Rattle.fl_explanations.specs.declared.why.Why.{Why}
use Rattle.fl_machine_turns.specs.Answer.{Answer}
use Rattle.fl_machine_turns.specs.Explaining.{TellsWhy, WhereRunning}
use Rattle.fl_machine_turns.specs.Turn.{Tells}
use Rattle.fl_machine.specs.Shown.{Shows, why_response}
use Rattle.fl_machine.specs.parts.Responding.{Responds, ShowsOne}
use Rattle.fl_machine.specs.declared.response.Response.{Response}
use Rattle.fl_machine.specs.declared.response.Response.TheVariants as response
use Rattle.fl_machine.proofs.Coming.{not_running}
use Rattle.fl_machine.proofs.Lines.{tells_so}
use Rattle.fl_machine.proofs.Statuses.{no_three, refused_three}

-- where a chain was looked for, what was found is told
pub shows_why : (keys : List Key) (n : NodeState) (ops : List Op) (roots : Caps)
    (Begins : Cap → First → Type 0) (cap : Cap) (found : Result (Option Why) AllocError)
    → IfOk found (FindsWhy ops roots Begins cap) → OnErr found (¬ roots cap)
    → ShowsOne keys n (TellsWhy ops roots Begins cap) (why_response found)
shows_why keys n ops roots Begins cap (Ok (Some found)) is memory =
    record { answer = _; shows = Shows.because; is = TellsWhy.chain is; quiet = no_three }
shows_why keys n ops roots Begins cap (Ok None) none memory =
    record { answer = _; shows = Shows.replied; is = TellsWhy.none none; quiet = no_three }
shows_why keys n ops roots Begins cap (Err error) found memory =
    record { answer = _; shows = Shows.replied; is = TellsWhy.no_room memory; quiet = no_three }

-- an answer of these is one of those
pub shows_more : {keys : List Key} {n : NodeState} {P Q : Answer → Type 0} {r : Response}
    → ((answer : Answer) → P answer → Q answer) → ShowsOne keys n P r → ShowsOne keys n Q r
shows_more more one =
    record { answer = one.answer; shows = one.shows; is = more one.answer one.is; quiet = one.quiet }

module _ {K : Type 0} (custody : Custody K) (x : NodeOver K) (keys : List Key)
    (these : NodeState → Answer → Type 0)
  where
    pub explains_so : (r : Response) → IsRunning x.node.state → ShowsOne keys x.node (these x.node) r
        → Responds custody keys x (λ s. Tells s (WhereRunning s these)) r 0 x
    explains_so r running one =
        tells_so custody x keys (λ s. WhereRunning s these) r one.answer one.shows
        (λ k. WhereRunning.running running one.is) one.quiet

    pub explains_not : (fault : Fault) → NotRunning x.node.state fault
        → Responds custody keys x (λ s. Tells s (WhereRunning s these))
        (response.Reply (Refused fault)) 0 x
    explains_not fault why =
        tells_so custody x keys (λ s. WhereRunning s these) (response.Reply (Refused fault)) _
        Shows.replied (λ k. WhereRunning.stopped why)
        (refused_three fault (not_running x.node.state fault why))
