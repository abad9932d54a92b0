use Rattle.std.proofs.Common.{subst, sym}
use Rattle.std.specs.Option.{option_copied}
use Rattle.std.specs.Prelude.{◌≢◌, [], IfOk, OnErr}
use Rattle.fl_labels.specs.Pid.{pid_cmp}
use Rattle.fl_chains.specs.Rising.{AreRising}
use Rattle.fl_explanations.specs.Lines.{processes_at}
use Rattle.fl_explanations.specs.Who.{IsHolder}
use Rattle.fl_explanations.proofs.Holders.{holders_all, holders_found, holders_none, on_err, some_owner, some_there}
use Rattle.fl_explanations.proofs.who.holders.Goals as goal

pub returns-in_default-clause-found : goal.returns-in_default-clause-found
returns-in_default-clause-found c =
    subst (λ b. AreRising pid_cmp (IsHolder c.args.target.ops.now (option_copied b)
    c.args.target.cap) c.new.result.items) (sym c.in_default.is)
    (holders_none c.args.target.ops.now c.args.target.cap c.new.result.items c.new.ensures.items)

pub returns-in_err-pids-clause-memory : goal.returns-in_err-pids-clause-memory
returns-in_err-pids-clause-memory c = on_err c.from_residual.result
    (subst (λ b. processes_at (option_copied b) ≢ []) (sym c.in-Some.is)
    (some_there c.in-Some.bench.now c.in_err-pids.ensures.err))

pub returns-then-everybodys_lead-clause-found : goal.returns-then-everybodys_lead-clause-found
returns-then-everybodys_lead-clause-found c =
    subst (λ b. AreRising pid_cmp (IsHolder c.args.target.ops.now (option_copied b)
    c.args.target.cap) c.in_ok-pids.pids.items) (sym c.in-Some.is)
    (holders_all c.args.target.ops.now c.in-Some.bench.now c.args.target.cap
    c.in_ok-pids.pids.items c.in_ok-pids.ensures.ok
    (c.everybodys_lead.ensures.holds c.if-everybodys_lead.true))

pub returns-clause-found : goal.returns-clause-found
returns-clause-found c =
    subst (λ b. IfOk c.owners.result (λ made. AreRising pid_cmp
    (IsHolder c.args.target.ops.now (option_copied b) c.args.target.cap) made.items))
    (sym c.in-Some.is)
    (holders_found c.args.target.ops.now c.in-Some.bench.now c.args.target.cap
    (c.everybodys_lead.ensures.fails c.if-everybodys_lead.false) c.owners.result
    c.owners.ensures.found)

pub returns-clause-memory : goal.returns-clause-memory
returns-clause-memory c =
    subst (λ b. OnErr c.owners.result (processes_at (option_copied b) ≢ [])) (sym c.in-Some.is)
    (some_owner c.in-Some.bench.now c.in_ok-pids.pids.items c.in_ok-pids.ensures.ok c.owners.result
    (rw c.deref.ensures.value at c.owners.ensures.memory))
