use Rattle.std.proofs.Common.{◌∙◌, ap, arith, length, subst, sym}
use Rattle.std.specs.FinMap as map
use Rattle.std.specs.List.{Contains}
use Rattle.std.specs.List.Sorted.{IsStrictlySortedBy}
use Rattle.std.specs.Option.{option_copied}
use Rattle.fl_labels.specs.Pid.{pid_cmp}
use Rattle.fl_labels.specs.PidOrder.{pid_total}
use Rattle.fl_bench.specs.Process.{newborn}
use Rattle.fl_explanations.proofs.Entries.{entry_is, entry_there, within}
use Rattle.fl_explanations.proofs.Holders.{keys_rise, on_err, owner_here, owner_not, owners_all, owners_more, owners_none, owners_other}
use Rattle.fl_explanations.proofs.who.owners.Goals.{then-one_leads+in_ok-push, else-one_leads}
use Rattle.fl_explanations.proofs.who.owners.Goals as goal

pub loop-pid-init : goal.loop-pid-init
loop-pid-init c = rw (c.new-made.ensures.items)
    (owners_none c.args.target.ops.now c.args.bench.now c.args.target.cap)

pub unreachable-requires : goal.unreachable-requires
unreachable-requires c =
    let are = c.requires.pids in
    entry_there pid_total c.args.bench.now.processes c.loop-pid.pid-index c.pid-item.result
    (rw are at c.loop-pid-test.true) (rw are at c.pid-item.is) newborn
    (sym c.process.ensures ∙ ap option_copied c.in_default.is)

pub returns-in_err-push-clause-memory : goal.returns-in_err-push-clause-memory
returns-in_err-push-clause-memory c = on_err c.from_residual.result (λ empty.
    let few = ap length empty in
    let inside = c.loop-pid-test.true in
    omega (arith, few, inside))

pub loop-pid-preserved : goal.loop-pid-preserved
loop-pid-preserved c =
    let ops = c.args.target.ops.now in
    let bench = c.args.bench.now in
    let are = c.requires.pids in
    let pid = c.pid-item.result in
    let i = c.loop-pid.pid-index in
    let process = c.in-Some.process.now in
    let inside = rw are at c.loop-pid-test.true in
    let at = rw are at c.pid-item.is in
    let is = entry_is pid_total bench.processes i pid inside at process
    (sym c.process.ensures ∙ ap option_copied c.in-Some.is) in
    let there : Contains (map.entries bench.processes) (pid, process) =
    (i, within pid_total bench.processes i pid inside at, sym is) in
    let rise : IsStrictlySortedBy pid_cmp c.args.pids.now =
    subst (IsStrictlySortedBy pid_cmp) (sym are) (keys_rise pid_cmp bench.processes) in
    elim c.if-one_leads.branch [
      | then-one_leads+in_ok-push w ↦ rw (w.made-is)
          (owners_more ops bench c.args.target.cap c.args.pids.now rise i pid c.loop-pid-test.true
          c.pid-item.is c.loop-pid.made.items c.loop-pid.invariant w.push.new.self.items
          (owner_here ops bench c.args.target.cap pid process there
          (rw c.as_slice.ensures at (c.one_leads.ensures.holds w.if-one_leads.true)))
          w.in_ok-push.ensures.items)
      | else-one_leads w ↦ rw (w.made-is)
          (owners_other ops bench c.args.target.cap c.args.pids.now rise i pid c.loop-pid-test.true
          c.pid-item.is c.loop-pid.made.items c.loop-pid.invariant
          (owner_not ops bench c.args.target.cap pid process there
          (rw c.as_slice.ensures at (c.one_leads.ensures.fails w.if-one_leads.false))))
    ]

pub returns-clause-found : goal.returns-clause-found
returns-clause-found c =
    owners_all c.args.target.ops.now c.args.bench.now c.args.target.cap c.args.pids.now _
    c.loop-pid.made.items c.loop-pid-test.false c.requires.pids c.loop-pid.invariant
