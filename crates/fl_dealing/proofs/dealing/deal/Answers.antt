use Rattle.std.proofs.Common.{suc, List, sym, subst, length, arith}
use Rattle.fl_worker.specs.declared.task.Task.{Task}
use Rattle.fl_dealing.specs.Dealt.{AreHome, Rise, owners_of}
use Rattle.fl_dealing.proofs.Deals.{all_tasks}
use Rattle.fl_dealing.proofs.Homes.{homes, rises}
use Rattle.fl_dealing.proofs.dealing.deal.Goals as goal

pub returns-clause-homes : goal.returns-clause-homes
returns-clause-homes c i q h =
    subst (λ (ts : List Task). AreHome c.args.workers (suc i) ts)
    (sym (all_tasks c.args.workers c.args.procs c.in_ok-dealt.dealt c.add_all.new.self _
    c.in_ok-dealt.ensures c.in_ok-add_all.ensures i q h))
    (homes c.args.workers c.args.procs (suc i) 0 c.args.items.items)

pub returns-clause-rise : goal.returns-clause-rise
returns-clause-rise c i q h =
    subst (λ (ts : List Task). Rise 0 (length c.args.items.items) ts)
    (sym (all_tasks c.args.workers c.args.procs c.in_ok-dealt.dealt c.add_all.new.self _
    c.in_ok-dealt.ensures c.in_ok-add_all.ensures i q h))
    (rises (suc i) 0 (length c.args.items.items)
    (owners_of c.args.workers c.args.procs c.args.items.items)
    c.args.items.items (omega arith))
