use Rattle.std.proofs.Common.{subst}
use Rattle.fl_ops.specs.Registry.{From, Listed, Reach}
use Rattle.fl_chains.specs.declared.logins.Login.{Login}
use Rattle.fl_chains.proofs.Entries.{entries_none, entries_more, entries_other, entries_all, made_login, rising_logins, same_told, none_told}
use Rattle.fl_chains.proofs.Ways.{item_there, on_err}
use Rattle.fl_chains.proofs.logins.logins_to.Goals.{in-Some+then-leads+in_ok-push, in-Some+else-leads, in_default}
use Rattle.fl_chains.proofs.logins.logins_to.Goals as goal

pub loop-op-init : goal.loop-op-init
loop-op-init c = rw (c.new-logins.ensures.items)
    (entries_none (Listed c.args.target.ops.now) c.args.target.cap)

pub returns-in_err-push-clause-memory : goal.returns-in_err-push-clause-memory
returns-in_err-push-clause-memory c =
    let ops = c.args.target.ops.now in
    on_err c.from_residual.result (
      c.in-Some.login,
      made_login ops c.args.target.cap c.op-item.result
          (item_there ops _ c.op-item.result c.loop-op-test.true c.op-item.is) c.in-Some.login
          ((c.login_of.ensures c.in-Some.login).0 c.in-Some.is)
          (c.leads.ensures.holds c.if-leads.true),
    )

pub loop-op-preserved : goal.loop-op-preserved
loop-op-preserved c =
    let ops = c.args.target.ops.now in
    let U = Listed ops in
    elim c.match-login_of.branch [
      | in-Some+then-leads+in_ok-push w ↦ rw (w.logins-is)
          (entries_more U c.args.target.cap ops _ c.op-item.result c.loop-op-test.true c.op-item.is
          c.loop-op.logins.items c.loop-op.invariant c.login_of.result c.login_of.ensures
          w.push.new.self.items w.in-Some.login w.in-Some.is
          (w.leads.ensures.holds w.if-leads.true) w.in_ok-push.ensures.items)
      | in-Some+else-leads w ↦ rw (w.logins-is)
          (entries_other U c.args.target.cap ops _ c.op-item.result c.loop-op-test.true c.op-item.is
          c.loop-op.logins.items c.loop-op.invariant c.login_of.result c.login_of.ensures
          (λ l is. subst (λ (x : Login). ¬ Reach U (From x.cap) c.args.target.cap)
          (same_told w.in-Some.is is) (w.leads.ensures.fails w.if-leads.false)))
      | in_default w ↦ rw (w.logins-is)
          (entries_other U c.args.target.cap ops _ c.op-item.result c.loop-op-test.true c.op-item.is
          c.loop-op.logins.items c.loop-op.invariant c.login_of.result c.login_of.ensures
          (λ l is. absurd (none_told w.in_default.is is)))
    ]

pub returns-clause-found : goal.returns-clause-found
returns-clause-found c =
    let ops = c.args.target.ops.now in
    rising_logins ops c.args.target.cap c.loop-op.logins.items c.arrange.new.items.items
    (entries_all (Listed ops) c.args.target.cap ops _ c.loop-op.logins.items
    c.loop-op-test.false c.loop-op.invariant) c.arrange.ensures
