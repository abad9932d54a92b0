use Rattle.std.proofs.Common.{inl, inr, ap, ◌∙◌, arith}
use Rattle.sqlite.specs.Held.{state}
use Rattle.sqlite.specs.State.{HasCleanDisk}
use Rattle.fl_sql_store.proofs.KeepLemmas.{stays_quiet}
use Rattle.fl_sql_store.proofs.RewriteLemmas.{rewrites_after, leaves_after, leaves_quiet, stays_on, refuses_after, on_ok_then, if_err_then}
use Rattle.fl_sql_store.proofs.open.own_on.Goals as goal

pub migrate_on-requires-clause-former : goal.migrate_on-requires-clause-former
migrate_on-requires-clause-former g c clean =
    let old = state g.S.Store c.args.conn.now in
    let mid = state g.S.Store c.itself_on.new.conn in
    let one = rw c.in-Ok-One.field-0-is at (c.in-Ok-One.ensures.own clean) in
    let same = c.in-Ok-One.ensures.same clean in
    (c.in-Ok-One.ensures.ready clean, (one.0, one.1, ap (λ d. d.trees 0) same.0.now_is ∙ one.2))

pub returns-in-Ok-Two-clause-opens : goal.returns-in-Ok-Two-clause-opens
returns-in-Ok-Two-clause-opens g c clean =
    inl (c.requires.ours, rw c.in-Ok-Two.field-0-is at (c.in-Ok-Two.ensures.own clean), c.in-Ok-Two.ensures.same clean)

pub returns-in-Ok-Two-clause-held : goal.returns-in-Ok-Two-clause-held
returns-in-Ok-Two-clause-held g c clean = stays_quiet c.args.number (state g.S.Store c.args.conn.now) (state g.S.Store c.itself_on.new.conn) clean c.itself_on.ensures.survives

pub returns-in-Ok-One-clause-opens : goal.returns-in-Ok-One-clause-opens
returns-in-Ok-One-clause-opens g c clean =
    let old = state g.S.Store c.args.conn.now in
    let mid = state g.S.Store c.itself_on.new.conn in
    let new = state g.S.Store c.migrate_on.new.conn in
    let early : HasCleanDisk mid = omega (arith, c.migrate_on.ensures.clean, clean) in
    let one = rw c.in-Ok-One.field-0-is at (c.in-Ok-One.ensures.own early) in
    on_ok_then c.migrate_on.result (c.migrate_on.ensures.rewrites clean)
    (λ h. inr (c.requires.ours, one, rewrites_after c.args.number old mid new (c.in-Ok-One.ensures.same early) h))

pub returns-in-Ok-One-clause-refuses : goal.returns-in-Ok-One-clause-refuses
returns-in-Ok-One-clause-refuses g c clean =
    let old = state g.S.Store c.args.conn.now in
    let mid = state g.S.Store c.itself_on.new.conn in
    let new = state g.S.Store c.migrate_on.new.conn in
    let early : HasCleanDisk mid = omega (arith, c.migrate_on.ensures.clean, clean) in
    let one = rw c.in-Ok-One.field-0-is at (c.in-Ok-One.ensures.own early) in
    let first = c.itself_on.ensures.survives in
    if_err_then c.migrate_on.result (c.migrate_on.ensures.refuses clean)
    (λ fault h. inr (c.requires.ours, one, refuses_after old mid new (c.in-Ok-One.ensures.same early) first.counts first.limit fault h))

pub returns-in-Ok-One-clause-held : goal.returns-in-Ok-One-clause-held
returns-in-Ok-One-clause-held g c clean =
    let old = state g.S.Store c.args.conn.now in
    let mid = state g.S.Store c.itself_on.new.conn in
    let new = state g.S.Store c.migrate_on.new.conn in
    let early : HasCleanDisk mid = omega (arith, c.migrate_on.ensures.clean, clean) in
    stays_on c.args.number old mid new (stays_quiet c.args.number old mid early c.itself_on.ensures.survives) (c.migrate_on.ensures.held clean)

pub returns-in-Err-clause-held : goal.returns-in-Err-clause-held
returns-in-Err-clause-held g c clean = stays_quiet c.args.number (state g.S.Store c.args.conn.now) (state g.S.Store c.itself_on.new.conn) clean c.itself_on.ensures.survives

pub returns-in-Err-clause-refuses : goal.returns-in-Err-clause-refuses
returns-in-Err-clause-refuses g c clean = inl (c.in-Err.ensures.refuses clean)

pub returns-in-Ok-Two-clause-leaves : goal.returns-in-Ok-Two-clause-leaves
returns-in-Ok-Two-clause-leaves g c = leaves_quiet (state g.S.Store c.args.conn.now) (state g.S.Store c.itself_on.new.conn) _ c.itself_on.ensures.survives

pub returns-in-Ok-One-clause-leaves : goal.returns-in-Ok-One-clause-leaves
returns-in-Ok-One-clause-leaves g c =
    leaves_after c.args.number (state g.S.Store c.args.conn.now) (state g.S.Store c.itself_on.new.conn) (state g.S.Store c.migrate_on.new.conn)
    c.itself_on.ensures.survives c.migrate_on.ensures.leaves c.in-Ok-One.ensures.same

pub returns-in-Err-clause-leaves : goal.returns-in-Err-clause-leaves
returns-in-Err-clause-leaves g c = leaves_quiet (state g.S.Store c.args.conn.now) (state g.S.Store c.itself_on.new.conn) _ c.itself_on.ensures.survives
