use Rattle.fl_monitor.proofs.Given.{on_err}
use Rattle.fl_monitor.proofs.Gathering.{cap_lacks, next_cap, no_caps, under}
use Rattle.fl_monitor.proofs.wanting.note_all.Goals as goal

pub loop-cap-preserved : goal.loop-cap-preserved
loop-cap-preserved g c =
    let met = g.met.H.Has in
    let same = c.loop-cap.invariant.same in
    record {
      same = met.keeps_on _ _ _ same c.note.ensures.same;
      rest = λ s h. c.loop-cap.invariant.rest s (next_cap _ c.args.caps.now c.loop-cap.cap-index c.cap-item.result c.loop-cap-test.true c.cap-item.is c.loop-cap.wanting c.note.new.wanting s (under _ _ _ _ _ (met.keeps_effective _ _ same) c.in_ok-note.ensures.ok) h);
    }

pub returns-clause-ok : goal.returns-clause-ok
returns-clause-ok g c =
    c.loop-cap.invariant.rest _ (no_caps _ c.args.caps.now c.loop-cap.cap-index c.loop-cap-test.false c.loop-cap.wanting)

pub returns-in_err-note-clause-err : goal.returns-in_err-note-clause-err
returns-in_err-note-clause-err g c =
    let alike = g.met.H.Has.keeps_effective _ _ c.loop-cap.invariant.same c.cap-item.result in
    on_err c.from_residual.result (cap_lacks _ c.args.caps.now c.loop-cap.cap-index c.cap-item.result c.loop-cap-test.true c.cap-item.is (λ e. c.in_err-note.ensures.err (alike.1 e)))

pub returns-in_err-note-clause-same : goal.returns-in_err-note-clause-same
returns-in_err-note-clause-same g c = g.met.H.Has.keeps_on _ _ _ c.loop-cap.invariant.same c.note.ensures.same
