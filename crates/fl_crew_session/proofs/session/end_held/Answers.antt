use Rattle.std.proofs.Common.{◌∙◌, sym, true≢false}
use Rattle.fl_crew_turns.specs.Held.{held_jobs}
use Rattle.fl_crew_session.proofs.Turning.{ends_idle, serves_without}
use Rattle.fl_crew_session.proofs.session.end_held.Goals as goal

pub returns-then-is_empty-clause-ends : goal.returns-then-is_empty-clause-ends
returns-then-is_empty-clause-ends g c =
    rw c.none.ensures (ends_idle _ (rw c.replace-held.ensures.value at (c.is_empty.ensures.0 c.if-is_empty.true)) (c.replace-held.ensures.after ∙ c.new.ensures))

pub returns-in-Err-clause-ends : goal.returns-in-Err-clause-ends
returns-in-Err-clause-ends g c =
    let batch = c.into_batch-batch.ensures.batch in
    let empty = rw (← batch) at c.is_empty.ensures.1 in
    let sets = rw (c.count_aliases-count.ensures.count, ← batch) at c.in-Err.ensures.some in
    rw (c.in-Err.ensures.err, c.replace.ensures.value, c.replace-held.ensures.after, c.new.ensures, ← c.replace-held.ensures.value, ← batch)
    (serves_without _ (held_jobs c.into_batch-batch.result) _
    (λ none. absurd (true≢false (sym (empty none) ∙ c.if-is_empty.false))) sets (c.len.ensures ∙ c.into_batch-batch.result.jobs.ok.0))
