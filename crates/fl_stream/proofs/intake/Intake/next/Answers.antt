use Rattle.std.proofs.Common.{◌+◌, ◌≤◌, ◌≡◌, ◌∙◌, subst, sym, false, true, arith, rules}
use Rattle.fl_sink.specs.laws.Passing.{on_err_always, cuts_behind}
use Rattle.fl_stream.specs.Served.{HasNoFeed}
use Rattle.fl_stream.specs.Intake.{may_ask}
use Rattle.fl_stream.proofs.HearLemmas.{on_err_if, passed_written, passes_written, cuts_written, no_feed_waiting, more_held, more_then, hands_out, hands_out_last, hands_out_less, no_more_then, cause_then}
use Rattle.fl_stream.specs.laws.Hearing.{if_some_grown}
use Rattle.fl_stream.proofs.intake.Intake.next.Goals as goal

pub returns-in_err-send-clause-err : goal.returns-in_err-send-clause-err
returns-in_err-send-clause-err g c = on_err_always _ (cuts_behind c.hearing.invariant.passed c.in_err-send.ensures.err)

pub hear-requires-clause-answered : goal.hear-requires-clause-answered
hear-requires-clause-answered g c =
    let more = c.hearing.invariant.more in
    let goes_on : c.args.self.now.has_ended ≡ false = search rules in
    let no_feed = no_feed_waiting c.hearing.self c.hearing-test.ensures.none c.hearing-test.ensures.none_behind in
    let said = c.in_ok-send.ensures.said in
    if_some_grown _ _ (λ bytes. g.C.Conversation.may_hear bytes (g.C.Conversation.said c.send.new.output)) more.bytes more.hears.grown_by
    (c.requires.due more.bytes _ goes_on (subst HasNoFeed more.behind no_feed) (rw said (passed_written _ c.hearing.invariant.passed c.in_ok-send.ensures.ok)))

pub returns-in_err-hear-clause-no_more : goal.returns-in_err-hear-clause-no_more
returns-in_err-hear-clause-no_more g c =
    let cut = c.hearing-test.ensures in
    let hold = c.in_ok-hold.ensures in
    let more = more_held c.cut.new.self c.hold.new.self c.hearing.invariant.more cut.held cut.rest cut.room hold.held hold.rest hold.room in
    on_err_if _ _ (no_more_then more c.in_err-hear.ensures.no_more)

pub returns-in_err-hear-clause-written : goal.returns-in_err-hear-clause-written
returns-in_err-hear-clause-written g c = on_err_if _ _ (passed_written _ c.hearing.invariant.passed c.in_ok-send.ensures.ok)

pub returns-in_err-hear-clause-cause : goal.returns-in_err-hear-clause-cause
returns-in_err-hear-clause-cause g c =
    let cut = c.hearing-test.ensures in
    let hold = c.in_ok-hold.ensures in
    let more = more_held c.cut.new.self c.hold.new.self c.hearing.invariant.more cut.held cut.rest cut.room hold.held hold.rest hold.room in
    on_err_if _ _ (cause_then more c.in_err-hear.ensures.cause)

pub returns-in_err-hear-clause-err : goal.returns-in_err-hear-clause-err
returns-in_err-hear-clause-err g c = on_err_always _ (cuts_written (passed_written _ c.hearing.invariant.passed c.in_ok-send.ensures.ok))

pub returns-then-not-branch-clause-some : goal.returns-then-not-branch-clause-some
returns-then-not-branch-clause-some g c =
    let cut = c.hearing-test.ensures in
    let hold = c.in_ok-hold.ensures in
    let heard = c.in_ok-hear.ensures in
    let last = c.hand_out_last.ensures in
    let ended : c.in_ok-hear.field-0 ≡ false = search rules in
    let goes_on : c.args.self.now.has_ended ≡ false = search rules in
    let more = more_then (more_held c.cut.new.self c.hold.new.self c.hearing.invariant.more cut.held cut.rest cut.room hold.held hold.rest hold.room) heard.ok in
    let no_feed = no_feed_waiting c.cut.new.self (rw cut.held cut.none) (rw cut.rest cut.none_behind) in
    λ some. hands_out_last goes_on more (heard.all ended) (heard.none ended) (rw (heard.held, hold.held) no_feed) (rw some at last.some) (rw some at last.line) last.held last.none_behind last.room last.ended

pub returns-then-not-branch-clause-passed : goal.returns-then-not-branch-clause-passed
returns-then-not-branch-clause-passed g c = passes_written (passed_written _ c.hearing.invariant.passed c.in_ok-send.ensures.ok) c.in_ok-send.ensures.empty

pub hearing-preserved : goal.hearing-preserved
hearing-preserved g c =
    let cut = c.hearing-test.ensures in
    let hold = c.in_ok-hold.ensures in
    let heard = c.in_ok-hear.ensures in
    let more : c.in_ok-hear.field-0 ≡ true = search rules in
    let less = heard.less more in
    let goes_on : c.args.self.now.has_ended ≡ false = search rules in
    let live : c.hearing.self.has_ended ≡ false = search rules in
    let asked : g.C.Conversation.hearings c.hearing.input + (c.hearing.self.room + 1) ≤ g.C.Conversation.hearings c.args.input.now + may_ask c.args.self.now = rw live at c.hearing.invariant.asked in
    record {
      more = more_then (more_held c.cut.new.self c.hold.new.self c.hearing.invariant.more cut.held cut.rest cut.room hold.held hold.rest hold.room) heard.ok;
      ended = heard.ended ∙ sym goes_on;
      still = λ ended. cc;
      passed = passes_written (passed_written _ c.hearing.invariant.passed c.in_ok-send.ensures.ok) c.in_ok-send.ensures.empty;
      asked = rw heard.ended (omega (arith, asked, less, heard.once, hold.room, cut.room));
    }

pub returns-clause-less : goal.returns-clause-less
returns-clause-less g c = λ _. hands_out_less (hands_out (search rules) c.hearing.invariant.more c.hearing-test.ensures.line c.hearing-test.ensures.room)
