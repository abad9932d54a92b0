use Rattle.std.proofs.Common.{None, rules}
use Rattle.fl_sink.specs.laws.Passing.{on_err_always}
use Rattle.fl_script.specs.Reading.{IsReading}
use Rattle.fl_script.specs.declared.line.Line.TheVariants as line
use Rattle.fl_script.specs.declared.reading.Reading.TheVariants as reading
use Rattle.fl_script.specs.declared.request.Request.TheVariants as requests
use Rattle.fl_calls.specs.declared.response.Response.TheVariants as calls
use Rattle.fl_cluster.specs.declared.response.Response.TheVariants as response
use Rattle.fl_cluster.proofs.Failures.{says_failed, says_reply}
use Rattle.fl_cluster.proofs.Turning.{turns_named, passes_answer, cuts_answer}
use Rattle.fl_cluster.proofs.session.Session.answer_plain.Goals as goal

pub returns-in_ok-write_world_reply-in-Node-default-Job-clause-ok :
    goal.returns-in_ok-write_world_reply-in-Node-default-Job-clause-ok
returns-in_ok-write_world_reply-in-Node-default-Job-clause-ok g c = λ bytes said.
    let read = c.in-Node-default-Job in
    let asked = line.Node read.node (requests.Job read.job) in
    let reply = response.Said (calls.Reply c.work-reply.result) in
    let says : IsReading c.args.self.now.aliases bytes (reading.Means asked None) = rw (read.is, read.request-is) at said in
    passes_answer g.M.K.Keeper.custody g.M.MakesKeepers.making
    _ _ _ _ reply _ c.reply_status.ensures
    (turns_named g.M.K.Keeper.custody g.M.MakesKeepers.making _ _ bytes asked None reply says c.work-reply.ensures.names)
    (λ three. record {
      line = asked;
      alias = None;
      says = says;
      fails = c.work-reply.ensures.cause (says_reply _ (says_failed _ three));
    })
    c.in_ok-write_world_reply-in-Node-default-Job.ensures.puts.is

pub returns-in_err-write_world_reply-in-Node-default-Job-clause-err :
    goal.returns-in_err-write_world_reply-in-Node-default-Job-clause-err
returns-in_err-write_world_reply-in-Node-default-Job-clause-err g c = λ bytes said.
    let read = c.in-Node-default-Job in
    let asked = line.Node read.node (requests.Job read.job) in
    let reply = response.Said (calls.Reply c.work-reply.result) in
    let says : IsReading c.args.self.now.aliases bytes (reading.Means asked None) = rw (read.is, read.request-is) at said in
    on_err_always _ (cuts_answer g.M.K.Keeper.custody g.M.MakesKeepers.making
    _ _ _ _ reply
    (turns_named g.M.K.Keeper.custody g.M.MakesKeepers.making _ _ bytes asked None reply says c.work-reply.ensures.names)
    (λ three. record {
      line = asked;
      alias = None;
      says = says;
      fails = c.work-reply.ensures.cause (says_reply _ (says_failed _ three));
    })
    c.in_err-write_world_reply-in-Node-default-Job.ensures.puts.is)

pub returns-in_default-clause-ok : goal.returns-in_default-clause-ok
returns-in_default-clause-ok g c = λ bytes said. c.answer_meant.ensures.ok bytes (search rules)

pub returns-in_default-clause-err : goal.returns-in_default-clause-err
returns-in_default-clause-err g c = λ bytes said. c.answer_meant.ensures.err bytes (search rules)
