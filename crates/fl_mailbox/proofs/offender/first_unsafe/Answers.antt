use Rattle.std.proofs.Common.{Some, None}
use Rattle.std.specs.Map.Iter.{deref_pair}
use Rattle.std.proofs.lemmas.Map.Iter.{rest_more, rest_all}
use Rattle.fl_rules.specs.Labels.{sets_of}
use Rattle.fl_mailbox.proofs.Searches.{passed_safe, stopped_unsafe, at_end, unsafe_found}
use Rattle.fl_mailbox.proofs.offender.first_unsafe.Goals as goal

pub returns-in-Some-safe_endpoint-clause-found : goal.returns-in-Some-safe_endpoint-clause-found
returns-in-Some-safe_endpoint-clause-found g c =
    let E = g.H.Has.effective c.args.has.now in
    let process = sets_of c.args.process in
    let first = Some (record { endpoint = c.in-Some.endpoint.now; tag = c.in-Some-safe_endpoint.tag }) in
    let alike = g.met.H.Has.keeps_effective _ _ c.loop-endpoint.invariant.same in
    let split = rest_more deref_pair _ _ _ (c.in-Some.endpoint, c.in-Some.opened) c.in-Some.is c.next.ensures.steps in
    unsafe_found E process c.args.endpoints.now first (c.loop-endpoint.invariant.first first (stopped_unsafe E process alike _ _ _ c.in-Some.opened.now _ split c.lend.ensures c.in-Some-safe_endpoint.tag c.in-Some-safe_endpoint.ensures.found))

pub loop-endpoint-preserved : goal.loop-endpoint-preserved
loop-endpoint-preserved g c =
    let alike = g.met.H.Has.keeps_effective _ _ c.loop-endpoint.invariant.same in
    let split = rest_more deref_pair _ _ _ (c.in-Some.endpoint, c.in-Some.opened) c.in-Some.is c.next.ensures.steps in
    record {
      same = g.met.H.Has.keeps_on _ _ _ c.loop-endpoint.invariant.same c.safe_endpoint.ensures.same;
      first =
          λ r h. c.loop-endpoint.invariant.first r (passed_safe _ (sets_of c.args.process) alike _ _ _ c.in-Some.opened.now _ split c.lend.ensures c.in_default.ensures.found r h);
    }

pub returns-clause-found : goal.returns-clause-found
returns-clause-found g c =
    let E = g.H.Has.effective c.args.has.now in
    let process = sets_of c.args.process in
    unsafe_found E process c.args.endpoints.now None (c.loop-endpoint.invariant.first None (at_end E process _ (rest_all deref_pair _ _ _ c.in-None.is c.next.ensures.steps)))
