use Rattle.std.proofs.Common.{◌≡◌, ◌+◌, ◌++◌, ◌∙◌, ap, suc, length, arith}
use Rattle.fl_nodes.specs.parts.Delivering.{Sends}
use Rattle.fl_nodes.proofs.TellLemmas.{sends_all, sends_none, some_made}
use Rattle.fl_nodes.proofs.sending.send_all.Goals as goal

pub returns-in_default : goal.returns-in_default
returns-in_default c = Sends.no_room c.in_default.ensures.wants

pub returns-in-Ok-append : goal.returns-in-Ok-append
returns-in-Ok-append c =
    let first : c.len.result + 1 ≡ suc (length c.args.sent.now.items) = omega (arith, c.len.ensures, c.args.sent.now.ok.0) in
    sends_all _ _ _ _ _ _ first (c.len-count.ensures ∙ c.args.told.ok.0)
    (c.in-Ok-append.ensures.items ∙ ap (λ l. c.args.sent.now.items ++ l) c.in-Ok.ensures.ok)

pub returns : goal.returns
returns c =
    sends_none _ _ _ _ (some_made _ _ _ c.in-Ok.ensures.ok (omega (arith, c.in-Err.ensures.full, c.args.sent.now.ok, c.in-Ok.made.ok))) c.in-Err.ensures.items
