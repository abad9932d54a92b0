use Rattle.std.proofs.Common.{◌++◌, ap, ◌∙◌, append_assoc}
use Rattle.fl_ops.specs.declared.format.Format.TheVariants.{Two}
use Rattle.fl_ops.specs.Bytes.{name_bytes, cap_bytes}
use Rattle.fl_ops.proofs.writing.push_body.Goals as goal

pub returns-in_ok-push_cap-in-Put-clause-ok : goal.returns-in_ok-push_cap-in-Put-clause-ok
returns-in_ok-push_cap-in-Put-clause-ok c =
    rw c.in-Put.is (c.in_ok-push_cap-in-Put.ensures.ok ∙ ap (λ l. l ++ cap_bytes Two c.in-Put.cap) c.in_ok-push_name-in-Put.ensures.ok
    ∙ append_assoc c.args.out.now.items (name_bytes Two c.in-Put.group) (cap_bytes Two c.in-Put.cap))
