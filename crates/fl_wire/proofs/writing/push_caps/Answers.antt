use Rattle.std.proofs.Common.{◌≡◌, ◌++◌, ◌∷◌, [], ◌∙◌, ap, rules, arith}
use Rattle.std.specs.List.{flat_map}
use Rattle.fl_labels.specs.SetBy.{len}
use Rattle.fl_ops.specs.Bytes.{cap_bytes}
use Rattle.fl_wire.proofs.Pushed.{pushed, all_pushed}
use Rattle.fl_ops.specs.declared.format.Format.TheVariants.{Two}
use Rattle.fl_wire.proofs.writing.push_caps.Goals as goal

pub loop-cap-preserved : goal.loop-cap-preserved
loop-cap-preserved c =
    pushed (cap_bytes Two) c.push.new.self.items c.loop-cap.out.items c.push_cap.new.out.items c.as_slice-members.result.now c.loop-cap.cap-index c.cap-item.result (omega arith) c.cap-item.is c.loop-cap.invariant c.in_ok-push_cap.ensures.ok

pub returns : goal.returns
returns c =
    let start : c.push.new.self.items ≡ c.args.out.now.items ++ len c.args.caps.now ∷ [] = search rules in
    all_pushed (cap_bytes Two) c.args.out.now.items c.push.new.self.items c.loop-cap.out.items (len c.args.caps.now ∷ []) c.as_slice-members.result.now c.loop-cap.cap-index (omega arith) start c.loop-cap.invariant
    ∙ ap (λ l. c.args.out.now.items ++ (len c.args.caps.now ∷ flat_map (cap_bytes Two) l)) c.as_slice-members.ensures
