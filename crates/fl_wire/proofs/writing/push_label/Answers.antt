use Rattle.std.proofs.Common.{◌≡◌, ◌++◌, ◌∙◌, ap, rules, arith}
use Rattle.std.specs.Int.{w16, to_be_bytes}
use Rattle.std.specs.List.{flat_map}
use Rattle.fl_labels.specs.SetBy.{len}
use Rattle.fl_ops.specs.Bytes.{name_bytes}
use Rattle.fl_wire.proofs.Pushed.{pushed, all_pushed}
use Rattle.fl_ops.specs.declared.format.Format.TheVariants.{Two}
use Rattle.fl_wire.proofs.writing.push_label.Goals as goal

pub loop-tag-preserved : goal.loop-tag-preserved
loop-tag-preserved c =
    pushed (name_bytes Two) c.extend_from_slice.new.self.items c.loop-tag.out.items c.push_name.new.out.items c.as_slice-tags.result.now c.loop-tag.tag-index c.tag-item.result (omega arith) c.tag-item.is c.loop-tag.invariant c.in_ok-push_name.ensures.ok

pub returns : goal.returns
returns c =
    let count = to_be_bytes w16 (len c.args.label.now) in
    let start : c.extend_from_slice.new.self.items ≡ c.args.out.now.items ++ to_be_bytes w16 (len c.args.label.now) = search rules in
    all_pushed (name_bytes Two) c.args.out.now.items c.extend_from_slice.new.self.items c.loop-tag.out.items count c.as_slice-tags.result.now c.loop-tag.tag-index (omega arith) start c.loop-tag.invariant
    ∙ ap (λ l. c.args.out.now.items ++ (to_be_bytes w16 (len c.args.label.now) ++ flat_map (name_bytes Two) l)) c.as_slice-tags.ensures
