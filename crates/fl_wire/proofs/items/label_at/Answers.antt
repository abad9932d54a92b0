use Rattle.std.proofs.Common.{◌≡◌, rules, arith}
use Rattle.fl_labels.specs.SetBy.{of_list}
use Rattle.fl_wire.proofs.Sets.{tags_fit, label_found}
use Rattle.fl_wire.proofs.items.label_at.Goals as goal

pub unwrap-requires : goal.unwrap-requires
unwrap-requires c = tags_fit c.from_vec.result c.args.format _ _ _ c.from-count.result c.in_ok-tags.tags.items c.in_ok-tags.ensures (omega (arith, c.in_ok-short_at.ensures.3, c.from-count.ensures)) c.from_vec.ensures.err c.from_vec.ensures.too_long

pub returns : goal.returns
returns c =
    let e = c.in_ok-short_at.ensures in
    let view : c.unwrap.result ≡ of_list c.in_ok-tags.tags.items = search rules in
    label_found c.args.format c.args.bytes.now c.args.at c.in_ok-short_at.field-0 c.from-count.result c.in_ok-tags.tags.items c.unwrap.result e.0 e.1 e.3 c.from-count.ensures e.4 c.in_ok-tags.ensures view
