use Rattle.std.proofs.Common.{◌≡◌, ◌≤◌, ◌∷◌, drop, ◌+◌, ap, subst, ◌∙◌, arith, rules}
use Rattle.fl_ops.specs.Format.{format_byte, last_kind}
use Rattle.fl_ops.specs.Bytes.{body_place}
use Rattle.fl_wire.specs.parts.Ops.{AddsBody}
use Rattle.fl_wire.proofs.Added.{next_added}
use Rattle.fl_wire.proofs.whole.push_whole.Goals as goal

pub returns-clause-next : goal.returns-clause-next
returns-clause-next c =
    let f = c.args.format in
    let bytes = c.args.bytes.now in
    let format = c.in_ok-byte_at.ensures in
    let first : drop c.args.at bytes ≡ format_byte f ∷ drop (c.args.at + 1) bytes =
    format.4 ∙ ap (λ b. b ∷ drop (c.args.at + 1) bytes) (omega (arith, format.2, format.3, c.number.ensures, c.number-2.ensures)) in
    let known : c.in_ok-kind.kind ≤ last_kind f = omega (arith, c.in_ok-kind.ensures.3, c.last_kind.ensures) in
    let place : c.args.at + c.body_place.result ≡ c.args.at + body_place f = omega (arith, c.body_place.ensures) in
    let body = subst (λ p. AddsBody f bytes p c.in_ok-name.name.0 c.in_ok-name.name.1 c.in_ok-kind.kind c.args.ops.now.items c.push_body.new.ops.items c.in_ok-push_body.field-0) place c.in_ok-push_body.ensures.body in
    next_added f bytes c.args.at c.args.ops.now.items c.push_body.new.ops.items c.in_ok-kind.kind c.in_ok-name.name.0 c.in_ok-name.name.1 c.in_ok-push_body.field-0
    first c.in_ok-kind.ensures.4 known (search rules) body
