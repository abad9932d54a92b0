use Rattle.std.proofs.Common.{◌≡◌, refl, sym, arith, rules}
use Rattle.fl_wire.proofs.Added.{adds, tag_spelled, put_spelled, login_spelled, open_spelled}
use Rattle.fl_wire.proofs.Spelled.{kind_few}
use Rattle.fl_wire.proofs.whole.push_body.Goals as goal

pub returns-in_ok-byte_at-in-1-clause-body : goal.returns-in_ok-byte_at-in-1-clause-body
returns-in_ok-byte_at-in-1-clause-body c =
    let byte = c.in_ok-byte_at-in-1 in
    adds _ c.push_reserved.ensures.items refl refl (sym c.in-1.is) (record { kind = omega (arith, c.requires.high, c.in-1.is); names = tt }) (tag_spelled c.args.format c.args.bytes.now c.args.at c.policy_of.result byte.field-0 byte.ensures.4 c.policy_of.ensures) refl

pub returns-in-2-clause-body : goal.returns-in-2-clause-body
returns-in-2-clause-body c =
    adds _ c.push_reserved-in-2.ensures.items refl refl (sym c.in-2.is) (record { kind = omega (arith, c.requires.high, c.in-2.is); names = tt }) refl (omega arith)

pub returns-in_ok-cap_at-in-3-clause-body : goal.returns-in_ok-cap_at-in-3-clause-body
returns-in_ok-cap_at-in-3-clause-body c =
    let name = c.in_ok-name_at-in-3 in
    let cap = c.in_ok-cap_at-in-3 in
    let spelled = put_spelled c.args.format c.args.bytes.now c.args.at name.field-0 cap.field-0 c.name_size.result c.cap_size.result c.name_size.ensures c.cap_size.ensures name.ensures.2 cap.ensures.2 in
    adds _ c.push_reserved-in-3.ensures.items refl refl (sym c.in-3.is) (record { kind = omega (arith, c.requires.high, c.in-3.is); names = (name.ensures.1, cap.ensures.1) }) spelled.0 spelled.1

pub returns-in_ok-digest_at-in-4-clause-body : goal.returns-in_ok-digest_at-in-4-clause-body
returns-in_ok-digest_at-in-4-clause-body c =
    let cap = c.in_ok-cap_at-in-4 in
    let digest = c.in_ok-digest_at-in-4 in
    let spelled = login_spelled c.args.format c.args.bytes.now c.args.at cap.field-0 digest.field-0 c.cap_size-in-4.result c.cap_size-in-4.ensures cap.ensures.2 digest.ensures.1 in
    adds _ c.push_reserved-in-4.ensures.items refl refl (sym c.in-4.is) (record { kind = omega (arith, c.requires.high, c.in-4.is); names = cap.ensures.1 }) spelled.0 spelled.1

pub returns-in_ok-name_at-in_default-clause-body : goal.returns-in_ok-name_at-in_default-clause-body
returns-in_ok-name_at-in_default-clause-body c =
    let name = c.in_ok-name_at-in_default in
    let last : 5 ≡ c.args.kind = search (rules, c.requires.high, kind_few c.args.format) in
    let spelled = open_spelled c.args.format c.args.bytes.now c.args.at name.field-0 c.name_size-in_default.result c.name_size-in_default.ensures name.ensures.2 in
    adds _ c.push_reserved-in_default.ensures.items refl refl last (record { kind = omega (arith, c.requires.high, last); names = name.ensures.1 }) spelled.0 spelled.1
