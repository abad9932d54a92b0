use Rattle.std.proofs.Common.{not, length, ap, ◌∙◌, arith, rules}
use Rattle.std.specs.Ordering.{is_lt}
use Rattle.std.proofs.lemmas.List.{length-drop, take_rest}
use Rattle.std.proofs.lemmas.List.Sorted.{IsPartitionPoint-from_clause}
use Rattle.fl_labels.specs.NameOrder.{name_total, name_exact, name_tied}
use Rattle.fl_opset.specs.parts.LoginPlace.{login_place}
use Rattle.fl_opset.proofs.Partition.{apart, alike}
use Rattle.fl_opset.proofs.FirstLogin.{logins_parted, none_after, none_of_name, none_of_kind, is_first}
use Rattle.fl_opset.proofs.search.first_login.Goals as goal

pub returns-in_default : goal.returns-in_default
returns-in_default c =
    let point = IsPartitionPoint-from_clause (λ op. is_lt (login_place c.args.name op)) _ _ c.partition_point-start.ensures.partitioned (logins_parted _ c.requires c.args.name) (λ a r f k. search rules) in
    none_after _ c.requires c.args.name _ point
    (omega (arith, length-drop c.partition_point-start.result c.args.ops.now, ap length (take_rest c.args.ops.now c.partition_point-start.result), c.in_default.ensures.item.3))

pub returns-then-ne : goal.returns-then-ne
returns-then-ne c =
    let point = IsPartitionPoint-from_clause (λ op. is_lt (login_place c.args.name op)) _ _ c.partition_point-start.ensures.partitioned (logins_parted _ c.requires c.args.name) (λ a r f k. search rules) in
    none_of_name _ c.requires c.args.name _ point _ c.in-Some.ensures.item.3.0 c.in-Some.ensures.item.3.1
    (apart name_total c.in-Some.first.now.name c.args.name _ (c.ne.ensures ∙ ap not (name_tied c.in-Some.first.now.name c.args.name)) c.if-ne.true)

pub returns-in-MakeLogin : goal.returns-in-MakeLogin
returns-in-MakeLogin c =
    let point = IsPartitionPoint-from_clause (λ op. is_lt (login_place c.args.name op)) _ _ c.partition_point-start.ensures.partitioned (logins_parted _ c.requires c.args.name) (λ a r f k. search rules) in
    is_first _ c.requires c.args.name _ point _ c.in-Some.ensures.item.3.0 c.in-Some.ensures.item.3.1 _ _
    (alike name_total name_exact c.in-Some.first.now.name c.args.name _ (c.ne.ensures ∙ ap not (name_tied c.in-Some.first.now.name c.args.name)) c.if-ne.false) c.in-MakeLogin.is

pub returns-in_default-body : goal.returns-in_default-body
returns-in_default-body c =
    let point = IsPartitionPoint-from_clause (λ op. is_lt (login_place c.args.name op)) _ _ c.partition_point-start.ensures.partitioned (logins_parted _ c.requires c.args.name) (λ a r f k. search rules) in
    none_of_kind _ c.requires c.args.name _ point _ c.in-Some.ensures.item.3.0 c.in-Some.ensures.item.3.1
    c.in_default-body.not-MakeLogin
