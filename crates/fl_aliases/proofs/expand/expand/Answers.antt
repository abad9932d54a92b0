use Rattle.std.proofs.Common.{◌++◌, ◌∷◌, subst, rules}
use Rattle.std.specs.String.{string_bytes}
use Rattle.fl_aliases.specs.TargetText.{target_text}
use Rattle.fl_aliases.specs.laws.Expanding.{Continues, cut_at, no_alias, not_set, alias_more, begun_behind, behind_more, all_behind}
use Rattle.fl_aliases.proofs.expand.expand.Goals as goal

pub loop-plain-init : goal.loop-plain-init
loop-plain-init c = (search rules, begun_behind c.args.aliases.now c.args.line.now (string_bytes c.args.buffer.now))

pub returns-in_default-split_alias : goal.returns-in_default-split_alias
returns-in_default-split_alias c =
    let cut = c.in-Some.ensures in
    let behind = c.loop-plain.invariant.1 in
    no_alias c.args.aliases.now c.args.line.now _ c.in-Some.behind.now (cut_at c.args.aliases.now _ _ _ _ _ cut behind.so_far) c.in_default-split_alias.ensures.none

pub returns-in_default-text_of : goal.returns-in_default-text_of
returns-in_default-text_of c =
    let cut = c.in-Some.ensures in
    let found = c.in-Some-split_alias.ensures.some in
    let behind = c.loop-plain.invariant.1 in
    let done = behind.done ++ c.in-Some.plain.now in
    let so_far = cut_at c.args.aliases.now _ _ _ _ _ cut behind.so_far in
    not_set c.args.aliases.now c.args.line.now done c.in-Some-split_alias.front.alias c.in-Some-split_alias.front.behind.now found.1 found.2 c.in_default-text_of.ensures (subst (λ l. Continues c.args.aliases.now c.args.line.now done (36 ∷ l)) found.0 so_far)

pub loop-plain-preserved : goal.loop-plain-preserved
loop-plain-preserved c =
    let cut = c.in-Some.ensures in
    let found = c.in-Some-split_alias.ensures.some in
    let table = c.args.aliases.now in
    let line = c.args.line.now in
    let before = string_bytes c.args.buffer.now in
    let behind = c.loop-plain.invariant.1 in
    let rest = c.in-Some-split_alias.front.behind.now in
    let found_text = c.in-Some-text_of.ensures in
    let text = target_text found_text.0 in
    let so_far = cut_at table _ _ _ _ _ cut behind.so_far in
    let done = behind.done ++ c.in-Some.plain.now in
    let more = alias_more table line done c.in-Some-split_alias.front.alias rest found_text.0 found.1 found.2 found_text.1 (subst (λ l. Continues table line done (36 ∷ l)) found.0 so_far) in
    (search rules, behind_more table line before _ c.in-Some.plain.now _ text _ rest behind c.in_ok-push_part.ensures (rw found_text.2 at c.in_ok-push_str.ensures.bytes) more)

pub returns : goal.returns
returns c =
    all_behind c.args.aliases.now c.args.line.now _ _ _ _ c.in_default.ensures c.loop-plain.invariant.1 c.in_ok-push_part-2.ensures
