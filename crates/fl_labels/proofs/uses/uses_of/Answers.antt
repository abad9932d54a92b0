use Rattle.std.proofs.Common.{rules, ◌≡◌, Result, Ok, Err, IfOk}
use Rattle.std.specs.List.{filter}
use Rattle.fl_labels.specs.Cap.{is_use}
use Rattle.fl_labels.proofs.UsesKept.{moved, uses_filtered}
use Rattle.fl_labels.proofs.uses.uses_of.Goals as goal
use Rattle.std.proofs.Common.{refl}

if_ok : {A E : Type 0} {P Q : A → Type 0} (r : Result A E) → ((a : A) → P a → Q a) → IfOk r P → IfOk r Q
if_ok (Ok a) to p = to a p
if_ok (Err e) to p = tt

pub returns : goal.returns
returns c =
    let is : IfOk c.collect.result (λ uses. uses.items ≡ filter is_use c.args.caps.now) = search rules in
    if_ok c.collect.result (λ uses same. moved _ _ _ uses.items refl same (uses_filtered c.args.caps.now c.requires)) is
