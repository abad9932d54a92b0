use Rattle.std.proofs.Common.{◌∙◌, ap, sym}
use Rattle.std.specs.List.{Contains}
use Rattle.std.specs.Option.{option_copied}
use Rattle.fl_labels.specs.SetBy.{members}
use Rattle.fl_ops.specs.Registry.{Listed, WithGlobal}
use Rattle.fl_bench.specs.Process.{owns}
use Rattle.fl_explanations.specs.Why.{BeginsOwned}
use Rattle.fl_machine_turns.specs.Explaining.{Explains}
use Rattle.fl_machine.specs.Shown.{Shows}
use Rattle.fl_machine.proofs.Explanations.{shows_more, shows_why}
use Rattle.fl_machine.proofs.Statuses.{no_three}
use Rattle.fl_machine.proofs.explaining.why_process.Goals as goal

pub returns-in_default : goal.returns-in_default
returns-in_default g c = λ keys.
    rw c.refused.ensures (record {
      answer = _;
      shows = Shows.replied;
      is = Explains.no_process (sym c.process.ensures ∙ ap option_copied c.in_default.is);
      quiet = no_three;
    })

pub returns : goal.returns
returns g c = λ keys.
    let n = c.args.node.now.node in
    let p = c.in-Some.process.now in
    let ops = n.published in
    let owned = members (owns p) in
    let there = sym c.process.ensures ∙ ap option_copied c.in-Some.is in
    rw c.told.ensures (shows_more (λ answer told. Explains.why there told)
    (shows_why keys n ops (WithGlobal (Listed ops) (Contains owned)) (BeginsOwned ops owned)
    c.args.cap c.why_owned.result
    (rw (c.published.ensures, c.as_slice-owned.ensures) at c.why_owned.ensures.found)
    (rw (c.published.ensures, c.as_slice-owned.ensures) at c.why_owned.ensures.memory)))
