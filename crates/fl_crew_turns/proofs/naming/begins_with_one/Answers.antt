use Rattle.std.proofs.Common.{◌≡◌, ◌∙◌, ◌<◌, ℕ, List, Option, Some, arith, length, slice_index_or}
use Rattle.std.proofs.lemmas.List.{get_or_default}
use borrow.Author.Count.{below_more}
use Rattle.fl_crew_turns.specs.Naming.{BeginsWith}
use Rattle.fl_crew_turns.proofs.Dollars.{begins_nowhere, not_true}
use Rattle.fl_crew_turns.proofs.naming.begins_with_one.Goals as goal

pub loop-alias-preserved : goal.loop-alias-preserved
loop-alias-preserved c =
    let aliases = c.args.aliases.now in
    let index = c.loop-alias.alias-index in
    let inside : index < length aliases = c.loop-alias-test.true in
    let Passed : ℕ → Type 0 = λ k. (d : Option (List ℕ)) (alias : List ℕ) → slice_index_or aliases k d ≡ Some alias → ¬ BeginsWith alias c.args.text.now in
    let here : Passed index = λ d alias at begins. not_true (c.if-begins_with_some.ensures.1 (alias, c.alias-item.is ∙ get_or_default aliases index _ d inside ∙ at, begins)) in
    λ k d alias below at. below_more Passed index (λ j h e other at. c.loop-alias.invariant j e other h at) here k below d alias at

pub returns : goal.returns
returns c = ((λ e. absurd (not_true e)), (λ one. absurd (begins_nowhere c.args.aliases.now c.args.text.now (λ k d alias inside at. c.loop-alias.invariant k d alias (omega arith) at) one)))
