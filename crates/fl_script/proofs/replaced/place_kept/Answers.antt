use Rattle.std.proofs.Common.{map, rules}
use Rattle.std.proofs.lemmas.List.{map_push}
use Rattle.fl_aliases.specs.Expansion.{NoDollar}
use Rattle.fl_script.specs.laws.Replacing.{not_all_at, one_more_at}
use Rattle.fl_script.proofs.replaced.place_kept.Goals as goal

pub returns-in_default-clause-dollar : goal.returns-in_default-clause-dollar
returns-in_default-clause-dollar c =
    not_all_at NoDollar c.args.words.now c.loop-word.word-index _ c.loop-word-test.true c.in_default.ensures.none

pub loop-word-preserved : goal.loop-word-preserved
loop-word-preserved c =
    let texts = map (λ w. w.now) c.loop-word.placed.items in
    record {
      each = rw (c.push.ensures.items, map_push (λ w. w.now) c.loop-word.placed.items c.in-Some.text) (one_more_at c.args.aliases.now c.args.words.now c.loop-word.word-index _ texts c.in-Some.text.now c.loop-word-test.true c.loop-word.invariant.each c.in-Some.ensures.some);
      count = search rules;
    }
