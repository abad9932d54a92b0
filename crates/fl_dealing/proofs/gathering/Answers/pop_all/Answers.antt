use Rattle.std.proofs.Common.{◌≡◌, ◌++◌, ◌∷◌, [], ◌≤◌, length, reverse, List, arith, sym, ◌∙◌, ap, subst, append_assoc}
use Rattle.std.proofs.lemmas.List.{reverse-append}
use Rattle.fl_dealing.specs.declared.entry.Entry.{Entry}
use Rattle.fl_dealing.specs.Gathered.{IsGathered}
use Rattle.fl_dealing.specs.parts.Gathering.{said}
use Rattle.fl_dealing.proofs.Gathers.{last_some, last_more, last_at, last_less}
use Rattle.fl_dealing.proofs.gathering.Answers.pop_all.Goals as goal

-- the next one comes before those that are in the list
one_before : (es : List Entry) (e : Entry) (done all : List Entry) → all ≡ done ++ e ∷ []
    → (es ++ e ∷ []) ++ reverse done ≡ es ++ reverse all
one_before es e done all is =
    append_assoc es (e ∷ []) (reverse done)
    ∙ ap (λ l. es ++ l) (sym (reverse-append done (e ∷ []))) ∙ ap (λ l. es ++ reverse l) (sym is)

pub returns-in_default-clause-only : goal.returns-in_default-clause-only
returns-in_default-clause-only c es g =
    let within : c.loop-place.place ≤ length c.args.owners.now = omega arith in
    absurd (last_some c.args.owners.now c.loop-place.place c.loop-place-test.true within
    (said c.loop-place.self) es g.count c.in_default.ensures
    (c.loop-place.invariant.less es g))

pub returns-then-entry-place-clause-only : goal.returns-then-entry-place-clause-only
returns-then-entry-place-clause-only c es g =
    let within : c.loop-place.place ≤ length c.args.owners.now = omega arith in
    absurd (c.if-entry-place.true (last_at c.args.owners.now c.loop-place.place
    c.loop-place-test.true within (said c.loop-place.self) (said c.pop.new.self)
    c.in-Some.entry c.in-Some.ensures.last c.in-Some.ensures.others es g.count
    (c.loop-place.invariant.less es g)))

pub loop-place-preserved : goal.loop-place-preserved
loop-place-preserved c =
    let within : c.loop-place.place ≤ length c.args.owners.now = omega arith in
    record {
      count = omega arith;
      room = omega arith;
      more = λ es g. subst (λ l. IsGathered c.args.owners.now (said c.args.self.now) l)
          (one_before es c.in-Some.entry c.loop-place.entries.items _
          c.push_reserved.ensures.items)
          (c.loop-place.invariant.more (es ++ c.in-Some.entry ∷ [])
          (last_more c.args.owners.now c.loop-place.place c.loop-place-test.true within
          (said c.loop-place.self) (said c.pop.new.self) c.in-Some.entry
          c.in-Some.ensures.last c.in-Some.ensures.others es c.if-entry-place.false g));
      less = λ es g. last_less c.args.owners.now c.loop-place.place c.loop-place-test.true within
          (said c.loop-place.self) (said c.pop.new.self) c.in-Some.entry
          c.in-Some.ensures.last c.in-Some.ensures.others es g.count
          (c.loop-place.invariant.less es g);
    }
