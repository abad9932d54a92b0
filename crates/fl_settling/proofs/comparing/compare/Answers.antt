use Rattle.std.proofs.Common.{◌≡◌, ◌∙◌, ◌≤◌, List, [], ap, sym, subst, length, arith}
use Rattle.std.proofs.lemmas.List.{length-take}
use Rattle.fl_crew_model.specs.declared.record.Entry.{Entry}
use Rattle.fl_crew_model.specs.Compared.{AgreesUpTo, decisions_of}
use Rattle.fl_settling.proofs.Wholes.{none_left, front_same, front_fits, whole_front}
use Rattle.fl_settling.proofs.comparing.compare.Goals as goal
use Rattle.fl_settling.proofs.comparing.compare.Goals.{then-good-len, else-good-len}

pub returns-else-has_none-clause-front : goal.returns-else-has_none-clause-front
returns-else-has_none-clause-front c =
    let w = c.args.worker.now in
    let found = c.front-good in
    let ds = decisions_of w.number c.args.deeds.now in
    let rest = decisions_of w.number found.result.2.now in
    let es = w.entries.items in
    let read = c.deref.result.now in
    let same = c.deref.ensures.value in
    let fits : found.result.0 ≤ w.good =
    omega (arith, found.ensures.within, length-take w.good read) in
    record {
      fits = fits;
      left = rest;
      agrees =
          subst (λ (l : List Entry). AgreesUpTo c.args.first ds l found.result.1 rest)
          (front_same found.result.0 w.good read es same fits) found.ensures.agrees;
      most = λ k below r.
          let (last, more, agrees) = r in
          found.ensures.most k last more (front_fits k w.good read es same below c.requires)
          (subst (λ (l : List Entry). AgreesUpTo c.args.first ds l last more)
          (sym (front_same k w.good read es same below)) agrees);
    }

pub returns-else-has_none-clause-whole : goal.returns-else-has_none-clause-whole
returns-else-has_none-clause-whole c = (
  λ t. absurd (cc),
  λ h.
      let w = c.args.worker.now in
      let found = c.front-good in
      let ds = decisions_of w.number c.args.deeds.now in
      let left = decisions_of w.number found.result.2.now in
      let same =
      whole_front c.args.first found.result.1 found.result.0 c.args.deeds.now w
      (returns-else-has_none-clause-front c) h in
      let up : w.good ≤ found.result.0 = omega (arith, same) in
      let none : left ≡ [] =
      none_left c.args.first w.good found.result.0 found.result.1 ds left w.entries.items
      c.deref.result.now c.deref.ensures.value h.all up found.ensures.agrees h.agrees in
      elim c.if-good-len.branch [
        | then-good-len b ↦ b.value-is ∙ b.has_none.ensures.1 none
        | else-good-len b ↦
            let count = ap length c.deref.ensures.value in
            let all : found.result.0 ≡ c.len.result =
            omega (arith, same, h.all, c.len.ensures, c.deref.ensures.len, count) in
            absurd (b.if-good-len.false all)
      ],
)
