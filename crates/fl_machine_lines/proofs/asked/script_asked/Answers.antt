use Rattle.std.proofs.Common.{inl, inr, map, sym, subst}
use Rattle.fl_script.proofs.Found.{passed, reads}
use Rattle.fl_script.specs.Grammar.{Spells as SpellsScript}
use Rattle.fl_script.specs.declared.line.Line.TheVariants.{Node as OfNode}
use Rattle.fl_script.specs.laws.OneLine.{one_line}
use Rattle.fl_script.specs.parts.Reads.{Reads}
use Rattle.fl_machine_lines.specs.parts.Asking.{AsksAsScript}
use Rattle.fl_machine_lines.proofs.Lines.{asked_by}
use Rattle.fl_machine_lines.proofs.asked.script_asked.Goals as goal

pub returns-in_err-node-clause-ok : goal.returns-in_err-node-clause-ok
returns-in_err-node-clause-ok c = passed _ c.from_residual.ensures.1 c.in_err-node.ensures.ok
    (λ none asked s. none (OfNode c.args.number s.request) s.spelled)

pub returns-in-Node-clause-ok : goal.returns-in-Node-clause-ok
returns-in-Node-clause-ok c =
    let words = map (λ w. w.now) c.args.words.now in
    let spelled = subst (λ line. SpellsScript line words) c.in-Node.is c.in_ok-node.ensures.ok in
    subst (λ r. Reads r (λ asked. AsksAsScript c.args.number asked words))
    (sym c.ok_or.ensures.value)
    (reads (λ asked. AsksAsScript c.args.number asked words) c.asked_there.result
    (asked_by c.args.number c.in-Node.node c.in-Node.request words spelled c.asked_there.result
    c.asked_there.ensures))

pub returns-in-Union : goal.returns-in-Union
returns-in-Union c = record {
  ok = λ bad asked s.
      let line =
      one_line c.in_ok-node.field-0 (OfNode c.args.number s.request)
      (map (λ w. w.now) c.args.words.now) c.in_ok-node.ensures.ok s.spelled in
      elim c.in-Union.is [
        | inl (first, second, is) ↦ absurd (cc)
        | inr other ↦ elim other [
          | inl is ↦ absurd (cc)
          | inr is ↦ absurd (cc)
        ]
      ];
  memory = λ e. absurd (cc e);
}
