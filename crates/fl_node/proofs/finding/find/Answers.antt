use Rattle.std.proofs.Common.{inl, inr, ◌∙◌, sym, ap, Err}
use Rattle.fl_store.specs.Breaking.{was_broken, loading}
use Rattle.fl_node.proofs.FindLemmas.{found, load_failed, not_loaded, other_node}
use Rattle.fl_node.proofs.finding.find.Goals as goal

pub returns-then-number-clause-held : goal.returns-then-number-clause-held
returns-then-number-clause-held g c honest =
    (honest, other_node (λ k. g.met.K.Keeper.numbered c.args.keeper.now k) (λ e. c.if-number.true (c.number.ensures ∙ e)))

pub returns-in-Ok-clause-held : goal.returns-in-Ok-clause-held
returns-in-Ok-clause-held g c honest =
    let held = c.in-Ok.ensures.held honest in
    (held.0, found _ _ _ _ _ (λ k. g.met.K.Keeper.numbered c.args.keeper.now k) (sym c.number.ensures ∙ c.if-number.false) held.1)

pub returns-in-Err-clause-held : goal.returns-in-Err-clause-held
returns-in-Err-clause-held g c = rw c.shown.ensures (λ honest. let held = c.in-Err.ensures.held honest in (held.0, not_loaded _ _ _ _ held.1))

pub returns-in-Err-clause-cause : goal.returns-in-Err-clause-cause
returns-in-Err-clause-cause g c failed =
    load_failed _ _ _ _ c.in-Err.fault (λ is. record {
      broken = c.in-Err.ensures.breaks.0 (ap Err is);
      cause = λ honest. elim (c.in-Err.ensures.broke honest (ap Err is)) [
        | inl was ↦ was_broken was
        | inr why ↦ loading why
      ];
    }) c.in-Err.ensures.cause (sym c.shown.ensures ∙ failed)
