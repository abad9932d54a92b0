use Rattle.std.proofs.Common.{inl, inr, ◌∙◌, ◌≤◌, refl, sym, arith}
use Rattle.std.specs.Option.{option_copied}
use Rattle.fl_system.specs.declared.answer.Fault.TheVariants.{WrongNode}
use Rattle.fl_system.specs.Openings.{IsOwn, FailsToOpen}
use Rattle.fl_node.proofs.OpenLemmas.{not_found, found_no_room, found_refused, no_room_after, not_raised, raised_refused, opens}
use Rattle.fl_node.proofs.recovering.recover.Goals as goal

pub returns-in-Err-clause-err : goal.returns-in-Err-clause-err
returns-in-Err-clause-err g c honest =
    let held = c.in-Err.ensures.held honest in
    (held.0, not_found c.args.had.desks (IsOwn (record { number = c.args.had.number; boot = c.args.had.boot; saved = c.args.saved.now }) (option_copied c.args.doubt)) c.args.had.number (λ k is. is.number) _ _ _ held.1)

pub returns-in_default-clause-err : goal.returns-in_default-clause-err
returns-in_default-clause-err g c honest =
    let held = c.in-Ok.ensures.held honest in
    (held.0, found_no_room c.args.had.desks (IsOwn (record { number = c.args.had.number; boot = c.args.had.boot; saved = c.args.saved.now }) (option_copied c.args.doubt)) c.args.had.number c.in-Ok.found _ _ held.1)

pub returns-then-not-own-clause-err : goal.returns-then-not-own-clause-err
returns-then-not-own-clause-err g c honest =
    let held = c.in-Ok.ensures.held honest in (
      held.0,
      found_refused c.args.had.desks (IsOwn (record { number = c.args.had.number; boot = c.args.had.boot; saved = c.args.saved.now }) (option_copied c.args.doubt)) c.args.had.number c.in-Ok.found _ _ held.1 WrongNode
          (λ k _ saved_is _. FailsToOpen.other (λ is. c.in-Ok-is_own.ensures.fails c.if-not-own.true (elim is.saved [ inl e ↦ inl (saved_is ∙ e) | inr e ↦ inr (saved_is ∙ e) ]))),
    )

pub returns-in_default-new-clause-err : goal.returns-in_default-new-clause-err
returns-in_default-new-clause-err g c honest =
    let held = c.in-Ok.ensures.held honest in
    (held.0, found_no_room c.args.had.desks (IsOwn (record { number = c.args.had.number; boot = c.args.had.boot; saved = c.args.saved.now }) (option_copied c.args.doubt)) c.args.had.number c.in-Ok.found _ _ held.1)

pub returns-in-Err-raise-clause-err : goal.returns-in-Err-raise-clause-err
returns-in-Err-raise-clause-err g c honest =
    let raised = c.in-Err-raise.ensures.held honest in
    let held = c.in-Ok.ensures.held raised.0 in (
      held.0,
      not_raised c.args.had.desks (IsOwn (record { number = c.args.had.number; boot = c.args.had.boot; saved = c.args.saved.now }) (option_copied c.args.doubt)) c.args.had.number c.in-Ok.found _ _ held.1 _ _
          (λ k number saved_is last. record {
            number = number;
            boot = omega (arith, last);
            saved = elim (c.in-Ok-is_own.ensures.holds c.if-not-own.false) [ inl e ↦ inl (sym saved_is ∙ e) | inr e ↦ inr (sym saved_is ∙ e) ];
          }) raised.1,
    )

pub returns-then-next-had-clause-err : goal.returns-then-next-had-clause-err
returns-then-next-had-clause-err g c honest =
    let raised = c.in-Ok-raise.ensures.held honest in
    let held = c.in-Ok.ensures.held raised.0 in (
      held.0,
      raised_refused c.args.had.desks (IsOwn (record { number = c.args.had.number; boot = c.args.had.boot; saved = c.args.saved.now }) (option_copied c.args.doubt)) c.args.had.number c.in-Ok.found _ _ held.1 _ c.in-Ok-raise.next WrongNode
          (λ k boot_is. FailsToOpen.other (λ is. let low : c.in-Ok-raise.next ≤ c.args.had.boot = c.if-next-had.true in let own : c.args.had.boot ≤ k.boot = is.boot in omega arith)) raised.1,
    )

pub returns-clause-ok : goal.returns-clause-ok
returns-clause-ok g c honest =
    let raised = c.in-Ok-raise.ensures.held honest in
    let held = c.in-Ok.ensures.held raised.0 in (
      held.0,
      opens c.args.had.desks (IsOwn (record { number = c.args.had.number; boot = c.args.had.boot; saved = c.args.saved.now }) (option_copied c.args.doubt)) c.args.had.number c.in-Ok.found _ _ held.1 _ c.in-Ok-raise.next _ refl
          (λ k number boot_is saved_is. record {
            number = number;
            boot = omega (arith, c.if-next-had.false);
            saved = elim (c.in-Ok-is_own.ensures.holds c.if-not-own.false) [ inl e ↦ inl (sym saved_is ∙ e) | inr e ↦ inr (sym saved_is ∙ e) ];
          }) raised.1,
    )

pub returns-in-Err-raise-clause-cause : goal.returns-in-Err-raise-clause-cause
returns-in-Err-raise-clause-cause g c failed = inl (c.in-Err-raise.ensures.cause failed)

pub returns-in-Err-clause-cause : goal.returns-in-Err-clause-cause
returns-in-Err-clause-cause g c failed = elim (c.in-Err.ensures.cause failed) [
  | inl is ↦ inl is.broken
  | inr row ↦ inr row
]

pub returns-in_default-new-2-clause-err : goal.returns-in_default-new-2-clause-err
returns-in_default-new-2-clause-err g c honest =
    let raised = c.in-Ok-raise.ensures.held honest in
    let held = c.in-Ok.ensures.held raised.0 in
    (held.0, no_room_after c.args.had.desks (IsOwn (record { number = c.args.had.number; boot = c.args.had.boot; saved = c.args.saved.now }) (option_copied c.args.doubt)) c.args.had.number c.in-Ok.found _ _ _ c.in-Ok-raise.next held.1 raised.1)
