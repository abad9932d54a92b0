use Rattle.std.proofs.Common.{inl, inr, ◌∙◌, refl, sym, ap, Err}
use Rattle.fl_labels.specs.SetBy as set
use Rattle.fl_labels.specs.SetBy.{of_list-members}
use Rattle.fl_ops.specs.OpOrder.{op_cmp}
use Rattle.fl_ops.specs.OpLaws.{op_total, op_exact}
use Rattle.fl_desks.specs.Listing.{ListingState}
use Rattle.fl_store.specs.Breaking.{raising}
use Rattle.fl_system.specs.Openings.{IsOf}
use Rattle.fl_node.proofs.OpenLemmas.{not_found, found_no_room, no_room_after, not_raised, opens, kept_opened}
use Rattle.fl_node.proofs.node.Node.open.Goals as goal

pub returns-in-Err-clause-err : goal.returns-in-Err-clause-err
returns-in-Err-clause-err g c honest =
    let held = c.in-Err.ensures.held honest in
    (held.0, not_found c.args.desks (IsOf c.args.number) c.args.number (λ k is. is) _ _ _ held.1)

pub returns-in_default-clause-err : goal.returns-in_default-clause-err
returns-in_default-clause-err g c honest =
    let held = c.in-Ok.ensures.held honest in
    (held.0, found_no_room c.args.desks (IsOf c.args.number) c.args.number c.in-Ok.saved _ _ held.1)

pub returns-in-Err-raise-clause-err : goal.returns-in-Err-raise-clause-err
returns-in-Err-raise-clause-err g c honest =
    let raised = c.in-Err-raise.ensures.held honest in
    let held = c.in-Ok.ensures.held raised.0 in
    (held.0, not_raised c.args.desks (IsOf c.args.number) c.args.number c.in-Ok.saved _ _ held.1 _ _ (λ k number saved last. number) raised.1)

pub returns-clause-ok : goal.returns-clause-ok
returns-clause-ok g c =
    rw (c.in-Ok-new.ensures.made, c.in-Ok-new-2.ensures.made) (λ honest.
    let raised = c.in-Ok-raise.ensures.held honest in
    let held = c.in-Ok.ensures.held raised.0 in
    (held.0, opens c.args.desks (IsOf c.args.number) c.args.number c.in-Ok.saved _ _ held.1 _ _ _ refl (λ k number boot saved. number) raised.1))

pub returns-in-Err-clause-cause : goal.returns-in-Err-clause-cause
returns-in-Err-clause-cause g c failed = c.in-Err.ensures.cause failed

pub returns-in-Err-raise-clause-cause : goal.returns-in-Err-raise-clause-cause
returns-in-Err-raise-clause-cause g c failed = inl (record {
  broken = c.in-Err-raise.ensures.cause failed;
  cause = λ honest. elim (c.in-Err-raise.ensures.broke honest (ap Err failed)) [
    | inl was ↦ absurd (c.in-Ok.ensures.sound was)
    | inr why ↦ raising (c.in-Ok.ensures.loads (c.in-Err-raise.ensures.held honest).0) why
  ];
})

pub returns-in_default-new-clause-err : goal.returns-in_default-new-clause-err
returns-in_default-new-clause-err g c honest =
    let raised = c.in-Ok-raise.ensures.held honest in
    let held = c.in-Ok.ensures.held raised.0 in
    (held.0, no_room_after c.args.desks (IsOf c.args.number) c.args.number c.in-Ok.saved _ _ _ c.in-Ok-raise.boot held.1 raised.1)

pub invariant_of-result : goal.invariant_of-result
invariant_of-result g c = record {
  numbered = c.requires;
  booted = c.in-Ok-raise.ensures.positive;
  once = c.in-Ok.ensures.names;
  fresh = tt;
  listed = ap (λ (l : ListingState). set.of_list {R = op_cmp} l.published) c.in-Ok-new.ensures.made ∙ of_list-members op_total op_exact c.in-Ok.saved;
  kept = λ honest k is.
      let raised = c.in-Ok-raise.ensures.held honest in
      let held = c.in-Ok.ensures.held raised.0 in
      kept_opened c.args.desks (IsOf c.args.number) c.args.number c.in-Ok.saved _ _ held.1 _ c.in-Ok-raise.boot raised.1 k is;
  paired = c.in-Ok-new-2.ensures.count ∙ sym c.in-Ok-new.ensures.desks;
}

pub returns-clause-desks : goal.returns-clause-desks
returns-clause-desks g c = c.in-Ok-new.ensures.desks
