use Rattle.std.proofs.Common.{refl}
use Rattle.fl_labels.specs.CapOrder.{cap_total, cap_exact}
use Rattle.fl_labels.specs.laws.SortedVec.{inserted, kept_insert}
use Rattle.fl_labels.proofs.roomy.put.Goals as goal

pub returns-in-Err-clause-rises : goal.returns-in-Err-clause-rises
returns-in-Err-clause-rises c =
    (inserted cap_total cap_exact _ _ c.requires.rises refl _ c.as_slice.ensures c.args.cap _ _ c.in-Err.ensures.bound c.in-Err.ensures.position c.put.ensures.items).rises

pub returns-in-Err-clause-members : goal.returns-in-Err-clause-members
returns-in-Err-clause-members c =
    (inserted cap_total cap_exact _ _ c.requires.rises refl _ c.as_slice.ensures c.args.cap _ _ c.in-Err.ensures.bound c.in-Err.ensures.position c.put.ensures.items).view

pub returns-in_default-clause-members : goal.returns-in_default-clause-members
returns-in_default-clause-members c =
    kept_insert cap_total cap_exact _ _ c.requires.rises refl _ c.as_slice.ensures c.args.cap _ c.in_default.ensures.bound c.in_default.ensures.position
