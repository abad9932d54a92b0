use Rattle.std.proofs.Common.{refl, ◌∙◌}
use Rattle.fl_monitor.proofs.Looks.{found_caps, none_crosses}
use Rattle.fl_monitor.proofs.demand.first_refusal.Goals as goal

pub returns-in_err-first_unheld-in-Grant-clause-refuses : goal.returns-in_err-first_unheld-in-Grant-clause-refuses
returns-in_err-first_unheld-in-Grant-clause-refuses g c = rw c.from_residual-in_err-first_unheld-in-Grant.ensures (rw c.in-Grant.is (found_caps _ _ _ _ c.as_slice-in-Grant.ensures c.in_err-first_unheld-in-Grant.ensures.first))

pub returns-in_err-tag-in-Endpoint-clause-refuses : goal.returns-in_err-tag-in-Endpoint-clause-refuses
returns-in_err-tag-in-Endpoint-clause-refuses g c = rw c.from_residual-in_err-tag-in-Endpoint.ensures (rw c.in-Endpoint.is (none_crosses _ _ _ _ c.in_err-tag-in-Endpoint.ensures.found))

pub returns-in_err-found-in-Endpoints-clause-refuses : goal.returns-in_err-found-in-Endpoints-clause-refuses
returns-in_err-found-in-Endpoints-clause-refuses g c = rw c.from_residual-in_err-found-in-Endpoints.ensures (rw c.in-Endpoints.is c.in_err-found-in-Endpoints.ensures.found)

pub returns-in_ok-safe_change-in-Change-clause-refuses : goal.returns-in_ok-safe_change-in-Change-clause-refuses
returns-in_ok-safe_change-in-Change-clause-refuses g c = rw c.in-Change.is (_, refl, c.in_ok-safe_change-in-Change.ensures.found)

pub returns-in_ok-safe_emit-in-Emission-clause-refuses : goal.returns-in_ok-safe_emit-in-Emission-clause-refuses
returns-in_ok-safe_emit-in-Emission-clause-refuses g c = rw c.in-Emission.is (_, refl, c.in_ok-safe_emit-in-Emission.ensures.found)

pub returns-in_ok-first_unheld-in-Grant-clause-refuses : goal.returns-in_ok-first_unheld-in-Grant-clause-refuses
returns-in_ok-first_unheld-in-Grant-clause-refuses g c = rw c.in-Grant.is (_, refl, found_caps _ _ _ _ c.as_slice-in-Grant.ensures c.in_ok-first_unheld-in-Grant.ensures.first)

pub returns-in_ok-tag-in-Endpoint-clause-refuses : goal.returns-in_ok-tag-in-Endpoint-clause-refuses
returns-in_ok-tag-in-Endpoint-clause-refuses g c = rw c.in-Endpoint.is (_, refl, c.in_ok-tag-in-Endpoint.ensures.found)

pub returns-in_ok-found-in-Endpoints-clause-refuses : goal.returns-in_ok-found-in-Endpoints-clause-refuses
returns-in_ok-found-in-Endpoints-clause-refuses g c = rw c.in-Endpoints.is (_, refl, c.in_ok-found-in-Endpoints.ensures.found)

pub returns-in_err-safe_change-in-Change-clause-refuses : goal.returns-in_err-safe_change-in-Change-clause-refuses
returns-in_err-safe_change-in-Change-clause-refuses g c = rw c.from_residual.ensures (rw c.in-Change.is c.in_err-safe_change-in-Change.ensures.found)

pub returns-in_err-first_unheld-in-Order-clause-refuses : goal.returns-in_err-first_unheld-in-Order-clause-refuses
returns-in_err-first_unheld-in-Order-clause-refuses g c = rw c.from_residual-in_err-first_unheld-in-Order.ensures (rw c.in-Order.is (found_caps _ _ _ _ (c.as_slice.ensures ∙ c.by-taken.ensures) c.in_err-first_unheld-in-Order.ensures.first))

pub returns-in_ok-first_unheld-in-Order-clause-refuses : goal.returns-in_ok-first_unheld-in-Order-clause-refuses
returns-in_ok-first_unheld-in-Order-clause-refuses g c = rw c.in-Order.is (_, refl, found_caps _ _ _ _ (c.as_slice.ensures ∙ c.by-taken.ensures) c.in_ok-first_unheld-in-Order.ensures.first)
