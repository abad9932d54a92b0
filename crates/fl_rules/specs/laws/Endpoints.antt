-- An endpoint is safe exactly where each tag that it crosses may be both added and removed, and stays safe for who has more.
use Rattle.std.proofs.Common.{inl, inr, refl}
use Rattle.std.proofs.lemmas.Bool.{false≢true}
use Rattle.fl_labels.specs.Caps.{Caps, Dual}
use Rattle.fl_labels.specs.Found.{Within}
use Rattle.fl_labels.specs.laws.Duals.{dual_more}
use Rattle.fl_rules.specs.declared.endpoint.Mode.{Mode}
use Rattle.fl_rules.specs.declared.endpoint.Mode.TheVariants.{Read, Write, Both}
use Rattle.fl_rules.specs.declared.labels.Labels.{Labels}
use Rattle.fl_rules.specs.Endpoint.{Crosses, SafeEndpoint}

pub safe_crosses : {E : Caps} (mode : Mode) (process endpoint : Labels)
    → SafeEndpoint E mode process endpoint
    → Within (Crosses mode process endpoint) (Dual E)
safe_crosses Read process endpoint safe = safe.read refl
safe_crosses Write process endpoint safe = safe.write refl
safe_crosses Both process endpoint safe =
    λ tag h. elim h [ inl h ↦ safe.read refl tag h | inr h ↦ safe.write refl tag h ]

pub crosses_safe : {E : Caps} (mode : Mode) (process endpoint : Labels)
    → Within (Crosses mode process endpoint) (Dual E) → SafeEndpoint E mode process endpoint
crosses_safe Read process endpoint all =
    record { read = λ _. all; write = λ e. absurd (false≢true e) }
crosses_safe Write process endpoint all =
    record { read = λ e. absurd (false≢true e); write = λ _. all }
crosses_safe Both process endpoint all = record {
  read = λ _ t h. all t (inl h);
  write = λ _ t h. all t (inr h);
}

pub endpoint_more : {E F : Caps} {mode : Mode} {process endpoint : Labels} → Within E F
    → SafeEndpoint E mode process endpoint → SafeEndpoint F mode process endpoint
endpoint_more more safe = record {
  read = λ e tag h. dual_more more tag (safe.read e tag h);
  write = λ e tag h. dual_more more tag (safe.write e tag h);
}
