-- When a message from process to process is safe, by their labels and what each has in effect.
use Rattle.std.specs.Prelude.{◌⊎◌}
use Rattle.fl_labels.specs.declared.name.Name.{Name}
use Rattle.fl_labels.specs.SetBy.{In}
use Rattle.fl_labels.specs.Caps.{Caps, Dual}
use Rattle.fl_rules.specs.declared.labels.Labels.{Labels}

-- p has E in effect, and sends; q has F in effect, and receives
pub record SafeMessage (E : Caps) (p : Labels) (F : Caps) (q : Labels) : Type 0 where
  pub secrecy : (tag : Name) → In p.secrecy tag → ¬ Dual E tag → In q.secrecy tag ⊎ Dual F tag
  pub integrity : (tag : Name) → In q.integrity tag → ¬ Dual F tag → In p.integrity tag ⊎ Dual E tag
