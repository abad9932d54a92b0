-- What may be both added and removed, by who has the same in effect or more.
use Rattle.std.specs.Prelude.{◌↔◌}
use Rattle.fl_labels.specs.declared.name.Name.{Name}
use Rattle.fl_labels.specs.declared.cap.Cap.{Cap}
use Rattle.fl_labels.specs.declared.cap.Cap.TheVariants.{Plus, Minus}
use Rattle.fl_labels.specs.Caps.{Caps, Dual}
use Rattle.fl_labels.specs.Found.{Within}

pub dual_more : {E F : Caps} → Within E F → Within (Dual E) (Dual F)
dual_more more tag h = (more (Plus tag) h.0, more (Minus tag) h.1)

pub dual_same : {E F : Caps} → ((cap : Cap) → E cap ↔ F cap) → (tag : Name)
    → Dual E tag ↔ Dual F tag
dual_same same tag = (
  λ d. ((same (Plus tag)).0 d.0, (same (Minus tag)).0 d.1),
  λ d.
      ((same (Plus tag)).1 d.0, (same (Minus tag)).1 d.1),
)
