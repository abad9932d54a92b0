-- Data of equal parts are equal.
use Rattle.std.specs.Prelude.{◌≡◌, ◌≤◌}
use mathlib.Core.HLevel.{Σ_prop_path}
use Rattle.std.specs.Coded.{×_prop, le_prop}
use Rattle.fl_labels.specs.Name.{name_cmp}
use Rattle.fl_labels.specs.SetBy.{SetBy, len}
use Rattle.fl_message.specs.declared.message.Data.{Data}

pub same_data : (a b : Data) → a.sender ≡ b.sender → a.from ≡ b.from → a.receiver ≡ b.receiver → a.to ≡ b.to
    → a.secrecy ≡ b.secrecy → a.integrity ≡ b.integrity → a.message ≡ b.message → a ≡ b
same_data a b p q r s t u m =
    let labels : ◌≡◌ {A = (f : SetBy name_cmp × SetBy name_cmp) × (len f.0 ≤ 256 × len f.1 ≤ 256)}
    ((a.secrecy, a.integrity), (a.secrecy_fits, a.integrity_fits)) ((b.secrecy, b.integrity), (b.secrecy_fits, b.integrity_fits))
    = Σ_prop_path (λ f. ×_prop le_prop le_prop) (λ i. (t i, u i)) in
    λ i. record {
      sender = p i;
      from = q i;
      receiver = r i;
      to = s i;
      secrecy = (labels i).0.0;
      integrity = (labels i).0.1;
      message = m i;
      secrecy_fits = (labels i).1.0;
      integrity_fits = (labels i).1.1;
    }
