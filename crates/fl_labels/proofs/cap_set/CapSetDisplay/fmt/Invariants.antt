use Rattle.std.proofs.Common.{◌∷◌, take}
use Rattle.std.specs.Fmt.{HasWritten, IsPlainFormatter}
use Rattle.std.specs.List.{flat_map}
use Rattle.fl_labels.specs.Text.{cap_text}
use Rattle.fl_labels.proofs.cap_set.CapSetDisplay.fmt.Given as goal

-- each capability so far, with a comma before it
abbrev pub invariant-loop-cap : goal.invariant-loop-cap
invariant-loop-cap g l =
    IsPlainFormatter l.initial.f → HasWritten g.W.Write.write_str_gives l.initial.f (flat_map (λ cap. 44 ∷ cap_text cap) (take l.cap-index l.rest)) l.f
