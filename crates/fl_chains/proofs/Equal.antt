-- What `==` says of capabilities.
use Rattle.std.specs.Prelude.{◌≡◌, Bool, true, false, Option, None, Some}
use Rattle.std.proofs.Common.{sym, ap, ◌∙◌}
use Rattle.std.proofs.lemmas.Bool.{false≢true}
use Rattle.std.specs.Cmp.{Equal-is, eq_by_cmp_equiv}
use Rattle.std.specs.Option.{option_eq}
use Rattle.fl_labels.specs.contracts.cap.CapPartialEq.TheImpl as caps
use Rattle.fl_labels.specs.declared.cap.Cap.{Cap}
use Rattle.fl_labels.specs.Cap.{cap_cmp}
use Rattle.fl_labels.specs.CapOrder.{cap_total, cap_exact, cap_tied}

abbrev pub same : Cap → Cap → Bool
same a b = caps.ghosts.eq a b

pub caps_same : {a b : Cap} → same a b ≡ true → a ≡ b
caps_same {a} {b} e = cap_exact a b ((Equal-is (cap_cmp a b)).0 (sym (cap_tied a b) ∙ e))

pub same_caps : {a b : Cap} → a ≡ b → same a b ≡ true
same_caps {a} {b} e = ap (same a) (sym e) ∙ cap_tied a a ∙ (eq_by_cmp_equiv cap_total).refl a

pub caps_other : {a b : Cap} → same a b ≡ false → ¬ (a ≡ b)
caps_other e is = false≢true (sym e ∙ same_caps is)

pub told_same : (told : Option Cap) (c : Cap) → option_eq same told (Some c) ≡ true → told ≡ Some c
told_same None c e = absurd (false≢true e)
told_same (Some d) c e = ap Some (caps_same e)

pub told_other : (told : Option Cap) (c : Cap) → option_eq same told (Some c) ≡ false
    → ¬ (told ≡ Some c)
told_other None c e is = absurd (cc)
told_other (Some d) c e is = caps_other e (some_same is)
  where
    some_same : {a b : Cap} → Some a ≡ Some b → a ≡ b
    some_same h = cc
