-- What operations give to everybody, one by one.
use Rattle.std.specs.Prelude.{◌≡◌, ◌↔◌, Option, Some, None, refl, IsSome}
use Rattle.std.proofs.Common.{sym, ap, subst}
use Rattle.std.proofs.lemmas.Bool.{false≢true}
use Rattle.fl_labels.specs.declared.name.Name.{Name}
use Rattle.fl_labels.specs.Name.{name_cmp}
use Rattle.fl_labels.specs.declared.cap.Cap.{Cap}
use Rattle.fl_labels.specs.declared.cap.Cap.TheVariants.{Plus, Minus, Use, Grow}
use Rattle.fl_ops.specs.declared.op.Op.{Op}
use Rattle.fl_ops.specs.declared.op.Body.TheVariants.{MakeTag, Open}
use Rattle.fl_ops.specs.declared.op.Policy.TheVariants.{Export, Integrity}
use Rattle.fl_ops.specs.Registry.{Registry, IsGlobal, open_op, tag_op}
use Rattle.fl_ops.specs.laws.Reaching.{global_more}
use Rattle.fl_chains.specs.Giver.{Alone, Gives, IsGiver}
use Rattle.fl_chains.specs.Least.{FindsLeast}

-- what the operation gives to everybody, as it is told
abbrev pub IsGift : Op → Option Cap → Type 0
IsGift op told = (c : Cap) → (told ≡ Some c) ↔ IsGlobal (Alone op) c

cap_or : Cap → Option Cap → Cap
cap_or d None = d
cap_or d (Some c) = c

pub same_cap : {c d : Cap} → Some c ≡ Some d → c ≡ d
unfolding cap_or
same_cap {c} e = ap (cap_or c) e

module _ (name group : Name) where
  abbrev this : Op
  this = open_op name group

  to : (c : Cap) → IsGlobal (Alone this) c → Use group ≡ c
  to (Plus tag) e = absurd (never (ap (λ (o : Op). o.body) e))
    where
      never : MakeTag Export ≡ Open group → ⊥
      never e = absurd (cc)
  to (Minus tag) e = absurd (never (ap (λ (o : Op). o.body) e))
    where
      never : MakeTag Integrity ≡ Open group → ⊥
      never e = absurd (cc)
  to (Use g) (other, e) = ap Use (same (ap (λ (o : Op). o.body) e))
    where
      same : Open g ≡ Open group → group ≡ g
      same e = cc
  to (Grow g) h = absurd h

  opened : IsGift this (Some (Use group))
  opened c = (λ e. subst (IsGlobal (Alone this)) (same_cap e) (name, refl), λ h. ap Some (to c h))

pub open_gift : (op : Op) (group : Name) → op.body ≡ Open group → IsGift op (Some (Use group))
open_gift op group is = subst (λ b. IsGift (record { name = op.name; body = b }) (Some (Use group)))
    (sym is) (opened op.name group)

-- an operation gives what it gives by itself, and something else gives nothing of it
pub given_by : (U : Registry) (c : Cap) → IsGlobal U c → (op : Op) × U op × IsGlobal (Alone op) c
given_by U (Plus tag) h = (tag_op tag Export, h, refl)
given_by U (Minus tag) h = (tag_op tag Integrity, h, refl)
given_by U (Use group) h = (open_op h.0 group, h.1, (h.0, refl))
given_by U (Grow group) h = absurd h

pub by_giver : (U : Registry) (c : Cap) (op : Op) → U op → IsGlobal (Alone op) c → IsGlobal U c
by_giver U c op u h = global_more (λ o e. let back : op ≡ o = sym e in subst U back u) c h

pub gives_this : (op : Op) (told : Option Cap) (c : Cap) → IsGift op told → told ≡ Some c
    → Gives c op op.name
gives_this op told c gift is = ((gift c).0 is, refl)

pub gives_none : (op : Op) (told : Option Cap) (c : Cap) → IsGift op told → (told ≡ Some c → ⊥)
    → (x : Name) → ¬ Gives c op x
gives_none op told c gift other x h = other ((gift c).1 h.0)

pub least_global : (U : Registry) (c : Cap) (r : Option Name) → FindsLeast name_cmp (IsGiver U c) r
    → IsSome r ↔ IsGlobal U c
least_global U c None h = (
  λ e. absurd (false≢true e),
  λ g. let by = given_by U c g in absurd (h by.0.name (by.0, by.1, (by.2, refl))),
)
least_global U c (Some n) h = (λ e. let g = h.member in by_giver U c g.0 g.1 g.2.0, λ _. refl)
