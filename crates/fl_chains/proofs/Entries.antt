-- The logins of operations, one by one.
use Rattle.std.specs.Prelude.{◌≡◌, ◌↔◌, Option, Some, None, List, [], ◌∷◌, ◌++◌, ℕ, ◌+◌, ◌<◌, ◌≤◌, length, get_or, take, refl}
use Rattle.std.proofs.Common.{inl, inr, sym, ap, subst, ◌∙◌}
use Rattle.std.specs.Cmp.{IsTotalOrder}
use Rattle.std.specs.FinMap.{IsAntisymmetric}
use Rattle.std.specs.List.{Contains}
use Rattle.std.specs.Ordering.{ordering_then}
use Rattle.std.specs.declared.cmp.Ordering.{Ordering}
use Rattle.std.specs.declared.cmp.Ordering.TheVariants.{Less, Equal, Greater}
use Rattle.std.proofs.lemmas.Cmp.{then_total, on_total}
use Rattle.std.proofs.lemmas.List.Elements.{Contains-push_cases}
use Rattle.fl_labels.specs.Arranged.{IsArranged}
use Rattle.fl_labels.specs.Cap.{cap_cmp}
use Rattle.fl_labels.specs.CapOrder.{cap_total, cap_exact}
use Rattle.fl_labels.specs.Name.{name_cmp}
use Rattle.fl_labels.specs.NameOrder.{name_total, name_exact}
use Rattle.fl_labels.specs.declared.cap.Cap.{Cap}
use Rattle.fl_ops.specs.declared.digest.Digest.{Digest}
use Rattle.fl_ops.specs.declared.op.Op.{Op}
use Rattle.fl_ops.specs.declared.op.Body.TheVariants.{MakeLogin}
use Rattle.fl_ops.specs.Registry.{Registry, From, Listed, Reach, login_op}
use Rattle.fl_chains.specs.declared.logins.Login.{Login}
use Rattle.fl_chains.specs.Leading.{LoginLeads, login_cmp}
use Rattle.fl_chains.specs.Rising.{AreRising}
use Rattle.fl_chains.specs.parts.Logins.{MakesLogin}
use Rattle.fl_chains.proofs.Members.{none, push_left, push_same, more_cases, more_before, more_this, all_there, of_all}
use Rattle.fl_chains.proofs.Ways.{arranged_rising}

pub login_total : IsTotalOrder login_cmp
login_total = then_total (on_total (λ (l : Login). l.name) name_total)
    (on_total (λ (l : Login). l.cap) cap_total)

ties : (a b : Ordering) → ordering_then a b ≡ Equal → (a ≡ Equal) × (b ≡ Equal)
ties Less b e = absurd (cc)
ties Equal b e = (refl, e)
ties Greater b e = absurd (cc)

pub login_exact : IsAntisymmetric login_cmp
login_exact a b e =
    let both = ties (name_cmp a.name b.name) (cap_cmp a.cap b.cap) e in
    let name = name_exact a.name b.name both.0 in
    let cap = cap_exact a.cap b.cap both.1 in
    λ i. record { name = name i; cap = cap i }

-- the login that an operation makes, as it is told
abbrev pub IsLoginOf : Op → Option Login → Type 0
IsLoginOf op told = (login : Login) → (told ≡ Some login) ↔ MakesLogin op login

pub told_login : (op : Op) (c : Cap) (digest : Digest) → op.body ≡ MakeLogin c digest
    → IsLoginOf op (Some (record { name = op.name; cap = c }))
told_login op c digest is login = (
  λ e. subst (MakesLogin op) (same (record { name = op.name; cap = c }) login e)
      (digest, λ i. record { name = op.name; body = sym is i }),
  λ h.
      let name = ap (λ (o : Op). o.name) h.1 in
      let cap = parts login.cap c h.0 digest (ap (λ (o : Op). o.body) h.1 ∙ is) in
      ap Some (λ i. record { name = sym name i; cap = sym cap i }),
)
  where
    same : (a b : Login) → Some a ≡ Some b → a ≡ b
    same a b e = cc

    parts : (a b : Cap) (x y : Digest) → MakeLogin a x ≡ MakeLogin b y → a ≡ b
    parts a b x y e = cc

pub same_told : {told : Option Login} {a b : Login} → told ≡ Some a → told ≡ Some b → a ≡ b
same_told {a = a} {b = b} p q = same (sym p ∙ q)
  where
    same : Some a ≡ Some b → a ≡ b
    same e = cc

pub none_told : {told : Option Login} {a : Login} → told ≡ None → ¬ (told ≡ Some a)
none_told {a = a} p q = no (sym p ∙ q)
  where
    no : ¬ (None ≡ Some a)
    no e = absurd (cc)

-- the logins of the operations that lead to c
abbrev pub AreEntries : Registry → Cap → List Op → List Login → Type 0
AreEntries U c ops logins = (login : Login) → Contains logins login
    ↔ (((op : Op) × Contains ops op × MakesLogin op login) × Reach U (From login.cap) c)

module _ (U : Registry) (c : Cap) where
  pub entries_none : AreEntries U c [] []
  entries_none login = (λ h. absurd (none login h), λ h. absurd (none h.0.0 h.0.1))

  module _ (ops : List Op) (i : ℕ) (op : Op) (within : i < length ops) (at : op ≡ get_or ops i op)
      (logins : List Login) (so_far : AreEntries U c (take i ops) logins)
      (told : Option Login) (of : IsLoginOf op told) where
    same_login : (a b : Login) → Some a ≡ Some b → a ≡ b
    same_login a b e = cc

    pub entries_more : (new : List Login) (l : Login) → told ≡ Some l → Reach U (From l.cap) c
        → new ≡ logins ++ l ∷ [] → AreEntries U c (take (i + 1) ops) new
    entries_more new l is leads e login = (
      λ h. elim (Contains-push_cases logins l login (subst (λ x. Contains x login) e h)) [
        | inl m ↦ let p = (so_far login).0 m in
            ((p.0.0, more_before ops i op within at p.0.0 p.0.1, p.0.2), p.1)
        | inr k ↦ (
          (op, more_this ops i op within at op refl, (of login).0 (is ∙ ap Some k)),
          subst (λ (x : Login). Reach U (From x.cap) c) k leads,
        )
      ],
      λ h. subst (λ x. Contains x login) (sym e)
          (elim (more_cases ops i op within at h.0.0 h.0.1) [
            | inl m ↦ push_left logins l login ((so_far login).1 ((h.0.0, m, h.0.2), h.1))
            | inr k ↦ push_same logins l login (same_login l login (sym is ∙ (of login).1
                (subst (λ o. MakesLogin o login) (sym k) h.0.2)))
          ]),
    )

    pub entries_other : ((l : Login) → told ≡ Some l → ¬ Reach U (From l.cap) c)
        → AreEntries U c (take (i + 1) ops) logins
    entries_other other login = (
      λ h. let p = (so_far login).0 h in
          ((p.0.0, more_before ops i op within at p.0.0 p.0.1, p.0.2), p.1),
      λ h. elim (more_cases ops i op within at h.0.0 h.0.1) [
        | inl m ↦ (so_far login).1 ((h.0.0, m, h.0.2), h.1)
        | inr k ↦ absurd (other login
            ((of login).1 (subst (λ o. MakesLogin o login) (sym k) h.0.2)) h.1)
      ],
    )

  pub entries_all : (ops : List Op) (i : ℕ) (logins : List Login) → length ops ≤ i
      → AreEntries U c (take i ops) logins → AreEntries U c ops logins
  entries_all ops i logins whole h login = (
    λ m. let p = (h login).0 m in ((p.0.0, of_all ops i p.0.0 whole p.0.1, p.0.2), p.1),
    λ p. (h login).1 ((p.0.0, all_there ops i p.0.0 whole p.0.1, p.0.2), p.1),
  )

pub made_login : (ops : List Op) (c : Cap) (op : Op) → Contains ops op → (login : Login)
    → MakesLogin op login → Reach (Listed ops) (From login.cap) c → LoginLeads (Listed ops) c login
made_login ops c op there login makes leads =
    ((makes.0, subst (Listed ops) (sym makes.1) there), leads)

pub rising_logins : (ops : List Op) (c : Cap) (all made : List Login)
    → AreEntries (Listed ops) c ops all → IsArranged login_cmp all made
    → AreRising login_cmp (LoginLeads (Listed ops) c) made
rising_logins ops c all made are arranged =
    arranged_rising login_total login_exact (LoginLeads (Listed ops) c) all made arranged
    (λ login. (
      λ m. let p = (are login).0 m in made_login ops c p.0.0 p.0.1 login p.0.2 p.1,
      λ h. (are login).1
          ((login_op login.name login.cap h.0.0, h.0.1, (h.0.0, refl)), h.1),
    ))
