-- What an operation gives, and what is there of it.
use Rattle.std.specs.Prelude.{◌≡◌, ◌↔◌, Bool, true, Option, None, Some, List, ℕ, ◌+◌, ◌<◌, ◌≤◌, length, get_or, take}
use Rattle.std.proofs.Common.{inl, inr, sym, ap, subst, ◌∙◌}
use Rattle.std.proofs.lemmas.Bool.{false≢true}
use Rattle.fl_labels.specs.Found.{Tells, Within}
use Rattle.fl_labels.specs.SetBy as set
use Rattle.fl_labels.specs.SetBy.{SetBy}
use Rattle.fl_labels.specs.declared.name.Name.{Name}
use Rattle.fl_ops.specs.declared.digest.Digest.{Digest}
use Rattle.fl_ops.specs.declared.op.Body.TheVariants.{MakeLogin}
use Rattle.fl_ops.specs.OpOrder.{op_cmp}
use Rattle.fl_ops.specs.Registry.{Listed}
use Rattle.fl_labels.specs.declared.cap.Cap.{Cap}
use Rattle.fl_ops.specs.declared.op.Op.{Op}
use Rattle.fl_closure.specs.declared.closure.Closure.{Closure}
use Rattle.fl_closure.specs.declared.closed.Entry.{Entry}
use Rattle.fl_closure.specs.declared.rows.Owner.TheVariants.{Everybody, Group}
use Rattle.fl_closure.specs.parts.Closed.{entry, Gives}
use Rattle.fl_closure.specs.parts.Knowing.{IsHeld, Follows, IsKnown}
use Rattle.fl_closure.proofs.Closing.{AreGifts, first_part, second_part}
use Rattle.fl_closure.proofs.Exists.{contains_more}
use Rattle.fl_closure.specs.laws.Told.{told, told_yes}
use Rattle.fl_closure.proofs.Members.{in_all}

no_entry : {e : Entry} → None ≡ Some e → ⊥
no_entry e = absurd (cc)

pub nothing_held : (closure : Closure) (op : Op) (said : Option Entry) → AreGifts op said → said ≡ None → Tells true (Follows closure op)
nothing_held closure op said gifts is =
    told_yes (record { held = λ owner c p. absurd (no_entry (sym is ∙ (gifts owner c).0 p)) })

pub gift_held : (closure : Closure) (op : Op) (given : Option Entry) (e : Entry) (b : Bool) → AreGifts op given → given ≡ Some e
    → Tells b (IsHeld closure e.owner e.cap) → Tells b (Follows closure op)
gift_held closure op given e b gifts is t = told b
    (λ h. record {
      held = λ owner c p.
          let same = sym is ∙ (gifts owner c).0 p in
          subst (λ o. IsHeld closure o c) (first_part {h = e.owner} {k = owner} {x = e.cap} {y = c} same)
          (subst (IsHeld closure e.owner) (second_part {h = e.owner} {k = owner} {x = e.cap} {y = c} same) h);
    })
    (λ f. f.held e.owner e.cap ((gifts e.owner e.cap).1 is)) t

-- ---- what is given to everybody

cap_of : Cap → Option Cap → Cap
cap_of d None = d
cap_of d (Some c) = c

cap_eq : {c d : Cap} → Some c ≡ Some d → c ≡ d
unfolding cap_of
cap_eq {c} e = ap (cap_of c) e

no_cap : {c : Cap} → None ≡ Some c → ⊥
no_cap e = absurd (cc)

pub no_global : (op : Op) (said : Option Entry) (r : Option Cap) → AreGifts op said → said ≡ None → r ≡ None
    → (c : Cap) → Gives op Everybody c ↔ (r ≡ Some c)
no_global op said r gifts is none c = (
  λ p. absurd (no_entry (sym is ∙ (gifts Everybody c).0 p)),
  λ e. absurd (no_cap (sym none ∙ e)),
)

pub global_of : (op : Op) (said : Option Entry) (e : Entry) → AreGifts op said → said ≡ Some e → e.owner ≡ Everybody
    → (c : Cap) → Gives op Everybody c ↔ (Some e.cap ≡ Some c)
global_of op said e gifts is of c = (
  λ p. ap Some (second_part {h = e.owner} {k = Everybody} {x = e.cap} {y = c} (sym is ∙ (gifts Everybody c).0 p)),
  λ same. (gifts Everybody c).1 (is ∙ ap (λ o. Some (entry o e.cap)) of ∙ ap (λ x. Some (entry Everybody x)) (cap_eq same)),
)

other_owner : {h : Name} → Group h ≡ Everybody → ⊥
other_owner e = absurd (cc)

pub not_global : (op : Op) (said : Option Entry) (e : Entry) (g : Name) → AreGifts op said → said ≡ Some e → e.owner ≡ Group g
    → (c : Cap) → Gives op Everybody c ↔ (None ≡ Some c)
not_global op said e g gifts is of c = (
  λ p. absurd (other_owner (sym of ∙ first_part {h = e.owner} {k = Everybody} {x = e.cap} {y = c} (sym is ∙ (gifts Everybody c).0 p))),
  λ s. absurd (no_cap s),
)

-- ---- what is known

pub known_login : (closure : Closure) (logins : SetBy op_cmp) (op : Op) (b : Bool) → Follows closure op → b ≡ set.contains logins op
    → (c : Cap) (digest : Digest) → op.body ≡ MakeLogin c digest → Tells b (IsKnown closure logins op)
known_login closure logins op b follows is c digest body = record {
  holds = λ t. record { follows = follows; login = λ name d other e. sym is ∙ t };
  fails = λ t known. false≢true (sym t ∙ is ∙ known.login op.name c digest (ap (λ b. record { name = op.name; body = b }) (sym body)));
}

module _ (P : Op → Type 0) (ops : List Op) (i : ℕ) where
  pub within_more : (op : Op) → i < length ops → op ≡ get_or ops i op → Within (Listed (take i ops)) P → P op
      → Within (Listed (take (i + 1) ops)) P
  within_more op within at so_far this o m = elim ((contains_more ops i op within at o).0 m) [
    | inl k ↦ so_far o k
    | inr e ↦ subst P e this
  ]

  pub within_all : length ops ≤ i → Within (Listed (take i ops)) P → Tells true (Within (Listed ops) P)
  within_all whole so_far = told_yes (λ o m. so_far o (in_all ops i o whole m))
