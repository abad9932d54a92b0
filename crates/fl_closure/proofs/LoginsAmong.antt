-- The logins among the operations of a list.
use Rattle.std.specs.Prelude.{◌≡◌, List, ℕ, ◌+◌, ◌<◌, length, get_or, take, refl}
use Rattle.std.proofs.Common.{inl, inr, sym, ap, subst, ◌∙◌}
use Rattle.std.specs.Cmp.{Equal-is, tied_itself}
use Rattle.std.specs.Ordering.{eq_by_cmp, is_eq}
use Rattle.std.proofs.lemmas.Bool.{or_cases, false≢true}
use Rattle.fl_labels.specs.SetBy as set
use Rattle.fl_labels.specs.SetBy.{SetBy, In, contains-empty, contains-insert}
use Rattle.fl_labels.specs.declared.cap.Cap.{Cap}
use Rattle.fl_ops.specs.declared.digest.Digest.{Digest}
use Rattle.fl_ops.specs.declared.op.Op.{Op}
use Rattle.fl_ops.specs.declared.op.Body.TheVariants.{MakeLogin}
use Rattle.fl_ops.specs.OpOrder.{op_cmp}
use Rattle.fl_ops.specs.OpLaws.{op_total, op_exact}
use Rattle.fl_ops.specs.Registry.{Listed, login_op}
use Rattle.fl_closure.specs.parts.Knowing.{AreLogins}
use Rattle.fl_closure.proofs.Exists.{contains_more, exists_none_yet}
use Rattle.fl_closure.proofs.Indexing.{or_first, or_later}

pub logins_at_first : (ops : List Op) (logins : SetBy op_cmp) → logins ≡ set.empty → AreLogins (Listed (take 0 ops)) logins
logins_at_first ops logins is = record {
  only = λ op m. absurd (false≢true (sym (ap (λ (s : SetBy op_cmp). set.contains s op) is ∙ contains-empty op_cmp op) ∙ m));
  all = λ name c digest m. absurd (exists_none_yet (λ o. o ≡ o) ops (login_op name c digest, m, refl));
}

module _ (ops : List Op) (i : ℕ) (op : Op) (within : i < length ops) (at : op ≡ get_or ops i op) (old : SetBy op_cmp)
    (are : AreLogins (Listed (take i ops)) old) where
  pub logins_with : (new : SetBy op_cmp) → new ≡ set.insert old op → AreLogins (Listed (take (i + 1) ops)) new
  logins_with new is = subst (AreLogins (Listed (take (i + 1) ops))) (sym is) (record {
    only = λ o m. (contains_more ops i op within at o).1 (elim (or_cases _ _ (sym (contains-insert op_total old op o) ∙ m)) [
      | inl e ↦ inr (sym (op_exact o op ((Equal-is (op_cmp o op)).0 e)))
      | inr k ↦ inl (are.only o k)
    ]);
    all = λ name c digest m. contains-insert op_total old op (login_op name c digest) ∙ elim ((contains_more ops i op within at (login_op name c digest)).0 m) [
      | inl k ↦ or_later (eq_by_cmp op_cmp (login_op name c digest) op) (are.all name c digest k)
      | inr e ↦ or_first _ (ap (λ x. is_eq (op_cmp (login_op name c digest) x)) e ∙ ap is_eq (tied_itself op_total (login_op name c digest)))
    ];
  })

  pub logins_without : ((c : Cap) (digest : Digest) → op.body ≡ MakeLogin c digest → ⊥) → AreLogins (Listed (take (i + 1) ops)) old
  logins_without never = record {
    only = λ o m. (contains_more ops i op within at o).1 (inl (are.only o m));
    all = λ name c digest m. elim ((contains_more ops i op within at (login_op name c digest)).0 m) [
      | inl k ↦ are.all name c digest k
      | inr e ↦ absurd (never c digest (ap (λ (o : Op). o.body) e))
    ];
  }
