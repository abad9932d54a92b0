-- What entries by a secret owe.
use Rattle.std.proofs.Common.{◌≡◌, ◌∙◌, inl, inr, refl, sym, ap, subst, Bool, true, false, Some, Result, Ok, Err}
use Rattle.std.specs.Prelude.{not, nat_eq}
use Rattle.std.specs.Result.{IsErr, IsErrAnd}
use Rattle.std.proofs.lemmas.Bool.{false≢true}
use Rattle.std.specs.Cmp.Lexicographic.{pointwise, same_text, other_text}
use Rattle.fl_labels.specs.Cap.{cap_cmp}
use Rattle.fl_labels.specs.SetBy as set
use Rattle.fl_labels.specs.SetBy.{SetBy}
use Rattle.fl_labels.specs.declared.name.Name.{Name}
use Rattle.fl_labels.specs.declared.cap.Cap.{Cap}
use Rattle.fl_ops.specs.declared.digest.Digest.{Digest}
use Rattle.fl_ops.specs.declared.op.Op.{Op}
use Rattle.fl_ops.specs.OpLaws.{same_digest}
use Rattle.fl_ops.specs.Logins.{IsFirstLogin}
use Rattle.fl_jobs.specs.declared.secret.Secret.{Secret}
use Rattle.fl_jobs.specs.declared.answer.Refusal.{Refusal}
use Rattle.fl_jobs.specs.declared.answer.Refusal.TheVariants.{WrongSecret, Memory}
use Rattle.fl_jobs.specs.declared.answer.Reply.TheVariants.{Entered}
use Rattle.fl_jobs.specs.declared.answer.Outcome.{Outcome}
use Rattle.fl_bench.specs.Jobs.{enter_check}
use Rattle.fl_bench.specs.Secrets.{digest_of}
use Rattle.fl_monitor.specs.parts.Acts.{Enters}
use Rattle.fl_monitor.proofs.CheckLemmas.{passed_on}

turned_true : (b : Bool) → not b ≡ true → false ≡ b
turned_true true e = e
turned_true false e = refl

turned_false : (b : Bool) → not b ≡ false → true ≡ b
turned_false true e = refl
turned_false false e = e

module _ (V : Op → Type 0) (login : Name) (secret : Secret) (c : Cap) (digest other : Digest) (first : IsFirstLogin V login c digest) (is : other ≡ digest_of secret)
    (ne : Bool) (told : ne ≡ not (pointwise nat_eq digest.bytes other.bytes)) where
  pub login_wrong : ne ≡ true → enter_check V login secret (Some WrongSecret)
  login_wrong e = inr (refl, c, digest, first, λ same. other_text digest.bytes other.bytes (turned_true _ (sym told ∙ e)) (ap (λ (d : Digest). d.bytes) (same ∙ sym is)))

  -- the digest is that of the secret
  pub login_shown : ne ≡ false → IsFirstLogin V login c (digest_of secret)
  login_shown e = subst (IsFirstLogin V login c) (same_digest digest other (same_text digest.bytes other.bytes (turned_false _ (sym told ∙ e))) ∙ is) first

module _ (V : Op → Type 0) (owned : SetBy cap_cmp) (login : Name) (secret : Secret) where
  enters_not : (f : Refusal) → enter_check V login secret (Some f) → Enters V owned login secret (Err f) owned
  enters_not f (inl (is, none)) = subst (λ f. Enters V owned login secret (Err f) owned) (sym is) (Enters.unknown none)
  enters_not f (inr (is, c, digest, first, other)) = subst (λ f. Enters V owned login secret (Err f) owned) (sym is) (Enters.wrong first other)

  pub enters_refused : (f : Refusal) → enter_check V login secret (Some f) → (q : Result Outcome Refusal) → IsErr q × IsErrAnd q (λ g. g ≡ f) → Enters V owned login secret q owned
  enters_refused f h q s = subst (λ q. Enters V owned login secret q owned) (sym (passed_on q f s)) (enters_not f h)

  module _ (c : Cap) (shown : IsFirstLogin V login c (digest_of secret)) (after : SetBy cap_cmp) where
    pub enters_starved : after ≡ owned → set.contains owned c ≡ false → Enters V owned login secret (Err Memory) after
    enters_starved same new = subst (Enters V owned login secret (Err Memory)) (sym same) (Enters.no_room shown (λ has. absurd (false≢true (sym new ∙ has))))

    pub enters_by : after ≡ set.insert owned c → Enters V owned login secret (Ok (Outcome.Reply (Entered c))) after
    enters_by same = subst (Enters V owned login secret (Ok (Outcome.Reply (Entered c)))) (sym same) (Enters.enters shown)
