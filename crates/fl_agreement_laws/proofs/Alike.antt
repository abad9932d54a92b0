-- What published the same is the same, and what sees the same answers alike.
use Rattle.std.proofs.Common.{◌≡◌, ◌⊎◌, ◌↔◌, ◌∙◌, inl, inr, ℕ, List, Some, refl, sym, subst}
use Rattle.std.specs.List.{Contains}
use Rattle.fl_labels.specs.Found.{Within}
use Rattle.fl_labels.specs.SetBy as set
use Rattle.fl_labels.specs.declared.cap.Cap.{Cap}
use Rattle.fl_ops.specs.OpLaws.{op_total, op_exact}
use Rattle.fl_ops.specs.OpOrder.{op_cmp}
use Rattle.fl_ops.specs.declared.op.Op.{Op}
use Rattle.fl_ops.specs.laws.Reaching.{reach_more}
use Rattle.fl_opset.specs.laws.Members.{listed_in}
use Rattle.fl_opset.specs.laws.Unions.{same_members}
use Rattle.fl_jobs.specs.declared.answer.Reply.TheVariants.{Yes, NotYet}
use Rattle.fl_jobs.specs.declared.job.Job.TheVariants.{Member}
use Rattle.fl_bench.specs.laws.Puts.{same_found}
use Rattle.fl_system.specs.declared.event.Event.TheVariants.{Job}
use Rattle.fl_system.specs.declared.reply.Reply.{Reply}
use Rattle.fl_system.specs.declared.reply.Reply.TheVariants.{Job as Answered}
use Rattle.fl_system.specs.Numbered.{item_at}
use Rattle.fl_system.specs.State.{first_ops}
use Rattle.fl_system.specs.World.{World, KeptNode}
use Rattle.fl_system.specs.WorldSteps.{Step}
use Rattle.fl_agreement_laws.specs.Knowledge.{IsAnswer, Sees}
use Rattle.fl_agreement_laws.proofs.Answering.{Had, had, answer_is, yes_member, not_yet_member}

-- ---- lists with the same items

pub same_registry : (xs ys : List Op) → ((op : Op) → Contains xs op ↔ Contains ys op)
    → set.of_list {R = op_cmp} xs ≡ set.of_list ys
same_registry xs ys is =
    same_members op_total op_exact (set.of_list xs) (set.of_list ys) (λ op. (
      λ h. (listed_in ys (set.of_list ys) refl op).0 ((is op).0 ((listed_in xs (set.of_list xs) refl op).1 h)),
      λ h. (listed_in xs (set.of_list xs) refl op).0 ((is op).1 ((listed_in ys (set.of_list ys) refl op).1 h)),
    ))

-- ---- a yes and a not yet

module _ {w after v later : World} {number desk other_number other : ℕ} {root c : Cap} where
  seen_there : (first : Had w number desk (Member root c) Yes after)
      → (second : Had v other_number other (Member root c) NotYet later)
      → Within (Sees after number desk) (Sees later other_number other)
      → Within (first_ops first.v first.n.published) (first_ops second.v second.n.published)
  seen_there first second more op h =
      let sees = more op (record {
        s = record { node = first.n; kept = first.s.kept };
        at = first.later;
        v = first.v;
        view = first.view;
        seen = h;
      }) in
      let view = subst (λ (z : KeptNode). item_at z.node.views other ≡ Some sees.v) (same_found sees.at second.later)
      sees.view in
      subst (λ k. first_ops k second.n.published op) (same_found view second.view)
      (subst (λ (z : KeptNode). first_ops sees.v z.node.published op) (same_found sees.at second.later) sees.seen)

  differ : {upto upto' : ℕ} → Within (Sees after number desk) (Sees later other_number other)
      → Step w (Job number desk upto (Member root c)) (Answered Yes) after
      → ¬ Step v (Job other_number other upto' (Member root c)) (Answered NotYet) later
  differ more says_yes says_no =
      let first = had says_yes in
      let second = had says_no in
      not_yet_member second.does (reach_more (seen_there first second more) (λ x h. h) c (yes_member first.does))

pub same_member : (w after v later : World) (number desk upto other_number other upto' : ℕ) (root c : Cap)
    (reply reply' : Reply)
    → ((op : Op) → Sees after number desk op ↔ Sees later other_number other op) → IsAnswer reply → IsAnswer reply'
    → Step w (Job number desk upto (Member root c)) reply after
    → Step v (Job other_number other upto' (Member root c)) reply' later → reply ≡ reply'
same_member w after v later number desk upto other_number other upto' root c reply reply' same is is' one two =
    by (answer_is reply is) (answer_is reply' is')
  where
    first : (r : Reply) → reply ≡ r → Step w (Job number desk upto (Member root c)) r after
    first r e = subst (λ x. Step w (Job number desk upto (Member root c)) x after) e one

    second : (r : Reply) → reply' ≡ r → Step v (Job other_number other upto' (Member root c)) r later
    second r e = subst (λ x. Step v (Job other_number other upto' (Member root c)) x later) e two

    by : (reply ≡ Answered Yes) ⊎ (reply ≡ Answered NotYet) → (reply' ≡ Answered Yes) ⊎ (reply' ≡ Answered NotYet)
        → reply ≡ reply'
    by (inl a) (inl b) = a ∙ sym b
    by (inr a) (inr b) = a ∙ sym b
    by (inl a) (inr b) = absurd (differ (λ op h. (same op).0 h) (first (Answered Yes) a) (second (Answered NotYet) b))
    by (inr a) (inl b) = absurd (differ (λ op h. (same op).1 h) (second (Answered Yes) b) (first (Answered NotYet) a))
