-- Fronts of the list, and one more entry.
use Rattle.std.proofs.Common.{◌≡◌, ℕ, ◌≤◌, List, [], ◌∷◌, ◌++◌, length, take, sym, ap, ◌∙◌, subst}
use Rattle.std.proofs.Common.{refl}
use Rattle.std.proofs.Math.Seq.{take-length}
use Rattle.fl_labels.specs.Found.{Within}
use Rattle.fl_labels.specs.SetBy.{of_list, members}
use Rattle.fl_ops.specs.OpOrder.{op_cmp}
use Rattle.fl_ops.specs.Registry.{Listed}
use Rattle.fl_ops.specs.declared.op.Op.{Op}
use Rattle.fl_opset.specs.laws.Members.{listed_in, listed_member, member_listed}
use Rattle.fl_system.specs.State.{first_ops}
use Rattle.fl_bench.specs.Bench.{BenchState}
use Rattle.fl_crew_model.specs.Served.{IsServed, Served}
use Rattle.fl_crew_model.specs.declared.record.Entry.{Entry}
use Rattle.fl_worker.specs.declared.task.Task.{Task}
use Rattle.fl_worker.specs.Seen.{Rises, last_seen}
use Rattle.fl_worker.specs.Tasks.{IsOf, AreOf}

-- ---- all of a list

in_set : (list : List Op) → Within (Listed list) (Listed (members (of_list {R = op_cmp} list)))
in_set list op h =
    let all = of_list {R = op_cmp} list in
    member_listed all op ((listed_in list all refl op).0 h)

in_list : (list : List Op) → Within (Listed (members (of_list {R = op_cmp} list))) (Listed list)
in_list list op h =
    let all = of_list {R = op_cmp} list in
    (listed_in list all refl op).1 (listed_member all op h)

module _ (list : List Op) (n : ℕ) (all : n ≡ length list) where
  front_whole : take n list ≡ list
  front_whole = ap (λ k. take k list) all ∙ take-length list

  pub to_first : Within (Listed list) (first_ops n list)
  to_first op h =
      subst (λ (l : List Op). Listed (members (of_list {R = op_cmp} l)) op) (sym front_whole)
      (in_set list op h)

  pub from_first : Within (first_ops n list) (Listed list)
  from_first op h =
      in_list list op
      (subst (λ (l : List Op). Listed (members (of_list {R = op_cmp} l)) op) front_whole h)

-- ---- one more entry

module _ (list : List Op) where
  pub served_more : (b : BenchState) (es : List Entry) (mid : BenchState) (e : Entry)
      (b' : BenchState)
      → Served list b es mid → IsServed list mid e b' → Served list b (es ++ e ∷ []) b'
  served_more b [] mid e b' s one =
      (b', subst (λ (x : BenchState). IsServed list x e b') s one, refl)
  served_more b (f ∷ es) mid e b' s one = (s.0, s.1, served_more s.0 es mid e b' s.2 one)

pub are_more : (ts : List Task) (es : List Entry) (t : Task) (e : Entry) → AreOf ts es → IsOf t e
    → AreOf (ts ++ t ∷ []) (es ++ e ∷ [])
are_more [] [] t e h s = (s, tt)
are_more (u ∷ ts) (f ∷ es) t e h s = (h.0, are_more ts es t e h.1 s)
are_more [] (f ∷ es) t e h s = absurd h
are_more (u ∷ ts) [] t e h s = absurd h

pub rises_more : (low : ℕ) (es : List Entry) (e : Entry) → Rises low es → last_seen low es ≤ e.seen
    → Rises low (es ++ e ∷ [])
rises_more low [] e h up = (up, tt)
rises_more low (f ∷ es) e h up = (h.0, rises_more f.seen es e h.1 up)

pub last_more : (low : ℕ) (es : List Entry) (e : Entry) → last_seen low (es ++ e ∷ []) ≡ e.seen
last_more low [] e = refl
last_more low (f ∷ es) e = last_more f.seen es e
