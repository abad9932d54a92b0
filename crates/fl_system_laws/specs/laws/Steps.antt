-- Each call of a node keeps it sound.
use Rattle.std.specs.Prelude.{◌||◌}
use Rattle.std.proofs.Common.{◌≡◌, ◌⊎◌, inl, inr, ℕ, Bool, true, false, List, [], ◌∷◌, Result, None, refl, sym, ◌∙◌, ap, subst, length, arith}
use Rattle.std.specs.List.{Contains}
use Rattle.std.specs.declared.option.Option.{Option}
use Rattle.std.proofs.lemmas.List.Elements.{Contains-append_cases, Contains-push_cases}
use Rattle.fl_labels.specs.declared.name.Name.{Name}
use Rattle.fl_labels.specs.declared.pid.Pid.{Pid}
use Rattle.fl_labels.specs.Found.{Within}
use Rattle.fl_labels.specs.SetBy as set
use Rattle.fl_labels.specs.SetBy.{SetBy, In, of_list}
use Rattle.fl_ops.specs.declared.op.Op.{Op}
use Rattle.fl_ops.specs.declared.op.Body.{Body}
use Rattle.fl_ops.specs.OpOrder.{op_cmp}
use Rattle.fl_ops.specs.OpLaws.{op_total}
use Rattle.fl_opset.specs.laws.Members.{listed_in, listed_member}
use Rattle.fl_opset.specs.laws.Unions.{union_upper}
use Rattle.fl_message.specs.declared.message.Data.{Data}
use Rattle.fl_jobs.specs.declared.answer.Reply.{Reply}
use Rattle.fl_jobs.specs.declared.job.Job.{Job}
use Rattle.fl_store.specs.Kept.{Kept, with_ops}
use Rattle.fl_system.specs.declared.answer.Answer.{Answer}
use Rattle.fl_system.specs.declared.answer.Fault.{Fault}
use Rattle.fl_system.specs.declared.state.Batch.{Batch}
use Rattle.fl_system.specs.declared.state.Pending.TheVariants.{Unsaved}
use Rattle.fl_system.specs.declared.state.State.{State}
use Rattle.fl_system.specs.declared.state.State.TheVariants.{Running, Stopped}
use Rattle.fl_system.specs.State.{NodeState, ops_of, ops_in, kept_of}
use Rattle.fl_system.specs.Naming.{IsNextAfter}
use Rattle.fl_system.specs.Begins.{Begins}
use Rattle.fl_system.specs.Jobs.{Jobs, worked}
use Rattle.fl_system.specs.Receives.{Receives}
use Rattle.fl_system.specs.Arrives.{Arrives}
use Rattle.fl_system.specs.Saves.{Saves, stored}
use Rattle.fl_system.specs.Publishes.{Publishes, Cancels}
use Rattle.fl_system.specs.Openings.{Opens, OpensAgain, IsOwn, Restarts, Reopens, opened}
use Rattle.fl_system.specs.Whereabouts.{IsOnItsWay}
use Rattle.fl_system_laws.specs.Sound.{Holding, holding, IsDue, IsNew, IsSound, KnownWith, IsStep}

-- ---- sets of operations with those of a list

pub with_ops_cases : (saved : SetBy op_cmp) (ops : List Op) (op : Op)
    → In (with_ops saved ops) op → In saved op ⊎ Contains ops op
with_ops_cases saved ops op h = elim (set_cases saved (of_list ops) op h) [
  | inl i ↦ inl i
  | inr l ↦ inr ((listed_in ops (of_list ops) refl op).1 l)
]
  where
    or_cases : (a b : Bool) → (a || b) ≡ true → (a ≡ true) ⊎ (b ≡ true)
    or_cases true b h = inl refl
    or_cases false b h = inr h

    set_cases : (s t : SetBy op_cmp) (op : Op) → In (set.union s t) op → In s op ⊎ In t op
    set_cases s t op h = or_cases (set.contains s op) (set.contains t op) (sym (set.contains-union op_total s t op) ∙ h)

pub with_ops_more : (saved : SetBy op_cmp) (ops : List Op) → Within (In saved) (In (with_ops saved ops))
with_ops_more saved ops = (union_upper op_total saved (of_list ops)).0

pub with_ops_new : (saved : SetBy op_cmp) (ops : List Op) → Within (Contains ops) (In (with_ops saved ops))
with_ops_new saved ops op h =
    (union_upper op_total saved (of_list ops)).1 op ((listed_in ops (of_list ops) refl op).0 h)

-- a list of one item has no other
pub only_one : {X : Type 0} (y x : X) → Contains (y ∷ []) x → y ≡ x
only_one y x h = elim (Contains-push_cases [] y x h) [ inl n ↦ absurd (omega (arith, n.1)) | inr e ↦ e ]

pub in_none : {X : Type 0} {P : Type 0} (x : X) → Contains [] x → P
in_none x h = absurd (omega (arith, h.1))

test_cases : (b : Bool) → (b ≡ true) ⊎ (b ≡ false)
test_cases true = inl refl
test_cases false = inr refl

-- what no name tells apart of what is known is equal
abbrev pub NamesOnce : (Op → Type 0) → Type 0
NamesOnce known = (a b : Op) → known a → known b → a.name ≡ b.name → a ≡ b

-- ---- shapes of steps

-- nothing is saved or on the way but what was on the way
pub record MovesOn (n n' : Holding) : Type 0 where
  pub number : n'.number ≡ n.number
  pub kept : Within (In n.saved) (In n'.saved)
  pub gained : (op : Op) → In n'.saved op → In n.saved op ⊎ IsOnItsWay n.state op
  pub published : Within (Contains n'.published) (In n'.saved)
  pub due : Within (IsDue n'.state) (In n'.saved)
  pub on_the_way : (op : Op) → IsOnItsWay n'.state op → IsOnItsWay n.state op

-- what is begun is new
begun_new : (n : NodeState) (name : Name) (body : Body) → IsNextAfter n.saved n.number name
    → IsNew (holding n) (record { name = name; body = body })
begun_new n name body next =
    record {
      own = next.node_is;
      unknown = λ other saved same.
          let at_most = next.is_last.upper other saved (ap (λ x. x.node) same ∙ next.node_is) in
          let equal = ap (λ x. x.seq) same ∙ next.seq_is in
          absurd (omega (arith, at_most, equal));
    }

-- the batch that a state has on the way
on_its_way : {st : State} {batch : Batch} → st ≡ Running (Unsaved batch) → (op : Op) → Contains (ops_of batch) op
    → IsOnItsWay st op
on_its_way is op h = subst (λ (st : State). IsOnItsWay st op) (sym is) h

-- what an opening finds, where this is in doubt
module _ (m : NodeState) (doubt : Option Batch) (k : Kept) (own : IsOwn (kept_of m) doubt k) where
  found_more : Within (In m.saved) (In k.saved)
  found_more op h = elim own.saved [
    | inl e ↦ subst (λ t. In t op) (sym e) h
    | inr e ↦ subst (λ t. In t op) (sym e) (with_ops_more m.saved (ops_in doubt) op h)
  ]

  found_cases : (op : Op) → In k.saved op → In m.saved op ⊎ Contains (ops_in doubt) op
  found_cases op h = elim own.saved [
    | inl e ↦ inl (subst (λ t. In t op) e h)
    | inr e ↦ with_ops_cases m.saved (ops_in doubt) op (subst (λ t. In t op) e h)
  ]

module _ {known : Op → Type 0} where
  pub still_sound : {n : Holding} → IsSound known n → IsSound (KnownWith known n) n
  still_sound s =
      record {
        saved = λ op h. inr h;
        published = s.published;
        due = s.due;
        on_the_way = λ op h. elim (s.on_the_way op h) [ inl k ↦ inl (inl k) | inr new ↦ inr new ];
        alone = s.alone;
      }

  -- nothing changes
  pub stays : {n : Holding} → IsSound known n → IsStep known n n
  stays s = record { number = refl; kept = λ op h. h; gained = λ op h. inl (s.saved op h); sound = still_sound s }

  -- something else is on the way
  pub turns : (n : Holding) (to : State) → ((op : Op) → ¬ IsDue to op)
      → ((op : Op) → IsOnItsWay to op → known op ⊎ IsNew n op)
      → ((a b : Op) → IsOnItsWay to a → IsOnItsWay to b → a.name ≡ b.name → a ≡ b)
      → IsSound known n → IsStep known n (record n { state = to })
  turns n to none on_the_way alone s =
      record {
        number = refl;
        kept = λ op h. h;
        gained = λ op h. inl (s.saved op h);
        sound = record {
          saved = λ op h. inr h;
          published = s.published;
          due = λ op h. absurd (none op h);
          on_the_way = λ op h. elim (on_the_way op h) [
            | inl k ↦ inl (inl k)
            | inr new ↦ inr (record { own = new.own; unknown = new.unknown })
          ];
          alone = alone;
        };
      }

  module _ (n n' : Holding) (m : MovesOn n n') (s : IsSound known n) where
    came : (op : Op) → IsOnItsWay n.state op → known op ⊎ IsNew n op
        → known op ⊎ (IsOnItsWay n.state op × IsNew n op)
    came op way (inl k) = inl k
    came op way (inr new) = inr (way, new)

    still_new : (op : Op) → IsOnItsWay n.state op → IsNew n op → set.contains n'.saved op ≡ false → IsNew n' op
    still_new op way new lacks =
        record {
          own = new.own ∙ sym m.number;
          unknown = λ other h same. elim (m.gained other h) [
            | inl i ↦ new.unknown other i same
            | inr w ↦ absurd (cc (lacks, subst (In n'.saved) (s.alone other op w way same) h))
          ];
        }

    on_still : (op : Op) → IsOnItsWay n.state op → known op ⊎ IsNew n op
        → In n'.saved op ⊎ (set.contains n'.saved op ≡ false) → KnownWith known n' op ⊎ IsNew n' op
    on_still op way (inl k) is = inl (inl k)
    on_still op way (inr new) (inl i) = inl (inr i)
    on_still op way (inr new) (inr lacks) = inr (still_new op way new lacks)

    pub moves : IsStep known n n'
    moves =
        record {
          number = m.number;
          kept = m.kept;
          gained = λ op h. elim (m.gained op h) [ inl i ↦ inl (s.saved op i) | inr w ↦ came op w (s.on_the_way op w) ];
          sound = record {
            saved = λ op h. inr h;
            published = m.published;
            due = m.due;
            on_the_way = λ op h.
                on_still op (m.on_the_way op h) (s.on_the_way op (m.on_the_way op h))
                (test_cases (set.contains n'.saved op));
            alone = λ a b h k e. s.alone a b (m.on_the_way a h) (m.on_the_way b k) e;
          };
        }

  -- ---- jobs and orders

  pub begins_step : {n : NodeState} {body : Body} {maker : Option Pid} {desk : Option ℕ} {result : Result Name Fault}
      {n' : NodeState} → IsSound known (holding n) → Begins n body maker desk result n'
      → IsStep known (holding n) (holding n')
  begins_step {n} {body} s (Begins.begins {name = name} idle next) =
      turns (holding n) _ (λ op h. h)
      (λ op h. inr (subst (IsNew (holding n)) (only_one _ op h) (begun_new n name body next)))
      (λ a b h k e. sym (only_one _ a h) ∙ only_one _ b k) s
  begins_step s (Begins.taken why) = stays s
  begins_step s (Begins.spent idle last) = stays s

  pub jobs_step : {n : NodeState} {desk upto : ℕ} {job : Job} {result : Result Answer Fault} {n' : NodeState}
      → IsSound known (holding n) → Jobs n desk upto job result n' → IsStep known (holding n) (holding n')
  jobs_step s (Jobs.stopped why) = stays s
  jobs_step s (Jobs.no_room look less left) = stays s
  jobs_step s (Jobs.refused look decided) = stays s
  jobs_step s (Jobs.replied look decided) = stays s
  jobs_step s (Jobs.sent look decided) = stays s
  jobs_step {n} {desk} {upto} {job} s (Jobs.begun {v = v} {left = left} look decided begun) =
      begins_step {n = worked n desk v job left} s begun
  jobs_step s (Jobs.not_begun look decided begun) = stays s

  pub arrives_step : {n : NodeState} {d : Data} {result : Result Reply Fault} {n' : NodeState}
      → IsSound known (holding n) → Arrives n d result n' → IsStep known (holding n) (holding n')
  arrives_step s (Arrives.stopped why) = stays s
  arrives_step s (Arrives.refused at) = stays s
  arrives_step s (Arrives.arrives at) = stays s

  -- ---- received operations

  pub receives_step : {n : NodeState} {ops : SetBy op_cmp} {result : Result ℕ Fault} {n' : NodeState}
      → NamesOnce known → Within (In ops) known → IsSound known (holding n) → Receives n ops result n'
      → IsStep known (holding n) (holding n')
  receives_step names from s (Receives.stopped why) = stays s
  receives_step names from s (Receives.no_room is some) = stays s
  receives_step names from s (Receives.impostor is least fault) = stays s
  receives_step names from s (Receives.clash is least fault) = stays s
  receives_step names from s (Receives.nothing_new is can all) = stays s
  receives_step names from s (Receives.taken op is can there lacks why) = stays s
  receives_step {n} {ops} names from s (Receives.receives {new = new} is can lacking some) =
      let comes = λ (op : Op) (h : Contains (set.members new) op).
      from op ((lacking op).0 (listed_member new op h)).0 in
      turns (holding n) _ (λ op h. h) (λ op h. inl (comes op h))
      (λ a b h k e. names a b (comes a h) (comes b k) e) s

  -- ---- saving, publishing, giving up

  pub saves_step : {n : NodeState} {k : Kept} {result : Result (Unit {0}) Fault} {n' : NodeState} {k' : Kept}
      → IsSound known (holding n) → Saves n k result n' k' → IsStep known (holding n) (holding n')
  saves_step {n} s (Saves.saved {batch = batch} is) =
      moves (holding n) _ (record {
        number = refl;
        kept = with_ops_more n.saved (ops_of batch);
        gained = λ op h. elim (with_ops_cases n.saved (ops_of batch) op h) [
          | inl i ↦ inl i
          | inr l ↦ inr (on_its_way is op l)
        ];
        published = λ op h. with_ops_more n.saved (ops_of batch) op (s.published op h);
        due = with_ops_new n.saved (ops_of batch);
        on_the_way = λ op h. on_its_way is op h;
      }) s
  saves_step s (Saves.no_room is) = stays s
  saves_step {n} s (Saves.failed {batch = batch} is left) =
      moves (holding n) _ (record {
        number = refl;
        kept = λ op h. h;
        gained = λ op h. inl h;
        published = s.published;
        due = λ op h. absurd h;
        on_the_way = λ op h. on_its_way is op h;
      }) s
  saves_step s (Saves.none why) = stays s

  pub publishes_step : {n : NodeState} {result : Result ℕ Fault} {n' : NodeState}
      → IsSound known (holding n) → Publishes n result n' → IsStep known (holding n) (holding n')
  publishes_step {n} s (Publishes.published {batch = batch} is) =
      moves (holding n) _ (record {
        number = refl;
        kept = λ op h. h;
        gained = λ op h. inl h;
        published = λ op h. elim (Contains-append_cases n.published (ops_of batch) op h) [
          | inl p ↦ s.published op p
          | inr l ↦ s.due op (subst (λ (st : State). IsDue st op) (sym is) l)
        ];
        due = λ op h. absurd h;
        on_the_way = λ op h. absurd h;
      }) s
  publishes_step s (Publishes.no_room is) = stays s
  publishes_step s (Publishes.none why) = stays s

  pub cancels_step : {n : NodeState} {result : Result (Unit {0}) Fault} {n' : NodeState}
      → IsSound known (holding n) → Cancels n result n' → IsStep known (holding n) (holding n')
  cancels_step {n} s (Cancels.given_up is) =
      turns (holding n) _ (λ op h. h) (λ op h. absurd h) (λ a b h. absurd h) s
  cancels_step s (Cancels.none why) = stays s

  -- ---- openings

  -- An opening of a node m, that is n but that what was on the way may be saved.
  module _ (n : Holding) (m : NodeState) (number : m.number ≡ n.number) (more : Within (In n.saved) (In m.saved))
      (gained : (op : Op) → In m.saved op → In n.saved op ⊎ IsOnItsWay n.state op)
      (published : Within (Contains m.published) (In m.saved))
      (doubt : Option Batch) (in_doubt : (op : Op) → Contains (ops_in doubt) op → IsOnItsWay n.state op) where
    opened_step : (k : Kept) → IsOwn (kept_of m) doubt k → (desks : ℕ) → IsSound known n
        → IsStep known n (holding (opened desks k))
    opened_step k own desks s =
        moves n _ (record {
          number = own.number ∙ number;
          kept = λ op h. found_more m doubt k own op (more op h);
          gained = λ op h. elim (found_cases m doubt k own op h) [ inl i ↦ gained op i | inr l ↦ inr (in_doubt op l) ];
          published = λ op h. listed_member k.saved op h;
          due = λ op h. absurd h;
          on_the_way = λ op h. absurd h;
        }) s

    opens_step : {k : Kept} {result : Result ℕ Fault} {n' : NodeState} {k' : Kept} → IsSound known n
        → OpensAgain m doubt k result n' k' → IsStep known n (holding n')
    opens_step {k} s (OpensAgain.opens (Opens.opens own left)) = opened_step k own (length m.views) s
    opens_step s (OpensAgain.stays h) =
        moves n _ (record {
          number = number;
          kept = more;
          gained = gained;
          published = published;
          due = λ op h. absurd h;
          on_the_way = in_doubt;
        }) s

  -- nothing is saved before
  loses_step : (n : NodeState) {k : Kept} {result : Result ℕ Fault} {n' : NodeState} {k' : Kept}
      → IsSound known (holding n) → OpensAgain n None k result n' k' → IsStep known (holding n) (holding n')
  loses_step n s h =
      opens_step (holding n) n refl (λ op h. h) (λ op h. inl h) s.published None (λ op h. in_none op h) s h

  -- what is in doubt may be saved
  pub doubts_step : (n : NodeState) {doubt : Option Batch} {k : Kept} {result : Result ℕ Fault} {n' : NodeState}
      {k' : Kept}
      → IsSound known (holding n) → n.state ≡ Stopped doubt → OpensAgain n doubt k result n' k'
      → IsStep known (holding n) (holding n')
  doubts_step n {doubt} s is h =
      opens_step (holding n) n refl (λ op h. h) (λ op h. inl h) s.published doubt
      (λ op h. subst (λ (st : State). IsOnItsWay st op) (sym is) h) s h

  pub restarts_step : {n : NodeState} {k : Kept} {keeps : Bool} {result : Result ℕ Fault} {n' : NodeState} {k' : Kept}
      → IsSound known (holding n) → Restarts n k keeps result n' k' → IsStep known (holding n) (holding n')
  restarts_step s (Restarts.not_saved kept is f) = saves_step s f
  restarts_step {n} s (Restarts.saved {batch = batch} kept is h) =
      opens_step (holding n) (stored n batch) refl (with_ops_more n.saved (ops_of batch))
      (λ op h. elim (with_ops_cases n.saved (ops_of batch) op h) [ inl i ↦ inl i | inr l ↦ inr (on_its_way is op l) ])
      (λ op h. with_ops_more n.saved (ops_of batch) op (s.published op h)) None (λ op h. in_none op h) s h
  restarts_step {n} s (Restarts.lost lost is h) = loses_step n s h
  restarts_step {n} s (Restarts.idle is h) = loses_step n s h
  restarts_step {n} s (Restarts.due is h) = loses_step n s h
  restarts_step {n} s (Restarts.stopped is h) = doubts_step n s is h

  pub reopens_step : {n : NodeState} {k : Kept} {result : Result ℕ Fault} {n' : NodeState} {k' : Kept}
      → IsSound known (holding n) → Reopens n k result n' k' → IsStep known (holding n) (holding n')
  reopens_step {n} s (Reopens.reopens is h) = doubts_step n s is h
  reopens_step s (Reopens.running is) = stays s

-- what is opened is sound where it is known
pub opened_sound : {known : Op → Type 0} (desks : ℕ) (k : Kept) → Within (In k.saved) known
    → IsSound known (holding (opened desks k))
opened_sound desks k from =
    record {
      saved = from;
      published = λ op h. listed_member k.saved op h;
      due = λ op h. absurd h;
      on_the_way = λ op h. absurd h;
      alone = λ a b h. absurd h;
    }

-- what is sound stays so where more is known
pub more_sound : {known more : Op → Type 0} {n : Holding} → Within known more → IsSound known n → IsSound more n
more_sound f s =
    record {
      saved = λ op h. f op (s.saved op h);
      published = s.published;
      due = s.due;
      on_the_way = λ op h. elim (s.on_the_way op h) [ inl k ↦ inl (f op k) | inr new ↦ inr new ];
      alone = s.alone;
    }
