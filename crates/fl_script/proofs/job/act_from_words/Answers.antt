use Rattle.std.proofs.Common.{arith, ◌≡◌, ◌≤◌, inr, codes, length}
use Rattle.std.proofs.lemmas.Grind.{common_steps}
use Rattle.fl_script.proofs.ActVerbs.{IsOfAct, orders_alone, of_text, at_most_five}
use Rattle.fl_script.proofs.Found.{starves_as}
use Rattle.fl_script.proofs.job.act_from_words.Goals as goal
use Rattle.fl_script.proofs.job.act_from_words.Goals.{in_default-via-then-as_bytes-lt3, in_default-via-else-as_bytes-lt3+then-this-lt4+in-97+in-115+in_default-1, in_default-via-else-as_bytes-lt3+then-this-lt4+in-97+in_default-1, in_default-via-else-as_bytes-lt3+then-this-lt4+in_default-1, in_default-via-else-as_bytes-lt3+else-this-lt4+then-this-lt5+in-115+in-101+in-110+in_default-1, in_default-via-else-as_bytes-lt3+else-this-lt4+then-this-lt5+in-115+in-101+in_default-1, in_default-via-else-as_bytes-lt3+else-this-lt4+then-this-lt5+in-115+in_default-1, in_default-via-else-as_bytes-lt3+else-this-lt4+then-this-lt5+in-116+in-97+in-107+in_default-1, in_default-via-else-as_bytes-lt3+else-this-lt4+then-this-lt5+in-116+in-97+in_default-1, in_default-via-else-as_bytes-lt3+else-this-lt4+then-this-lt5+in-116+in-117+in-110+in_default-1, in_default-via-else-as_bytes-lt3+else-this-lt4+then-this-lt5+in-116+in-117+in_default-1, in_default-via-else-as_bytes-lt3+else-this-lt4+then-this-lt5+in-116+in_default-1, in_default-via-else-as_bytes-lt3+else-this-lt4+then-this-lt5+in-101+in-109+in-105+in_default-1, in_default-via-else-as_bytes-lt3+else-this-lt4+then-this-lt5+in-101+in-109+in_default-1, in_default-via-else-as_bytes-lt3+else-this-lt4+then-this-lt5+in-101+in-120+in-105+in_default-1, in_default-via-else-as_bytes-lt3+else-this-lt4+then-this-lt5+in-101+in-120+in_default-1, in_default-via-else-as_bytes-lt3+else-this-lt4+then-this-lt5+in-101+in_default-1, in_default-via-else-as_bytes-lt3+else-this-lt4+then-this-lt5+in-100+in-114+in-111+in_default-1, in_default-via-else-as_bytes-lt3+else-this-lt4+then-this-lt5+in-100+in-114+in_default-1, in_default-via-else-as_bytes-lt3+else-this-lt4+then-this-lt5+in-100+in_default-1, in_default-via-else-as_bytes-lt3+else-this-lt4+then-this-lt5+in-111+in-112+in-101+in_default-1, in_default-via-else-as_bytes-lt3+else-this-lt4+then-this-lt5+in-111+in-112+in_default-1, in_default-via-else-as_bytes-lt3+else-this-lt4+then-this-lt5+in-111+in_default-1, in_default-via-else-as_bytes-lt3+else-this-lt4+then-this-lt5+in_default-1, in_default-via-else-as_bytes-lt3+else-this-lt4+else-this-lt5+then-this-lt6+in-108+in-97+in-98+in-101+in_default-1, in_default-via-else-as_bytes-lt3+else-this-lt4+else-this-lt5+then-this-lt6+in-108+in-97+in-98+in_default-1, in_default-via-else-as_bytes-lt3+else-this-lt4+else-this-lt5+then-this-lt6+in-108+in-97+in_default-1, in_default-via-else-as_bytes-lt3+else-this-lt4+else-this-lt5+then-this-lt6+in-108+in_default-1, in_default-via-else-as_bytes-lt3+else-this-lt4+else-this-lt5+then-this-lt6+in-115+in-112+in-97+in-119+in_default-1, in_default-via-else-as_bytes-lt3+else-this-lt4+else-this-lt5+then-this-lt6+in-115+in-112+in-97+in_default-1, in_default-via-else-as_bytes-lt3+else-this-lt4+else-this-lt5+then-this-lt6+in-115+in-112+in_default-1, in_default-via-else-as_bytes-lt3+else-this-lt4+else-this-lt5+then-this-lt6+in-115+in_default-1, in_default-via-else-as_bytes-lt3+else-this-lt4+else-this-lt5+then-this-lt6+in-99+in-108+in-111+in-115+in_default-1, in_default-via-else-as_bytes-lt3+else-this-lt4+else-this-lt5+then-this-lt6+in-99+in-108+in-111+in_default-1, in_default-via-else-as_bytes-lt3+else-this-lt4+else-this-lt5+then-this-lt6+in-99+in-108+in_default-1, in_default-via-else-as_bytes-lt3+else-this-lt4+else-this-lt5+then-this-lt6+in-99+in_default-1, in_default-via-else-as_bytes-lt3+else-this-lt4+else-this-lt5+then-this-lt6+in-101+in-110+in-116+in-101-this-39+in_default-1, in_default-via-else-as_bytes-lt3+else-this-lt4+else-this-lt5+then-this-lt6+in-101+in-110+in-116+in_default-1, in_default-via-else-as_bytes-lt3+else-this-lt4+else-this-lt5+then-this-lt6+in-101+in-110+in_default-1, in_default-via-else-as_bytes-lt3+else-this-lt4+else-this-lt5+then-this-lt6+in-101+in_default-1, in_default-via-else-as_bytes-lt3+else-this-lt4+else-this-lt5+then-this-lt6+in_default-1, in_default-via-else-as_bytes-lt3+else-this-lt4+else-this-lt5+else-this-lt6}

-- behind all the verbs that are looked for there is none of them
none_is_left : (c : goal.In_default) → IsOfAct c.args.verb.now → ⊥
none_is_left c =
    elim c.in_default.branch [
      | in_default-via-then-as_bytes-lt3 w ↦ λ is. absurd (grind (arith))
      | in_default-via-else-as_bytes-lt3+then-this-lt4+in-97+in-115+in_default-1 w ↦ λ is. absurd (grind (arith))
      | in_default-via-else-as_bytes-lt3+then-this-lt4+in-97+in_default-1 w ↦ λ is. absurd (grind (arith))
      | in_default-via-else-as_bytes-lt3+then-this-lt4+in_default-1 w ↦ λ is. absurd (grind (arith))
      | in_default-via-else-as_bytes-lt3+else-this-lt4+then-this-lt5+in-115+in-101+in-110+in_default-1 w ↦ λ is. absurd (grind (arith))
      | in_default-via-else-as_bytes-lt3+else-this-lt4+then-this-lt5+in-115+in-101+in_default-1 w ↦ λ is. absurd (grind (arith))
      | in_default-via-else-as_bytes-lt3+else-this-lt4+then-this-lt5+in-115+in_default-1 w ↦ λ is. absurd (grind (arith))
      | in_default-via-else-as_bytes-lt3+else-this-lt4+then-this-lt5+in-116+in-97+in-107+in_default-1 w ↦ λ is. absurd (grind (arith))
      | in_default-via-else-as_bytes-lt3+else-this-lt4+then-this-lt5+in-116+in-97+in_default-1 w ↦ λ is. absurd (grind (arith))
      | in_default-via-else-as_bytes-lt3+else-this-lt4+then-this-lt5+in-116+in-117+in-110+in_default-1 w ↦ λ is. absurd (grind (arith))
      | in_default-via-else-as_bytes-lt3+else-this-lt4+then-this-lt5+in-116+in-117+in_default-1 w ↦ λ is. absurd (grind (arith))
      | in_default-via-else-as_bytes-lt3+else-this-lt4+then-this-lt5+in-116+in_default-1 w ↦ λ is. absurd (grind (arith))
      | in_default-via-else-as_bytes-lt3+else-this-lt4+then-this-lt5+in-101+in-109+in-105+in_default-1 w ↦ λ is. absurd (grind (arith))
      | in_default-via-else-as_bytes-lt3+else-this-lt4+then-this-lt5+in-101+in-109+in_default-1 w ↦ λ is. absurd (grind (arith))
      | in_default-via-else-as_bytes-lt3+else-this-lt4+then-this-lt5+in-101+in-120+in-105+in_default-1 w ↦ λ is. absurd (grind (arith))
      | in_default-via-else-as_bytes-lt3+else-this-lt4+then-this-lt5+in-101+in-120+in_default-1 w ↦ λ is. absurd (grind (arith))
      | in_default-via-else-as_bytes-lt3+else-this-lt4+then-this-lt5+in-101+in_default-1 w ↦ λ is. absurd (grind (arith))
      | in_default-via-else-as_bytes-lt3+else-this-lt4+then-this-lt5+in-100+in-114+in-111+in_default-1 w ↦ λ is. absurd (grind (arith))
      | in_default-via-else-as_bytes-lt3+else-this-lt4+then-this-lt5+in-100+in-114+in_default-1 w ↦ λ is. absurd (grind (arith))
      | in_default-via-else-as_bytes-lt3+else-this-lt4+then-this-lt5+in-100+in_default-1 w ↦ λ is. absurd (grind (arith))
      | in_default-via-else-as_bytes-lt3+else-this-lt4+then-this-lt5+in-111+in-112+in-101+in_default-1 w ↦ λ is. absurd (grind (arith))
      | in_default-via-else-as_bytes-lt3+else-this-lt4+then-this-lt5+in-111+in-112+in_default-1 w ↦ λ is. absurd (grind (arith))
      | in_default-via-else-as_bytes-lt3+else-this-lt4+then-this-lt5+in-111+in_default-1 w ↦ λ is. absurd (grind (arith))
      | in_default-via-else-as_bytes-lt3+else-this-lt4+then-this-lt5+in_default-1 w ↦ λ is. absurd (grind (arith))
      | in_default-via-else-as_bytes-lt3+else-this-lt4+else-this-lt5+then-this-lt6+in-108+in-97+in-98+in-101+in_default-1 w ↦ λ is. absurd (grind (arith))
      | in_default-via-else-as_bytes-lt3+else-this-lt4+else-this-lt5+then-this-lt6+in-108+in-97+in-98+in_default-1 w ↦ λ is. absurd (grind (arith))
      | in_default-via-else-as_bytes-lt3+else-this-lt4+else-this-lt5+then-this-lt6+in-108+in-97+in_default-1 w ↦ λ is. absurd (grind (arith))
      | in_default-via-else-as_bytes-lt3+else-this-lt4+else-this-lt5+then-this-lt6+in-108+in_default-1 w ↦ λ is. absurd (grind (arith))
      | in_default-via-else-as_bytes-lt3+else-this-lt4+else-this-lt5+then-this-lt6+in-115+in-112+in-97+in-119+in_default-1 w ↦ λ is. absurd (grind (arith))
      | in_default-via-else-as_bytes-lt3+else-this-lt4+else-this-lt5+then-this-lt6+in-115+in-112+in-97+in_default-1 w ↦ λ is. absurd (grind (arith))
      | in_default-via-else-as_bytes-lt3+else-this-lt4+else-this-lt5+then-this-lt6+in-115+in-112+in_default-1 w ↦ λ is. absurd (grind (arith))
      | in_default-via-else-as_bytes-lt3+else-this-lt4+else-this-lt5+then-this-lt6+in-115+in_default-1 w ↦ λ is. absurd (grind (arith))
      | in_default-via-else-as_bytes-lt3+else-this-lt4+else-this-lt5+then-this-lt6+in-99+in-108+in-111+in-115+in_default-1 w ↦ λ is. absurd (grind (arith))
      | in_default-via-else-as_bytes-lt3+else-this-lt4+else-this-lt5+then-this-lt6+in-99+in-108+in-111+in_default-1 w ↦ λ is. absurd (grind (arith))
      | in_default-via-else-as_bytes-lt3+else-this-lt4+else-this-lt5+then-this-lt6+in-99+in-108+in_default-1 w ↦ λ is. absurd (grind (arith))
      | in_default-via-else-as_bytes-lt3+else-this-lt4+else-this-lt5+then-this-lt6+in-99+in_default-1 w ↦ λ is. absurd (grind (arith))
      | in_default-via-else-as_bytes-lt3+else-this-lt4+else-this-lt5+then-this-lt6+in-101+in-110+in-116+in-101-this-39+in_default-1 w ↦ λ is. absurd (grind (arith))
      | in_default-via-else-as_bytes-lt3+else-this-lt4+else-this-lt5+then-this-lt6+in-101+in-110+in-116+in_default-1 w ↦ λ is. absurd (grind (arith))
      | in_default-via-else-as_bytes-lt3+else-this-lt4+else-this-lt5+then-this-lt6+in-101+in-110+in_default-1 w ↦ λ is. absurd (grind (arith))
      | in_default-via-else-as_bytes-lt3+else-this-lt4+else-this-lt5+then-this-lt6+in-101+in_default-1 w ↦ λ is. absurd (grind (arith))
      | in_default-via-else-as_bytes-lt3+else-this-lt4+else-this-lt5+then-this-lt6+in_default-1 w ↦ λ is. absurd (grind (arith))
      | in_default-via-else-as_bytes-lt3+else-this-lt4+else-this-lt5+else-this-lt6 w ↦
          let long : length c.args.verb.now ≤ 5 → ⊥ = λ few. absurd (grind (arith)) in
          λ is. long (at_most_five _ is)
    ]

pub order_act-requires : goal.order_act-requires
order_act-requires c = orders_alone _ _ (none_is_left c)

pub returns-in-label-clause-ok : goal.returns-in-label-clause-ok
returns-in-label-clause-ok c = of_text _ _ _ _ (grind (arith, common_steps)) c.label_act.ensures.ok

pub returns-in-label-clause-memory : goal.returns-in-label-clause-memory
returns-in-label-clause-memory c =
    let verb : c.args.verb.now ≡ codes "label" = grind (arith, common_steps) in
    starves_as _ c.label_act.ensures.memory (λ many. record { is = inr (verb, many) })

pub returns-in-send-clause-ok : goal.returns-in-send-clause-ok
returns-in-send-clause-ok c = of_text _ _ _ _ (grind (arith, common_steps)) c.send_act.ensures

pub returns-in-take-clause-ok : goal.returns-in-take-clause-ok
returns-in-take-clause-ok c = of_text _ _ _ _ (grind (arith, common_steps)) c.take_act.ensures.ok

pub returns-in-emit-clause-ok : goal.returns-in-emit-clause-ok
returns-in-emit-clause-ok c = of_text _ _ _ _ (grind (arith, common_steps)) c.emit_act.ensures

pub returns-in-spawn-clause-ok : goal.returns-in-spawn-clause-ok
returns-in-spawn-clause-ok c = of_text _ _ _ _ (grind (arith, common_steps)) c.spawn_act.ensures

pub returns-in-exit-clause-ok : goal.returns-in-exit-clause-ok
returns-in-exit-clause-ok c = of_text _ _ _ _ (grind (arith, common_steps)) c.exit_act.ensures.ok

pub returns-in-drop-clause-ok : goal.returns-in-drop-clause-ok
returns-in-drop-clause-ok c = of_text _ _ _ _ (grind (arith, common_steps)) c.drop_act.ensures.ok

pub returns-in-open-clause-ok : goal.returns-in-open-clause-ok
returns-in-open-clause-ok c = of_text _ _ _ _ (grind (arith, common_steps)) c.open_act.ensures

pub returns-in-tune-clause-ok : goal.returns-in-tune-clause-ok
returns-in-tune-clause-ok c = of_text _ _ _ _ (grind (arith, common_steps)) c.tune_act.ensures

pub returns-in-close-clause-ok : goal.returns-in-close-clause-ok
returns-in-close-clause-ok c = of_text _ _ _ _ (grind (arith, common_steps)) c.close_act.ensures.ok

pub returns-in-enter-clause-ok : goal.returns-in-enter-clause-ok
returns-in-enter-clause-ok c = of_text _ _ _ _ (grind (arith, common_steps)) c.enter_act.ensures.ok
